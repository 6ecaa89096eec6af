-- `verdict_of` meets its contract: each exit is one case of the verdict. Assumes nothing.
use mathlib.Core.Path.{sym, ◌∙◌}
use Rattle.laws.specs.Verdicts.{verdict_ideal, verdict_sound, verdict_unsound}
use Rattle.verdict.proofs.verdict_of.Goals as goal

pub returns-then-not-is_sound : goal.returns-then-not-is_sound
returns-then-not-is_sound c = verdict_unsound _ (sym c.is_sound.ensures ∙ c.if-not-is_sound.true)

pub returns-then-is_ideal : goal.returns-then-is_ideal
returns-then-is_ideal c = verdict_ideal _ (sym c.is_sound.ensures ∙ c.if-not-is_sound.false) (sym c.is_ideal.ensures ∙ c.if-is_ideal.true)

pub returns : goal.returns
returns c = verdict_sound _ (sym c.is_sound.ensures ∙ c.if-not-is_sound.false) (sym c.is_ideal.ensures ∙ c.if-is_ideal.false)
