-- `verdict_now` meets its contract. Assumes nothing.
use mathlib.Core.Path.{sym, ◌∙◌}
use Rattle.laws.specs.Verdicts.{verdict_ideal, verdict_sound}
use Rattle.turns.proofs.Lasting.{good_formed}
use Rattle.settle.proofs.verdict_now.Goals as goal

pub is_ideal-requires : goal.is_ideal-requires
is_ideal-requires c = good_formed c.requires

pub returns-then-is_ideal : goal.returns-then-is_ideal
returns-then-is_ideal c = verdict_ideal _ c.requires.is_sound (sym c.is_ideal.ensures ∙ c.if-is_ideal.true)

pub returns : goal.returns
returns c = verdict_sound _ c.requires.is_sound (sym c.is_ideal.ensures ∙ c.if-is_ideal.false)
