-- `begun_of` meets its contract. Assumes nothing.
use mathlib.Core.Path.{sym, ◌∙◌}
use Rattle.table.proofs.WellFormed.{formed_words}
use Rattle.settle.proofs.Laws.{no_table, judged_formed}
use Rattle.settle.proofs.begun_of.Goals as goal

pub passed_if_sound-requires : goal.passed_if_sound-requires
passed_if_sound-requires c = formed_words _ (sym c.well_formed-2.ensures ∙ c.if-well_formed.true)

pub returns-then-well_formed : goal.returns-then-well_formed
returns-then-well_formed c = judged_formed _ (sym c.well_formed-2.ensures ∙ c.if-well_formed.true) _ _ c.passed_if_sound.ensures c.ok_or.ensures.value

pub returns : goal.returns
returns c = no_table _ (sym c.well_formed-2.ensures ∙ c.if-well_formed.false)
