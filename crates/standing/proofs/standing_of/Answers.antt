-- `standing_of` meets its contract: each exit is a cause of the list, or the place where n stands. Assumes nothing.
use mathlib.Core.Path.{sym, ◌∙◌}
use Rattle.table.proofs.WellFormed.{formed_words}
use Rattle.standing.proofs.Laws.{judged, no_table}
use Rattle.standing.proofs.standing_of.Goals as goal

pub returns-then-not-well_formed : goal.returns-then-not-well_formed
returns-then-not-well_formed c = no_table c.args.t.now c.args.n (sym c.well_formed-2.ensures ∙ c.if-not-well_formed.true)

pub locate-requires : goal.locate-requires
locate-requires c = formed_words _ (sym c.well_formed-2.ensures ∙ c.if-not-well_formed.false)

pub returns : goal.returns
returns c = rw c.or.ensures (judged c.args.t.now c.args.n c.locate.result (sym c.well_formed-2.ensures ∙ c.if-not-well_formed.false) c.locate.ensures)
