-- `judged` meets its contract. Assumes nothing.
use mathlib.Core.Path.{refl, sym, ◌∙◌}
use native.Mathlib.Omega.{arith}
use Rattle.table.proofs.WellFormed.{formed_words}
use Rattle.finding.proofs.Surveys.{refused_1, refused_10, not_refused}
use Rattle.finding.proofs.judged.Goals as goal

pub returns-then-not-well_formed : goal.returns-then-not-well_formed
returns-then-not-well_formed c = refused_1 c.args.t.now c.args.room (sym c.well_formed-2.ensures ∙ c.if-not-well_formed.true)

pub bounds-t-1 : goal.bounds-t-1
bounds-t-1 c = let f = formed_words _ (sym c.well_formed-2.ensures ∙ c.if-not-well_formed.false) in omega arith

pub returns-then-room-t : goal.returns-then-room-t
returns-then-room-t c = refused_10 c.args.t.now c.args.room (sym c.well_formed-2.ensures ∙ c.if-not-well_formed.false) c.if-room-t.true

pub returns : goal.returns
returns c = (not_refused c.args.t.now c.args.room (sym c.well_formed-2.ensures ∙ c.if-not-well_formed.false) c.if-room-t.false, refl)
