-- `place` meets its contract. Assumes nothing.
use native.Mathlib.Omega.{arith}
use mathlib.Core.Path.{sym, ap, ◌∙◌}
use lib.ListN.{get_or}
use Rattle.table.proofs.Place.{stands_there}
use Rattle.best_successors.specs.Places.{at_place}
use Rattle.best_successors.proofs.Laws.{placed, unplaced, at_some, at_none}
use Rattle.best_successors.proofs.place.Goals as goal

pub returns-then-id_at-x : goal.returns-then-id_at-x
returns-then-id_at-x c =
    let t = c.args.t.now in
    let e = placed t c.requires.formed_words c.args.x c.args.guess c.requires.guess_bound (sym c.id_at.ensures ∙ c.if-id_at-x.true) in
    sym (at_some c.requires.guess_bound) ∙ ap (at_place (get_or t 1 0)) e

pub returns-then-stands_at : goal.returns-then-stands_at
returns-then-stands_at c =
    let t = c.args.t.now in
    let w = stands_there t c.rank-k.result c.args.x (sym c.stands_at.ensures ∙ c.if-stands_at.true) in
    sym (at_some w.0) ∙ ap (at_place (get_or t 1 0)) (placed t c.requires.formed_words c.args.x c.rank-k.result w.0 w.1)

pub returns : goal.returns
returns c = rw (← unplaced c.args.t.now c.requires.formed_words c.args.x c.rank-k.result c.rank-k.ensures.0 (sym c.stands_at.ensures ∙ c.if-stands_at.false)) (sym (at_none (omega arith)))
