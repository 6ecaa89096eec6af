-- `fill_best` meets its contract. The loop's invariant: the places so far are right, and what is passed over so far and from here on is the sum.
-- Assumes nothing.
use native.Mathlib.Omega.{arith}
use borrow.Author.Rules.{rules}
use mathlib.Core.Path.{refl, ◌∙◌}
use lib.ListN.{length-set}
use Rattle.best_successors.specs.Places.{next_place}
use Rattle.model.specs.Table.{members_in}
use Rattle.best_successors.proofs.Laws.{stored, all_stored, passed_on, passed_end, or_count, best_most}
use Rattle.best_successors.proofs.fill_best.Goals as goal

pub loop-k-preserved : goal.loop-k-preserved
loop-k-preserved c =
    let t = c.args.t.now in
    let l = c.loop-k in
    let e = c.best_of-s.ensures in
    let on = passed_on t l.k c.best_of-s.result.passed (search rules) e.1 in
    let place = c.unwrap_or.ensures ∙ or_count e.0 (best_most t l.k (next_place (members_in t) l.k) (search rules) refl) in
    (simp length-set l.invariant.0, stored t l.best l.k c.unwrap_or.result (omega arith) l.invariant.1 place, omega arith, omega (arith, on, l.invariant.3))

pub returns : goal.returns
returns c =
    let t = c.args.t.now in
    let l = c.loop-k in
    (all_stored t l.best l.k l.invariant.1 (omega arith), omega (arith, passed_end t l.k (omega arith), l.invariant.3))
