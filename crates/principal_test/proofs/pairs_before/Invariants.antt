-- `pairs_before` meets its contract. The loop's invariant: the pairs counted and those of the rest of the list are those of the whole list.
-- Assumes nothing.
use Rattle.principal_test.proofs.Laws.{Counted}
use Rattle.principal_test.proofs.pairs_before.Given as goal

abbrev pub invariant-loop-i : goal.invariant-loop-i
invariant-loop-i l = Counted l.t l.k l.x l.a l.i
