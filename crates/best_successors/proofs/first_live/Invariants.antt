-- `first_live` meets its contract. The loop's invariant: the search of the entries left is what is left of the whole. Assumes nothing.
use Rattle.best_successors.proofs.Laws.{Left}
use Rattle.best_successors.proofs.first_live.Given as goal

abbrev pub invariant-loop-passed : goal.invariant-loop-passed
invariant-loop-passed l = Left l.t l.l l.passed
