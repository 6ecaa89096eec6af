-- `fill_best` meets its contract. The loop's invariant: the places so far are right, and what is passed over so far and from here on is the sum.
-- Assumes nothing.
use Prim.Native.Nat.{◌+◌, ◌*◌, ◌≤◌}
use mathlib.Core.Path.{◌≡◌}
use lib.ListN.{length}
use Rattle.model.specs.Table.{members_in}
use Rattle.model.specs.Ring.{passed_by_all}
use Rattle.best_successors.proofs.Laws.{BestTo, passed_from}
use Rattle.best_successors.proofs.fill_best.Given as goal

abbrev pub invariant-loop-k : goal.invariant-loop-k
invariant-loop-k l = (length l.best ≡ 256) × BestTo l.t l.best l.k × (l.passed ≤ 8 * l.k) × (l.passed + passed_from l.t l.k ≡ passed_by_all (members_in l.t))
