-- `far_places` meets its contract. The loop's invariant: the array has where the moves counted lead. Assumes nothing.
use Prim.Native.Nat.{◌-◌, ◌≤◌}
use mathlib.Core.Path.{◌≡◌}
use lib.ListN.{length}
use Rattle.ring.proofs.Rings.{Along}
use Rattle.ring.proofs.far_places.Given as goal

abbrev pub invariant-loop-moves : goal.invariant-loop-moves
invariant-loop-moves l = (2 ≤ l.moves) × (length l.a ≡ 256) × Along l.t l.a l.moves

abbrev pub decreases-loop-moves : goal.decreases-loop-moves
decreases-loop-moves l = l.n - l.moves
