-- `store_way` meets its contract. The loop's invariant: the way left is to be stored, and the first place is if any is. Assumes nothing.
use Prim.Native.Nat.{◌+◌, ◌<◌}
use mathlib.Core.Path.{◌≡◌}
use lib.ListN.{get_or}
use Rattle.moves.specs.Ways.{moves_at, AllSoFar, Along}
use Rattle.moves.proofs.store_way.Given as goal

abbrev pub invariant-loop-left : goal.invariant-loop-left
invariant-loop-left l = AllSoFar l.t l.a × Along l.t l.v l.left l.y × (l.left ≡ l.initial.left → l.y ≡ l.k) × (l.left < l.initial.left → get_or l.a l.k 0 ≡ moves_at l.t l.k + 1)
