-- `doubled` meets its contract. The loop's invariant: the places so far are right. Assumes nothing.
use Prim.Native.Nat.{ℕ, ◌<◌}
use mathlib.Core.Path.{◌≡◌}
use lib.ListN.{length, get_or}
use Rattle.ring.specs.Far.{from_place}
use Rattle.ring.proofs.doubled.Given as goal

abbrev pub invariant-loop-k : goal.invariant-loop-k
invariant-loop-k l = (length l.d ≡ 256) × ((i : ℕ) → i < l.k → get_or l.d i 0 ≡ from_place l.n l.a (get_or l.a i 0))
