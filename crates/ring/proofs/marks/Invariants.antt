-- `marks` meets its contract. The loop's invariant: marked are the places among the numbers so far. Assumes nothing.
use Prim.Native.Nat.{ℕ, ◌<◌}
use mathlib.Core.Path.{◌≡◌}
use lib.ListN.{length, get_or, take}
use Rattle.model.specs.Lists.{bit, contains}
use Rattle.ring.proofs.marks.Given as goal

abbrev pub invariant-loop-j : goal.invariant-loop-j
invariant-loop-j l = (length l.m ≡ 256) × ((j : ℕ) → j < l.n → get_or l.m j 0 ≡ bit (contains (take l.j-index l.j-items) j))
