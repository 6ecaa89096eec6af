-- The loop's invariant: the numbers from i on, placed after those before, give the whole. Assumes nothing.
use Prim.Native.Nat.{◌+◌, ◌*◌, ◌-◌}
use mathlib.Core.Path.{◌≡◌}
use lib.ListN.{drop}
use Rattle.model.specs.Image.{numbers_at}
use Rattle.octets.specs.Placed.{placed}
use Rattle.octets.proofs.get_run.Given as goal

abbrev pub invariant-loop-i : goal.invariant-loop-i
invariant-loop-i l = placed (l.at + l.i) (numbers_at (l.n - l.i) (drop (4 * l.i) l.bs)) l.t ≡ placed l.at (numbers_at l.n l.bs) l.initial.t
