-- `way_from` meets its contract. The loop's invariant: so many moves lead to a place whose moves are not known. Assumes nothing.
use Prim.Native.Nat.{◌<◌}
use mathlib.Core.Path.{◌≡◌}
use lib.ListN.{get_or}
use Rattle.moves.proofs.Ways.{Leads}
use Rattle.moves.proofs.way_from.Given as goal

abbrev pub invariant-loop-c : goal.invariant-loop-c
invariant-loop-c l = (l.y < l.n) × (get_or l.a l.y 0 ≡ 0) × Leads l.t l.k l.c l.y
