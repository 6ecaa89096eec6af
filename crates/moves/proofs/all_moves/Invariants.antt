-- `all_moves` meets its contract. The loop's invariant: the numbers so far are right. Assumes nothing.
use mathlib.Core.Path.{◌≡◌}
use lib.ListN.{length}
use Rattle.model.specs.Table.{members_in}
use Rattle.model.specs.Ring.{moves_to_ring}
use Rattle.places.specs.Each.{Each}
use Rattle.moves.specs.Ways.{AllSoFar}
use Rattle.moves.proofs.all_moves.Given as goal

abbrev pub invariant-loop-k : goal.invariant-loop-k
invariant-loop-k l = (length l.a ≡ 256) × Each (members_in l.t) (moves_to_ring (members_in l.t)) l.k l.a × AllSoFar l.t l.found
