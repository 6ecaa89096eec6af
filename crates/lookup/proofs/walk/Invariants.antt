-- The loop's invariant: the answer from the member stood at, with the moves made and the entries passed over, is the whole answer. Assumes nothing.
use Prim.Native.Nat.{◌*◌, ◌≤◌, ◌<◌}
use mathlib.Core.Path.{◌≡◌}
use lib.ListN.{get_or}
use Rattle.model.specs.Table.{members_in, ids}
use Rattle.model.specs.Steps.{lookup}
use Rattle.lookup.proofs.Laws.{onward}
use Rattle.lookup.proofs.walk.Given as goal

abbrev pub invariant-loop-moves : goal.invariant-loop-moves
invariant-loop-moves l = record {
  within : l.place < get_or l.t 1 0;
  id : l.at ≡ get_or (ids (members_in l.t)) l.place 0;
  few : l.passed ≤ 8 * l.moves;
  same : onward l.t l.k l.at l.moves l.passed ≡ lookup (members_in l.t) (get_or (ids (members_in l.t)) l.start 0) l.k;
}
