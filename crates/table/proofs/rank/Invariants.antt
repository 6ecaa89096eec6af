-- `rank` meets its contract. The loop's invariant: the place is from lo to hi. Assumes nothing.
use Prim.Native.Nat.{◌-◌, ◌≤◌}
use Rattle.model.specs.Table.{members_in, ids}
use Rattle.table.specs.Rank.{rank}
use Rattle.table.proofs.rank.Given as goal

abbrev pub invariant-loop-lo : goal.invariant-loop-lo
invariant-loop-lo l = (l.hi ≤ l.n) × (l.lo ≤ rank (ids (members_in l.t)) l.x) × (rank (ids (members_in l.t)) l.x ≤ l.hi)

abbrev pub decreases-loop-lo : goal.decreases-loop-lo
decreases-loop-lo l = l.hi - l.lo
