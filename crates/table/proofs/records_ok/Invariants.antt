-- The loop's invariant: the test of the records that are left, with lo, is that of all. Assumes nothing.
use Rattle.std.proofs.Common.{◌≡◌, ◌*◌, ◌-◌, ◌≤◌, length}
use Rattle.model.specs.Table.{members_of}
use Rattle.table.specs.Tests.{right_from}
use Rattle.table.proofs.records_ok.Given as goal

abbrev pub invariant-loop : goal.invariant-loop
invariant-loop l = ((l.n - l.counter) * l.w ≤ length l.left) × (right_from l.lo (members_of l.r (l.n - l.counter) l.left) ≡ right_from 0 (members_of l.r l.n l.s))
