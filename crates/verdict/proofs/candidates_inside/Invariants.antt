-- `candidates_inside` meets its contract. The invariant: the records left answer as all do. Assumes nothing.
use Rattle.std.proofs.Common.{◌≡◌, ◌*◌, ◌-◌, ◌≤◌, length}
use Rattle.model.specs.Lists.{every}
use Rattle.model.specs.Table.{record_size, members_of}
use Rattle.model.specs.Ring.{candidate_inside}
use Rattle.verdict.proofs.candidates_inside.Given as goal

abbrev pub invariant-loop : goal.invariant-loop
invariant-loop l = ((l.n - l.counter) * record_size l.r ≤ length l.left) × (every candidate_inside (members_of l.r (l.n - l.counter) l.left) ≡ every candidate_inside (members_of l.r l.n l.s))
