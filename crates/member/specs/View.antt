-- The model's member in a `Member` of the code: of its array's 8 entries the first r are the successor list.
use Rattle.std.specs.Prelude.{ℕ, take}
use Rattle.model.specs.Table.{Member as MemberOf}
use Rattle.member.specs.declared.Member.{Member}

abbrev pub view : ℕ → Member → MemberOf
view r m = record { id = m.id; predecessor = m.predecessor; pending = m.pending; candidate = m.candidate; successors = take r m.successors; steps = m.steps }
