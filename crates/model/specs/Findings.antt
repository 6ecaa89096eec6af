-- Document 01, "Starting, saving, and the rest": the audit's findings, one a member.
use Rattle.std.specs.Prelude.{ℕ, List, map}
use Rattle.model.specs.Lists.{bit}
use Rattle.model.specs.Table.{Member, ids}
use Rattle.model.specs.Ring.{principal, moves_to_ring}

-- one finding: identifier, 1 for a principal and else 0, moves to the ring
pub record Finding : Type 0 where
  pub id : ℕ
  pub principal : ℕ
  pub moves : ℕ

-- the finding of the member x
abbrev pub finding_of : List Member → ℕ → Finding
finding_of ms x = record { id = x; principal = bit (principal ms x); moves = moves_to_ring ms x }

-- the findings of all members, in order
abbrev pub findings : List Member → List Finding
findings ms = map (finding_of ms) (ids ms)
