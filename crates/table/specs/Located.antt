-- The place of an identifier in a table: where its member stands, or where it is missing.
use Rattle.std.specs.Prelude.{ℕ, ◌<◌, ◌≡◌, List, get_or, if◌then◌else◌, Result, Ok, Err}
use Rattle.model.specs.Table.{members_in, ids}
use Rattle.model.specs.Ring.{live}
use Rattle.table.specs.Rank.{rank}

-- the member x stands at place k
pub record Stands (ws : List ℕ) (k x : ℕ) : Type 0 where
  pub within : k < get_or ws 1 0
  pub has_id : get_or (ids (members_in ws)) k 0 ≡ x

-- where x stands or is missing: the place is its rank
abbrev pub located : List ℕ → ℕ → Result ℕ ℕ
located ws x = if live (members_in ws) x then Ok (rank (ids (members_in ws)) x) else Err (rank (ids (members_in ws)) x)
