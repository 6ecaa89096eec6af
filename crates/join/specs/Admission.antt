-- A shelf that may join: the places that its record and its list come from.
use Rattle.std.specs.Prelude.{ℕ, ◌≡◌, List}
use Rattle.model.specs.Table.{members_in, ids}
use Rattle.laws.specs.Accepted.{MayJoin}
use Rattle.table.specs.FormedWords.{FormedWords}
use Rattle.table.specs.Rank.{rank}
use Rattle.table.specs.Located.{Stands}

-- j may join, its place is `at`, and p stands at k
pub record Admits (ws : List ℕ) (at k j p : ℕ) : Type 0 where
  pub table : FormedWords ws
  pub may : MayJoin ws j p
  pub place : at ≡ rank (ids (members_in ws)) j
  pub stands : Stands ws k p
