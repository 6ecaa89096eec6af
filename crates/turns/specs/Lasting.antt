-- A slice whose table follows from another's by turns.
use Rattle.std.specs.Prelude.{ℕ, ◌≡◌, List, length}
use Rattle.model.specs.Table.{table_of}
use Rattle.model.specs.Calls.{written}
use Rattle.theory.specs.Turns.{Lasts}

-- us is ws with a table in the place of its own that has what turns keep of it
pub record Lasting (ws us : List ℕ) : Type 0 where
  pub in_place : us ≡ written (table_of us) ws
  pub as_long : length us ≡ length ws
  pub lasts : Lasts (table_of ws) (table_of us)
