-- Arrays with a number for each member, at its place.
use Rattle.std.specs.Prelude.{ℕ, ◌≤◌, ◌<◌, ◌≡◌, List, length, get_or}
use Rattle.model.specs.Table.{Member, ids}

-- an array has at the place of each of the first n members what g says of its identifier
pub record Each (ms : List Member) (g : ℕ → ℕ) (n : ℕ) (a : List ℕ) : Type 0 where
  pub size : n ≤ length a
  pub at : (k : ℕ) → k < n → get_or a k 0 ≡ g (get_or (ids ms) k 0)
