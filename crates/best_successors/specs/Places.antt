-- Members by their place in the table instead of by identifier: what the walks round the ring go by.
use Rattle.std.specs.Prelude.{ℕ, suc, ◌<◌, ◌≡◌, List, [], ◌∷◌, Option, Some, None, ltb, eqb, length, get_or, if◌then◌else◌}
use Rattle.model.specs.Table.{Member, members_in, ids}
use Rattle.model.specs.Ring.{live, nobody}

-- the place of x among identifiers, or their count where it is none of them
abbrev pub place_of : List ℕ → ℕ → ℕ
place_of [] x = 0
place_of (y ∷ l) x = if eqb y x then 0 else suc (place_of l x)

-- the place of the first live entry of a list, or the member count where none is live
abbrev pub first_place : List Member → List ℕ → ℕ
first_place ms [] = length ms
first_place ms (x ∷ l) = if live ms x then place_of (ids ms) x else first_place ms l

-- the place of the best successor of the member at place k, or the member count where it has none: where a move leads from place k
abbrev pub next_place : List Member → ℕ → ℕ
next_place ms k = first_place ms (get_or ms k nobody).successors

-- a place p where the count n stands for none: that place, or `None`
abbrev pub at_place : ℕ → ℕ → Option ℕ
at_place n p = if ltb p n then Some p else None

-- an array has at each member's place the place of its best successor
pub record BestPlaces (ws : List ℕ) (a : List ℕ) : Type 0 where
  pub at : (k : ℕ) → k < length (members_in ws) → get_or a k 0 ≡ next_place (members_in ws) k
