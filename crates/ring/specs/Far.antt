-- Moves made often enough by places, and the places they lead to: those of the members on the ring.
use Rattle.std.specs.Prelude.{ℕ, ◌≤◌, ◌<◌, ◌≡◌, List, ltb, length, get_or, take, if◌then◌else◌}
use Rattle.model.specs.Lists.{bit, contains}
use Rattle.model.specs.Table.{Member, members_in}
use Rattle.model.specs.Ring.{on_ring}
use Rattle.laws.specs.Iterate.{iterate}
use Rattle.best_successors.specs.Places.{next_place}

-- where an array's moves lead from place j; n stands for none and stays
abbrev pub from_place : ℕ → List ℕ → ℕ → ℕ
from_place n a j = if ltb j n then get_or a j 0 else n

-- an array has at each of the first n places where another's moves, made twice, lead
pub record Doubled (n : ℕ) (a d : List ℕ) : Type 0 where
  pub size : length d ≡ 256
  pub at : (k : ℕ) → k < n → get_or d k 0 ≡ from_place n a (get_or a k 0)

-- an array has at each member's place where so many moves lead, no fewer than there are members
pub record FarPlaces (ws : List ℕ) (a : List ℕ) : Type 0 where
  pub size : length a ≡ 256
  pub moves : ℕ
  pub enough : get_or ws 1 0 ≤ moves
  pub at : (k : ℕ) → k < get_or ws 1 0 → get_or a k 0 ≡ iterate (next_place (members_in ws)) moves k

-- an array has at each of the first n places 1 where it is one of another's first n numbers, else 0
pub record Marked (n : ℕ) (a m : List ℕ) : Type 0 where
  pub size : length m ≡ 256
  pub at : (j : ℕ) → j < n → get_or m j 0 ≡ bit (contains (take n a) j)

-- 1 for a member on the ring, else 0
abbrev pub ring_bit : List Member → ℕ → ℕ
ring_bit ms x = bit (on_ring ms x)
