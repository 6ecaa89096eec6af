-- Moves to the ring found once for each place: arrays in which some are not known yet, and the places of a way.
use Rattle.std.specs.Prelude.{ℕ, zero, suc, ◌+◌, ◌-◌, ◌≤◌, ◌<◌, ◌≡◌, false, List, length, get_or}
use Rattle.model.specs.Table.{members_in, ids}
use Rattle.model.specs.Ring.{on_ring, moves_to_ring}
use Rattle.best_successors.specs.Places.{next_place}

-- the moves to the ring of the member at place k
abbrev pub moves_at : List ℕ → ℕ → ℕ
moves_at ws k = moves_to_ring (members_in ws) (get_or (ids (members_in ws)) k 0)

-- a, but no more than n
abbrev pub no_more : ℕ → ℕ → ℕ
no_more a n = n - (n - a)

-- an array has at place j one more than the moves, or 0 where they are not known yet: never on the ring
pub data SoFar (ws a : List ℕ) (j : ℕ) : Type 0 where
  known : get_or a j 0 ≡ moves_at ws j + 1 → SoFar ws a j
  unknown : get_or a j 0 ≡ 0 → on_ring (members_in ws) (get_or (ids (members_in ws)) j 0) ≡ false → SoFar ws a j

-- and so at the place of each member
pub record AllSoFar (ws a : List ℕ) : Type 0 where
  pub size : get_or ws 1 0 ≤ length a
  pub at : (j : ℕ) → j < get_or ws 1 0 → SoFar ws a j

-- and the moves at place k are known
pub record KnownAt (ws : List ℕ) (k : ℕ) (a : List ℕ) : Type 0 where
  pub so_far : AllSoFar ws a
  pub here : get_or a k 0 ≡ moves_at ws k + 1

-- from place k on, c members a move apart: each has v moves to the ring and those left of the way, but no more than there are members
abbrev pub Along : List ℕ → ℕ → ℕ → ℕ → Type 0
Along ws v zero k = Unit {0}
Along ws v (suc c) k = (k < get_or ws 1 0) × (moves_at ws k ≡ no_more (v + suc c) (get_or ws 1 0)) × Along ws v c (next_place (members_in ws) k)

-- such a way from place k, of one place or more
pub record Measured (ws : List ℕ) (k c v : ℕ) : Type 0 where
  pub some : 0 < c
  pub most : c ≤ get_or ws 1 0
  pub value : v ≤ get_or ws 1 0
  pub way : Along ws v c k
