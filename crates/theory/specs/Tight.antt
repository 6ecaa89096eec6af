-- Settle's bound is tight: for r = 1 and for r = 2 a sound table of s members, computed, that is not ideal after s - 2 rounds.
use Rattle.std.specs.Prelude.{◌≡◌, true, List, [], ◌∷◌, ℕ, ◌-◌, length}
use Rattle.model.specs.Table.{idle, Table, table_with, table_of, members_in, well_formed}
use Rattle.model.specs.Ring.{sound, verdict}
use Rattle.theory.specs.Bound.{rounds}

-- a slice with a sound table of lists of r entries that s - 2 rounds leave with verdict 1
pub record Late (r : ℕ) : Type 0 where
  pub slice : List ℕ
  pub has_r : (table_of slice).r ≡ r
  pub is_well_formed : well_formed slice ≡ true
  pub is_sound : sound (table_of slice) ≡ true
  pub not_yet : verdict (table_of (rounds (length (members_in slice) - 2) slice)) ≡ 1

-- four members, of which 10 and 40 are principals
abbrev pub four : Table
four = table_with 1 (idle 10 10 (30 ∷ []) ∷ idle 20 10 (40 ∷ []) ∷ idle 30 40 (40 ∷ []) ∷ idle 40 20 (10 ∷ []) ∷ [])

-- five members, of which 10, 20 and 30 are principals
abbrev pub five : Table
five = table_with 2 (idle 10 10 (20 ∷ 30 ∷ []) ∷ idle 20 40 (30 ∷ 40 ∷ []) ∷ idle 30 20 (10 ∷ 20 ∷ []) ∷ idle 40 40 (50 ∷ 10 ∷ []) ∷ idle 50 40 (10 ∷ 20 ∷ []) ∷ [])
