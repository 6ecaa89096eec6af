-- Laws of the search of a list for its first live entry. Assumes nothing.
use Rattle.std.specs.Prelude.{ℕ, suc, ◌≤◌, ◌≡◌, refl, List, [], ◌∷◌, Bool, true, false, length, get_or, if◌then◌else◌}
use Rattle.std.proofs.Math.Option.{some}
use Rattle.std.proofs.Common.{arith}
use Rattle.model.specs.Table.{Member}
use Rattle.model.specs.Ring.{past, searched, first_live, live}

-- no more entries are passed over than the list has
pub passed_most : (ms : List Member) (l : List ℕ) → (searched ms l).passed ≤ length l
passed_most ms [] = omega arith
passed_most ms (x ∷ l) = go (live ms x) (passed_most ms l)
  where
    go : (b : Bool) → (searched ms l).passed ≤ length l → (if b then record { entry = some x; passed = 0 } else past (searched ms l)).passed ≤ suc (length l)
    go true i = omega arith
    go false i = omega arith

-- the first live entry, entry by entry
pub first_next : (ms : List Member) (x : ℕ) (l : List ℕ) → first_live ms (x ∷ l) ≡ (if live ms x then some x else first_live ms l)
first_next ms x l = go (live ms x)
  where
    go : (b : Bool) → (if b then record { entry = some x; passed = 0 } else past (searched ms l)).entry ≡ (if b then some x else first_live ms l)
    go true = refl
    go false = refl

-- a live first entry is found at once
pub found_first : (ms : List Member) (l : List ℕ) → 1 ≤ length l → live ms (get_or l 0 0) ≡ true → searched ms l ≡ record { entry = some (get_or l 0 0); passed = 0 }
found_first ms [] h e = absurd (omega arith)
found_first ms (x ∷ l) h e = rw e
