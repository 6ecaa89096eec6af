-- Document 02, Req 01: the objects a shelf holds, as runs of positions in a rising list of keys.
use Rattle.std.specs.Prelude.{ℕ, List, [], ◌∷◌, leb, eqb, length, get_or, if◌then◌else◌}
use Rattle.model.specs.Lists.{count}
use Rattle.model.specs.Table.{Member, ids}
use Rattle.model.specs.Ring.{next_down}

-- the first of rising identifiers that is at or above k, or d
abbrev pub first_from : ℕ → List ℕ → ℕ → ℕ
first_from k [] d = d
first_from k (y ∷ l) d = if leb k y then y else first_from k l d

-- the lowest member
abbrev pub lowest : List Member → ℕ
lowest ms = get_or (ids ms) 0 0

-- the member that holds the key k: the first at or above it; keys above the last member belong to the lowest
abbrev pub holder : List Member → ℕ → ℕ
holder ms k = first_from k (ids ms) (lowest ms)

-- how many keys are at or below x
abbrev pub keys_to : List ℕ → ℕ → ℕ
keys_to ks x = count (λ k. leb k x) ks

-- a run of positions in the list of keys: its first position, and the position after its last
pub record Run : Type 0 where
  pub start : ℕ
  pub end : ℕ

infix 6 ◌up_to◌
abbrev pub ◌up_to◌ : ℕ → ℕ → Run
s up_to e = record { start = s; end = e }

-- the runs of the member n: one, from the keys at or below the member before it to those at or below n;
-- of the lowest always two, first the keys above the last member, which is before it, then those at or below itself.
-- For rising keys they are the positions of the keys whose `holder` is n (`held_parts`: theory, Held)
unfoldable pub runs_of : List Member → ℕ → List ℕ → List Run
runs_of ms n ks =
    if eqb n (lowest ms)
    then (keys_to ks (next_down (ids ms) n) up_to length ks) ∷ (0 up_to keys_to ks n) ∷ []
    else (keys_to ks (next_down (ids ms) n) up_to keys_to ks n) ∷ []

-- the reply: start and end of each run
abbrev pub bounds : List Run → List ℕ
bounds [] = []
bounds (u ∷ us) = u.start ∷ u.end ∷ bounds us
