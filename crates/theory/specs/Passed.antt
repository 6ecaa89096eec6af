-- Document 02, Req 06, on every table: the entries that a search passes over are dead, and the next one is the best successor; find's other values are
-- what they were before the request; on an ideal table nothing is passed over.
use Rattle.std.specs.Prelude.{ℕ, zero, suc, ◌<◌, ◌≡◌, true, false, ◌||◌, List, [], ◌∷◌, eqb, length, get_or, take, if◌then◌else◌}
use Rattle.std.proofs.Math.Option.{Option, some, none}
use Rattle.model.specs.Lists.{option}
use Rattle.model.specs.Identifier.{between}
use Rattle.model.specs.Table.{Member, members_in}
use Rattle.model.specs.Ring.{live, named, Search}
use Rattle.model.specs.Answer.{Answer, accepted, answer}
use Rattle.model.specs.Refusals.{member_refusal}

-- What a search tells, of every list; of a member's list the entry found is its best successor

-- the entries passed over are dead; the next is live, and the one found; where none is found, all are passed over
pub record Tells (ms : List Member) (l : List ℕ) (s : Search) : Type 0 where
  pub dead : (i : ℕ) → i < s.passed → live ms (get_or l i 0) ≡ false
  pub next : (y : ℕ) → s.entry ≡ some y → (s.passed < length l) × (get_or l s.passed 0 ≡ y) × (live ms y ≡ true)
  pub nothing : s.entry ≡ none → s.passed ≡ length l

-- Find as it was before the request

-- document 01's first live entry, and its walk, with three values
abbrev pub first_before : List Member → List ℕ → Option ℕ
first_before ms [] = none
first_before ms (x ∷ l) = if live ms x then some x else first_before ms l

abbrev pub walk_before : List Member → ℕ → ℕ → ℕ → ℕ → Answer
walk_before ms zero k q moves = record { number = 8; values = q ∷ [] }
walk_before ms (suc n) k q moves =
    option (first_before ms (named ms q).successors) (record { number = 8; values = q ∷ [] })
    (λ b. if eqb k b || between q k b then accepted (b ∷ q ∷ moves ∷ []) else walk_before ms n k b (suc moves))

-- its answer to the call
abbrev pub find_before : List ℕ → ℕ → ℕ → Answer
find_before ws n k = answer (member_refusal ws n) (walk_before (members_in ws) (length (members_in ws)) k n 0)

-- an answer without a fourth value
abbrev pub three : Answer → Answer
three a = record { number = a.number; values = take 3 a.values }
