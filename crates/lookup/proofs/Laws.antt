-- One step of the walk: what is left to find stays the whole answer. Assumes nothing.
use Prim.Native.Nat.{ℕ, zero, suc, ◌+◌, ◌-◌, ◌≤◌, ◌<◌}
use mathlib.Core.Path.{◌≡◌, refl, sym, ◌∙◌}
use mathlib.Core.List.{List, [], ◌∷◌}
use mathlib.Core.Bool.{true, false, ◌||◌}
use native.Mathlib.Numerals.{add-one}
use native.Mathlib.Omega.{arith}
use lib.Dec.{eqb}
use lib.ListN.{get_or}
use Rattle.std.specs.Prelude.{if◌then◌else◌}
use Rattle.model.specs.Lists.{option}
use Rattle.model.specs.Identifier.{between}
use Rattle.model.specs.Table.{Member, members_in, ids}
use Rattle.model.specs.Ring.{nobody, named, best_successor, passed_by}
use Rattle.model.specs.Answer.{Answer, accepted}
use Rattle.model.specs.Steps.{lookup, lookup_from}
use Rattle.table.specs.FormedWords.{FormedWords}
use Rattle.best_successors.specs.Places.{next_place}
use Rattle.best_successors.proofs.Laws.{member_count, best, no_best, passed_here}

-- the answer 8 at the member q
abbrev stuck_at : ℕ → Answer
stuck_at q = record { number = 8; values = q ∷ [] }

-- p entries are passed over at q
move : (ms : List Member) (left k q moves passed p : ℕ) → 0 < left → passed_by ms (named ms q) ≡ p
    → lookup_from ms left k q moves passed ≡ option (best_successor ms q) (stuck_at q)
    (λ b. if eqb k b || between q k b then accepted (b ∷ q ∷ moves ∷ (passed + p) ∷ []) else lookup_from ms (left - 1) k b (suc moves) (passed + p))
move ms zero k q moves passed p h e = absurd (omega arith)
move ms (suc left) k q moves passed p h e = let l : suc left - 1 ≡ left = omega arith in rw (l, ← e)

nothing_left : (ms : List Member) (left k q moves passed : ℕ) → left ≤ 0 → stuck_at q ≡ lookup_from ms left k q moves passed
nothing_left ms zero k q moves passed h = refl
nothing_left ms (suc left) k q moves passed h = absurd (omega arith)

module _ (ws : List ℕ) where
  abbrev ms : List Member
  ms = members_in ws

  abbrev id_at : ℕ → ℕ
  id_at k = get_or (ids ms) k 0

  abbrev n : ℕ
  n = get_or ws 1 0

  -- the walk from q on, after so many moves and with so many entries passed over
  abbrev pub onward : ℕ → ℕ → ℕ → ℕ → Answer
  onward k q moves passed = lookup_from ms (n - moves) k q moves passed

  pub walk_start : (x k : ℕ) → onward k x 0 0 ≡ lookup ms x k
  walk_start x k = let l : n - 0 ≡ n = omega arith in rw (l, member_count)

  pub walk_end : (k q moves passed : ℕ) → n ≤ moves → stuck_at q ≡ onward k q moves passed
  walk_end k q moves passed h = nothing_left ms (n - moves) k q moves passed (omega arith)

  -- a step of the walk: it stands at the place `at` of the member q, whose best successor is at the place `next` behind p entries
  pub record WalkStep (at next q p moves : ℕ) : Type 0 where
    pub formed : FormedWords ws
    pub stands : at < n
    pub id : q ≡ id_at at
    pub next_place_law : next ≡ next_place ms at
    pub behind : p ≡ passed_by ms (get_or ms at nobody)
    pub going : moves < n

module _ {ws : List ℕ} {at next q p moves : ℕ} (t : WalkStep ws at next q p moves) (k passed : ℕ) where
  step : onward ws k q moves passed ≡ option (best_successor (ms ws) q) (stuck_at q)
      (λ b. if eqb k b || between q k b then accepted (b ∷ q ∷ moves ∷ (passed + p) ∷ [])
      else lookup_from (ms ws) (n ws - moves - 1) k b (suc moves) (passed + p))
  step = move (ms ws) (n ws - moves) k q moves passed p (omega (arith, t.going)) (rw t.id (passed_here ws at next t.stands t.next_place_law t.formed t.behind))

  pub walk_stuck : n ws ≤ next → stuck_at q ≡ onward ws k q moves passed
  walk_stuck l = sym (step ∙ rw (t.id, no_best ws at next t.stands t.next_place_law t.formed l))

  -- b is that successor
  module _ (l : next < n ws) {b : ℕ} (e : b ≡ id_at ws next) where
    pub walk_owned : (eqb k b || between q k b) ≡ true → accepted (b ∷ q ∷ moves ∷ (passed + p) ∷ []) ≡ onward ws k q moves passed
    walk_owned o = sym (step ∙ rw (t.id, best ws at next t.stands t.next_place_law t.formed l, ← e, ← t.id, o))

    pub walk_on : (eqb k b || between q k b) ≡ false → onward ws k b (moves + 1) (passed + p) ≡ onward ws k q moves passed
    walk_on o =
        let f : n ws - (moves + 1) ≡ n ws - moves - 1 = omega arith in
        sym (step ∙ rw (t.id, best ws at next t.stands t.next_place_law t.formed l, ← e, ← t.id, o, f, add-one))
