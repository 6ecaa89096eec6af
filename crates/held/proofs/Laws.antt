-- The causes of held after those of every call of a member, and the runs of the member at a place. Assumes nothing.
use Prim.Native.Nat.{ℕ, ◌-◌, ◌<◌}
use mathlib.Core.Path.{◌≡◌, ap}
use mathlib.Core.Bool.{not}
use mathlib.Core.List.{List, [], ◌∷◌}
use native.Mathlib.Omega.{arith}
use borrow.Author.Tests.{eq-eqb, ne_eqb}
use lib.ListN.{length, get_or}
use Rattle.model.specs.Lists.{rising}
use Rattle.model.specs.Table.{members_in, ids}
use Rattle.model.specs.Answer.{◌when◌, first_of}
use Rattle.model.specs.Held.{lowest, keys_to, runs_of, bounds}
use Rattle.model.specs.Refusals.{member_refusal, held_refusal}
use Rattle.laws.specs.Lists.{rising_true}
use Rattle.laws.specs.Places.{below_round, below_inside}
use Rattle.laws.specs.Accepted.{causes_declined, causes_left}
use Rattle.table.specs.FormedWords.{FormedWords}
use Rattle.table.proofs.Members.{ids_count}
use Rattle.best_successors.proofs.Laws.{same_place}

-- The causes after 1 and 3

module _ (ws : List ℕ) (n : ℕ) (ks : List ℕ) where
  pub held_refused : (member_refusal ws n ≡ 0 → ⊥) → member_refusal ws n ≡ held_refusal ws n ks
  unfolding held_refusal
  held_refused h = causes_declined ws n ((12 when not (rising ks)) ∷ []) h

  pub held_left : member_refusal ws n ≡ 0 → held_refusal ws n ks ≡ first_of ((12 when not (rising ks)) ∷ [])
  unfolding held_refusal
  held_left h = causes_left ws n ((12 when not (rising ks)) ∷ []) h

-- The runs

module _ (ws ks : List ℕ) (f : FormedWords ws) (at : ℕ) (h : at < get_or ws 1 0) where
  abbrev xs : List ℕ
  xs = ids (members_in ws)

  inside : at < length xs
  inside = omega (arith, ids_count ws)

  -- of the lowest member, with the keys at or below the last
  pub two_runs : (above own : ℕ) → at ≡ 0 → above ≡ keys_to ks (get_or xs (get_or ws 1 0 - 1) 0) → own ≡ keys_to ks (get_or xs at 0)
      → (above ∷ length ks ∷ 0 ∷ own ∷ []) ≡ bounds (runs_of (members_in ws) (get_or xs at 0) ks)
  unfolding runs_of
  two_runs above own l u v =
      rw (eq-eqb (get_or xs at 0) (lowest (members_in ws)) (ap (λ (i : ℕ). get_or xs i 0) l), ← below_round xs f.rises at inside (omega arith), ids_count ws, ← u, ← v)

  -- of any other, with those at or below the one before
  pub one_run : (before own : ℕ) → (at ≡ 0 → ⊥) → before ≡ keys_to ks (get_or xs (at - 1) 0) → own ≡ keys_to ks (get_or xs at 0)
      → (before ∷ own ∷ []) ≡ bounds (runs_of (members_in ws) (get_or xs at 0) ks)
  unfolding runs_of
  one_run before own l u v =
      let n : get_or xs at 0 ≡ lowest (members_in ws) → ⊥ = λ e. omega (arith, same_place xs at 0 (rising_true xs f.rises) inside (omega (arith, inside)) e) in
      rw (ne_eqb (get_or xs at 0) (lowest (members_in ws)) n, ← below_inside xs f.rises at inside (omega arith), ← u, ← v)
