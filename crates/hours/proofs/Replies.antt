-- When the two questions are 15, and what a pass over the windows says of their answers. Assumes nothing.
use Prim.Native.Nat.{ℕ, ◌+◌, ◌%◌, ◌≤◌, ◌<◌}
use mathlib.Core.Path.{◌≡◌, sym, ap, ◌∙◌}
use mathlib.Core.Logic.{◌⊎◌, inl, inr}
use mathlib.Core.Bool.{Bool, true, false, not, ◌&&◌, ◌||◌, or-true}
use mathlib.Core.List.{List, [], ◌∷◌}
use mathlib.Core.Option.{none, some}
use native.Mathlib.Omega.{arith}
use lib.Dec.{ltb, leb, eqb}
use lib.ListN.{length}
use borrow.Author.Tests.{ltb-true, leb-true, lt-ltb, le-leb}
use Rattle.std.specs.Prelude.{if◌then◌else◌}
use Rattle.model.specs.Lists.{every}
use Rattle.model.specs.Windows.{week, paired, windows_in, of_week, is_open}
use Rattle.model.specs.Answer.{accepted}
use Rattle.model.specs.Refusals.{right_window, bad_windows, open_refusal}
use Rattle.model.specs.Calls.{is_open_answer, next_open_answer}
use Rattle.answers.specs.YesNo.{values_of}
use Rattle.laws.specs.Lists.{and-true}
use Rattle.laws.specs.Order.{less?}
use Rattle.laws.specs.Windows.{next_found, next_none, tells_next, tells_open}
use Rattle.windows.proofs.Words.{few_rights, many_bad, paired_even}
use Rattle.hours.specs.Ahead.{may_ask}
use Rattle.hours.proofs.Least.{FirstAhead, sometime, never, least, first_ahead}

module _ (vs : List ℕ) (m : ℕ) where
  -- what is asked before the pass
  pub may_not : may_ask (length vs) m ≡ false → open_refusal vs m ≡ 15
  unfolding open_refusal
  may_not h = go (less? m week) (less? 32 (length vs))
    where
      go : (m < week) ⊎ (week ≤ m) → (32 < length vs) ⊎ (length vs ≤ 32) → ◌≡◌ {A = ℕ} (if bad_windows vs || leb week m then 15 else 0) 15
      go (inr l) f = rw (le-leb week m l, or-true)
      go (inl l) (inl f) = rw (many_bad vs f)
      go (inl l) (inr f) = let e : eqb (length vs % 2) 0 ≡ false = rw (lt-ltb m week l, le-leb (length vs) 32 f) at h in rw (few_rights vs f, paired_even vs, e)

  pub may : may_ask (length vs) m ≡ true → (m < week) × (length vs ≤ 32) × (paired vs ≡ true)
  may h =
      let a = and-true (ltb m week && leb (length vs) 32) (eqb (length vs % 2) 0) h in
      let b = and-true (ltb m week) (leb (length vs) 32) a.0 in
      (ltb-true m week b.0, leb-true (length vs) 32 b.1, paired_even vs ∙ a.1)

  -- what the pass judges
  pub judges : may_ask (length vs) m ≡ true → bad_windows vs ≡ not (every right_window (windows_in vs))
  judges h = let a = may h in few_rights vs a.1 ∙ ap (λ (b : Bool). not (b && every right_window (windows_in vs))) a.2

  pub windows_refused : may_ask (length vs) m ≡ true → every right_window (windows_in vs) ≡ false → open_refusal vs m ≡ 15
  unfolding open_refusal
  windows_refused a e = rw (judges a, e)

  -- what the pass says, where all are right
  module _ (a : may_ask (length vs) m ≡ true) (r : every right_window (windows_in vs) ≡ true) where
    right : bad_windows vs ≡ false
    right = judges a ∙ ap not r

    pub says_open : (t : Bool) → is_open (windows_in vs) m ≡ t → accepted (values_of t) ≡ is_open_answer vs m
    says_open true e = sym (tells_open vs right m (may a).0 true e)
    says_open false e = sym (tells_open vs right m (may a).0 false e)

    module _ (d : ℕ) (e : least week (windows_in vs) m ≡ d) where
      first : FirstAhead (windows_in vs) m d
      first = rw e at (first_ahead (windows_in vs) m r (may a).0)

      pub says_never : week ≤ d → accepted (0 ∷ []) ≡ next_open_answer vs m
      says_never h = go first
        where
          go : FirstAhead (windows_in vs) m d → accepted (0 ∷ []) ≡ next_open_answer vs m
          go (sometime k l) = absurd (omega arith)
          go (never k l) = sym (tells_next vs right m (may a).0 none (next_none (windows_in vs) m l))

      pub says_at : d < week → accepted (1 ∷ of_week (m + d) ∷ []) ≡ next_open_answer vs m
      says_at h = go first
        where
          go : FirstAhead (windows_in vs) m d → accepted (1 ∷ of_week (m + d) ∷ []) ≡ next_open_answer vs m
          go (sometime k l) = sym (tells_next vs right m (may a).0 (some (of_week (m + d))) (next_found (windows_in vs) m d k l))
          go (never k l) = absurd (omega arith)
