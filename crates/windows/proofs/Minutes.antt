-- Rising minutes: all are below a bound where the last is. Assumes nothing.
use Rattle.std.proofs.Common.{◌≡◌, ℕ, suc, ◌-◌, ◌<◌, Bool, true, false, not, ◌&&◌, ltb, List, [], ◌∷◌, length, get_or, Option, Some, None, Bor, IsTrue, sym, refl, ap, ◌∙◌, arith, ltb-true, lt-ltb}
use Rattle.std.specs.Slice.{IsGetResult}
use mathlib.Core.Bool.{and-true, and-false, not-not}
use Rattle.model.specs.Lists.{every, rising, last_of}
use Rattle.model.specs.Refusals.{bad_minutes}
use Rattle.laws.specs.Lists.{Above, Rising, rising_true, and-true as both}

below : (b x : ℕ) (l : List ℕ) → Above x l → every (λ t. ltb t b) (x ∷ l) ≡ ltb (get_or (x ∷ l) (length l) 0) b
below b x [] a = and-true (ltb x b)
below b x (y ∷ l) a = ap (λ (t : Bool). ltb x b && t) (below b y l a.1) ∙ go (ltb (get_or (y ∷ l) (length l) 0) b) (below b y l a.1)
  where
    go : (t : Bool) → every (λ t. ltb t b) (y ∷ l) ≡ t → (ltb x b && t) ≡ t
    go true e = let h = ltb-true y b (both (ltb y b) (every (λ t. ltb t b) l) e).0 in rw (lt-ltb x b (omega arith))
    go false e = and-false (ltb x b)

module _ (ts : List ℕ) where
  pub no_minutes : length ts < 1 → true ≡ not (bad_minutes ts)
  unfolding bad_minutes
  no_minutes h = go ts h
    where
      go : (l : List ℕ) → length l < 1 → true ≡ not (not (rising l && every (λ t. ltb t 4294967295) l))
      go [] k = refl
      go (x ∷ l) k = absurd (omega arith)

  pub last_below : rising ts ≡ true → 0 < length ts → ltb (last_of ts) 4294967295 ≡ not (bad_minutes ts)
  unfolding bad_minutes
  last_below r h = rw (r, not-not) (sym (go ts (rising_true ts r) h))
    where
      go : (l : List ℕ) → Rising l → 0 < length l → every (λ t. ltb t 4294967295) l ≡ ltb (last_of l) 4294967295
      go [] a k = absurd (omega arith)
      go (x ∷ l) a k = let e : suc (length l) - 1 ≡ length l = omega arith in rw e (below 4294967295 x l a)

  -- what is tested of the last decides it, where there is one
  pub last_decides : (o : Option (Bor ℕ)) (r : Bool) → rising ts ≡ true → IsGetResult ts 0 (length ts - 1) o → (o ≡ None → IsTrue r) → ((x : Bor ℕ) → o ≡ Some x → r ≡ ltb x.now 4294967295) → r ≡ not (bad_minutes ts)
  last_decides None r up i h k = h refl ∙ no_minutes (omega (arith, i.3))
  last_decides (Some x) r up i h k = k x refl ∙ rw (i.3.1 0) (last_below up i.3.0)

  pub not_rising : rising ts ≡ false → false ≡ not (bad_minutes ts)
  unfolding bad_minutes
  not_rising r = rw r
