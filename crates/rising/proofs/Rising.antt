-- What std's methods tell of identifiers: that neighbours rise, and where those at or below x end. Assumes nothing.
use Rattle.std.proofs.Common.{◌≡◌, ℕ, zero, suc, ◌<◌, ◌≤◌, ◌⊎◌, Bool, true, false, ltb, leb, List, [], ◌∷◌, length, get_or, sym, refl, ◌∙◌, inl, inr, arith, add-one, ltb-true, ltb-false, lt-ltb}
use Rattle.std.proofs.lemmas.List.{get_or_default}
use Rattle.std.specs.List.{AllWithin, IsAllAdjacentAnswer}
use Rattle.std.specs.List.Sorted.{IsPartitionedBy, IsPartitionPoint}
use mathlib.Core.Bool.{and-false}
use Rattle.model.specs.Lists.{rising}
use Rattle.model.specs.Held.{keys_to}
use Rattle.laws.specs.Order.{less?}
use Rattle.laws.specs.Lists.{Rising, count_length}
use Rattle.laws.specs.Keys.{key_below}

all_rise : (xs : List ℕ) → ((k : ℕ) → suc k < length xs → true ≡ ltb (get_or xs k 0) (get_or xs (suc k) 0)) → true ≡ rising xs
all_rise [] h = refl
all_rise (x ∷ []) h = refl
all_rise (x ∷ y ∷ l) h = rw (sym (h 0 (omega arith))) (all_rise (y ∷ l) (λ k i. h (suc k) (omega arith)))

some_fall : (xs : List ℕ) (k : ℕ) → suc k < length xs → false ≡ ltb (get_or xs k 0) (get_or xs (suc k) 0) → false ≡ rising xs
some_fall [] k i h = absurd (omega arith)
some_fall (x ∷ []) k i h = absurd (omega arith)
some_fall (x ∷ y ∷ l) zero i h = rw (sym h)
some_fall (x ∷ y ∷ l) (suc k) i h = rw (sym (some_fall (y ∷ l) k (omega arith) h), and-false)

pub adjacent_rise : (xs : List ℕ) (r : Bool) → IsAllAdjacentAnswer (λ x y b. b ≡ ltb x y) xs r → r ≡ rising xs
adjacent_rise xs true h = all_rise xs (λ k i. rw add-one at (h k 0 (rw add-one i)))
adjacent_rise xs false h = some_fall xs h.0 (rw add-one at h.1) (rw add-one at (h.2 0))

module _ (ks : List ℕ) (x : ℕ) (a : Rising ks) where
  below : (p d : ℕ) → p < length ks → leb (get_or ks p d) x ≡ ltb p (keys_to ks x)
  below p d h = rw (get_or_default ks p d 0 h) (sym (key_below ks x p a h))

  pub keys_parted : IsPartitionedBy (λ k. leb k x) ks
  keys_parted i j d h l e = below i d (omega arith) ∙ lt-ltb i _ (omega (arith, ltb-true j _ (sym (below j d l) ∙ e)))

  up : (i : ℕ) → i ≤ length ks → AllWithin (λ k. leb k x ≡ true) ks 0 i → i ≤ keys_to ks x
  up zero l h = omega arith
  up (suc j) l h = let k = h j 0 (omega arith) (omega arith) in omega (arith, ltb-true j _ (sym (below j 0 l) ∙ k))

  down : (i : ℕ) → AllWithin (λ k. leb k x ≡ false) ks i (length ks) → (i < length ks) ⊎ (length ks ≤ i) → keys_to ks x ≤ i
  down i h (inl l) = ltb-false i _ (sym (below i 0 l) ∙ h i 0 (omega arith) l)
  down i h (inr l) = omega (arith, count_length (λ k. leb k x) ks)

  pub keys_end : (i : ℕ) → i ≤ length ks → IsPartitionPoint (λ k. leb k x ≡ true) (λ k. leb k x ≡ false) ks i → i ≡ keys_to ks x
  keys_end i l h = omega (arith, up i l h.0, down i h.1 (less? i (length ks)))
