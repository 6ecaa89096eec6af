-- Arrays with a number for each member: one more stored, and the members counted by their numbers. Assumes nothing.
use Prim.Native.Nat.{ℕ, suc, ◌+◌, ◌≤◌, ◌<◌}
use mathlib.Core.Path.{◌≡◌, refl, sym, ap, ap₂, ◌∙◌}
use mathlib.Core.List.{List, [], ◌∷◌}
use mathlib.Core.Bool.{Bool, true, false, cond}
use mathlib.Core.Logic.{◌⊎◌, inl, inr}
use native.Mathlib.Omega.{arith}
use lib.Dec.{eqb}
use lib.ListN.{length, get_or, take, set, length-set}
use lib.Seq.{get_or-set_same, get_or-set_other}
use Rattle.std.specs.Int.{from_bool}
use Rattle.std.specs.List.{count_by}
use Rattle.std.proofs.lemmas.List.Sums.{sum_by-cons}
use Rattle.model.specs.Lists.{bit, count}
use Rattle.model.specs.Table.{Member, ids}
use Rattle.laws.specs.Order.{equal?}
use Rattle.places.specs.Each.{Each}

-- with v stored at place k, one place more is right
pub stored_one : (h : ℕ → ℕ) (a : List ℕ) (k v : ℕ) → k < length a → ((i : ℕ) → i < k → get_or a i 0 ≡ h i) → v ≡ h k → (i : ℕ) → i < k + 1 → get_or (set a k v) i 0 ≡ h i
stored_one h a k v l r e i b = go (equal? i k)
  where
    go : (i ≡ k) ⊎ (i ≡ k → ⊥) → get_or (set a k v) i 0 ≡ h i
    go (inl q) = rw (q, get_or-set_same a k v 0 l) e
    go (inr q) = rw (get_or-set_other a k i v 0 q) (r i (omega arith))

-- the library's count is the model's
pub count_is : (f : ℕ → Bool) (l : List ℕ) → count_by f l ≡ count f l
count_is f [] = refl
count_is f (x ∷ l) = sum_by-cons (λ y. cond (f y) 1 0) x l ∙ ap₂ (λ a b. a + b) (one (f x)) (count_is f l)
  where
    one : (b : Bool) → cond b 1 0 ≡ bit b
    one true = refl
    one false = refl

-- numbers that pass a test where the members do: as many
count_pairs : (f h : ℕ → Bool) (l a : List ℕ) → length l ≤ length a → ((k : ℕ) → k < length l → f (get_or a k 0) ≡ h (get_or l k 0)) → count f (take (length l) a) ≡ count h l
count_pairs f h [] a le e = refl
count_pairs f h (x ∷ l) [] le e = absurd (omega arith)
count_pairs f h (x ∷ l) (y ∷ a) le e = let w : f y ≡ h x = e 0 (omega arith) in rw (w, count_pairs f h l a (omega arith) (λ k b. e (suc k) (omega arith)))

module _ (ms : List Member) (g : ℕ → ℕ) where
  pub each_none : (a : List ℕ) → Each ms g 0 a
  each_none a = record { size = omega arith; at = λ k h. absurd (omega arith) }

  -- with the number of the next member stored, one more is right
  pub each_stored : (n : ℕ) (a : List ℕ) (v : ℕ) → n < length a → Each ms g n a → v ≡ g (get_or (ids ms) n 0) → Each ms g (n + 1) (set a n v)
  each_stored n a v h e q = record { size = simp length-set (omega arith); at = stored_one (λ k. g (get_or (ids ms) k 0)) a n v h e.at q }

  pub each_all : (a : List ℕ) (k n : ℕ) → n ≤ k → Each ms g k a → Each ms g n a
  each_all a k n h e = record { size = omega (arith, e.size); at = λ i l. e.at i (omega arith) }

  -- the members whose numbers pass a test are counted by their numbers
  pub each_counted : (f h : ℕ → Bool) (n : ℕ) (a : List ℕ) → length (ids ms) ≡ n → Each ms g n a → ((x : ℕ) → 0 < n → f (g x) ≡ h x) → count f (take n a) ≡ count h (ids ms)
  each_counted f h n a q e t =
      ap (λ (k : ℕ). count f (take k a)) (sym q) ∙
      count_pairs f h (ids ms) a (omega (arith, e.size)) (λ k l. rw (e.at k (omega arith)) (t (get_or (ids ms) k 0) (omega arith)))

-- the library's conversion of a test is its bit
pub bit_from : (b : Bool) → from_bool b ≡ bit b
bit_from true = refl
bit_from false = refl

-- 1 tells yes
pub bit_one : (b : Bool) → eqb 1 (bit b) ≡ b
bit_one true = refl
bit_one false = refl
