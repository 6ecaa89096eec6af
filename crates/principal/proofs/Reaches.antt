-- Reaches: a range marked, no range marked, and the marks read off by the largest reach so far. Assumes nothing.
use Prim.Native.Nat.{ℕ, zero, suc, ◌+◌, ◌≤◌, ◌<◌, max}
use mathlib.Core.Path.{◌≡◌, refl, sym, ◌∙◌}
use mathlib.Core.List.{List, [], ◌∷◌}
use mathlib.Core.Bool.{Bool, true, false, not, ◌&&◌, ◌||◌, and-false, or-false, or-true, or_assoc}
use mathlib.Core.Logic.{◌⊎◌, inl, inr}
use native.Mathlib.Nat.{le_of_suc-le-suc}
use native.Mathlib.Numerals.{add-one}
use native.Mathlib.Omega.{arith}
use borrow.Author.Tests.{lt-ltb, le-ltb, le-leb, lt-leb}
use lib.Dec.{ltb, leb, leb-suc-suc}
use lib.ListN.{length, get_or, take, set, replicate, length-set}
use lib.Seq.{get_or-set_other}
use Rattle.model.specs.Lists.{any}
use Rattle.laws.specs.Order.{less?}
use Rattle.principal.specs.Marks.{covered, Marks}

-- A range from lo to below hi: the first i reaches tell of it just if it starts among them

module _ (j hi : ℕ) where
  -- a larger reach in the place of x
  widened : (x : ℕ) (b : Bool) → x ≤ hi → (ltb j hi || b) ≡ ((ltb j x || b) || ltb j hi)
  widened x b h = go (less? j x) (less? j hi) b
    where
      go : (j < x) ⊎ (x ≤ j) → (j < hi) ⊎ (hi ≤ j) → (b : Bool) → (ltb j hi || b) ≡ ((ltb j x || b) || ltb j hi)
      go (inl u) (inl v) b = rw (lt-ltb j x u, lt-ltb j hi v)
      go (inl u) (inr v) b = absurd (omega arith)
      go (inr u) (inl v) true = rw (le-ltb j x u, lt-ltb j hi v)
      go (inr u) (inl v) false = rw (le-ltb j x u, lt-ltb j hi v)
      go (inr u) (inr v) b = rw (le-ltb j x u, le-ltb j hi v, or-false)

  stored : (a : List ℕ) (i lo : ℕ) → lo < length a → get_or a lo 0 ≤ hi → any (ltb j) (take i (set a lo hi)) ≡ (any (ltb j) (take i a) || (ltb lo i && ltb j hi))
  stored [] i lo h q = absurd (omega arith)
  stored (x ∷ a) zero lo h q = rw (le-ltb lo 0 (omega arith))
  stored (x ∷ a) (suc i) zero h q = rw (lt-ltb 0 (suc i) (omega arith)) (widened x (any (ltb j) (take i a)) q)
  stored (x ∷ a) (suc i) (suc lo) h q = rw (leb-suc-suc (suc lo) i, stored a i lo (le_of_suc-le-suc h) q) (sym (or_assoc (ltb j x) (any (ltb j) (take i a)) (ltb lo i && ltb j hi)))

  -- a reach that is there tells already
  within : (a : List ℕ) (i lo : ℕ) → lo < i → lo < length a → j < get_or a lo 0 → any (ltb j) (take i a) ≡ true
  within [] i lo u h q = absurd (omega arith)
  within (x ∷ a) zero lo u h q = absurd (omega arith)
  within (x ∷ a) (suc i) zero u h q = rw (lt-ltb j x q)
  within (x ∷ a) (suc i) (suc lo) u h q = rw (within a i lo (le_of_suc-le-suc u) (le_of_suc-le-suc h) q) (or-true (ltb j x))

  there : (a : List ℕ) (lo : ℕ) → lo < length a → hi ≤ get_or a lo 0 → covered a j ≡ (covered a j || (leb lo j && ltb j hi))
  there a lo h q = go (less? j lo) (less? j hi)
    where
      go : (j < lo) ⊎ (lo ≤ j) → (j < hi) ⊎ (hi ≤ j) → covered a j ≡ (covered a j || (leb lo j && ltb j hi))
      go (inl u) v = rw (lt-leb lo j u, or-false)
      go (inr u) (inl v) = rw (within a (suc j) lo (omega arith) h (omega arith))
      go (inr u) (inr v) = rw (le-leb lo j u, le-ltb j hi v, or-false)

  nothing : (a : List ℕ) (lo : ℕ) → hi ≤ lo → covered a j ≡ (covered a j || (leb lo j && ltb j hi))
  nothing a lo h = go (less? j hi)
    where
      go : (j < hi) ⊎ (hi ≤ j) → covered a j ≡ (covered a j || (leb lo j && ltb j hi))
      go (inl v) = rw (lt-leb lo j (omega arith), or-false)
      go (inr v) = rw (le-ltb j hi v, and-false (leb lo j), or-false)

-- `cover`: each of its ends
module _ (a : List ℕ) (lo hi : ℕ) where
  pub empty_range : hi ≤ lo → Marks 256 (λ j. leb lo j && ltb j hi) a a
  empty_range h = record { size = refl; at = λ j l. nothing j hi a lo h }

  pub known_range : lo < length a → hi ≤ get_or a lo 0 → Marks 256 (λ j. leb lo j && ltb j hi) a a
  known_range h q = record { size = refl; at = λ j l. there j hi a lo h q }

  pub new_range : lo < length a → get_or a lo 0 < hi → Marks 256 (λ j. leb lo j && ltb j hi) a (set a lo hi)
  new_range h q = record { size = length-set a lo hi; at = λ j l. stored j hi a (suc j) lo h (omega arith) ∙ rw (leb-suc-suc lo j) }

-- no reach, no mark
pub none_covered : (n i j : ℕ) → any (ltb j) (take i (replicate n 0)) ≡ false
none_covered n zero j = refl
none_covered zero (suc i) j = refl
none_covered (suc n) (suc i) j = rw (le-ltb j 0 (omega arith)) (none_covered n i j)

-- The largest of the first reaches

-- it tells of a place what they do
abbrev pub Top : List ℕ → ℕ → ℕ → Type 0
Top a k top = (j : ℕ) → any (ltb j) (take k a) ≡ ltb j top

pub top_none : (a : List ℕ) → Top a 0 0
top_none a j = sym (le-ltb j 0 (omega arith))

one_more : (f : ℕ → Bool) (a : List ℕ) (k : ℕ) → k < length a → any f (take (suc k) a) ≡ (any f (take k a) || f (get_or a k 0))
one_more f [] k h = absurd (omega arith)
one_more f (x ∷ a) zero h = or-false (f x)
one_more f (x ∷ a) (suc k) h = rw (one_more f a k (le_of_suc-le-suc h)) (sym (or_assoc (f x) (any f (take k a)) (f (get_or a k 0))))

larger_either : (j a b : ℕ) → (ltb j a || ltb j b) ≡ ltb j (max a b)
larger_either j a b = go (less? j a) (less? j b)
  where
    go : (j < a) ⊎ (a ≤ j) → (j < b) ⊎ (b ≤ j) → (ltb j a || ltb j b) ≡ ltb j (max a b)
    go (inl v) w = rw (lt-ltb j a v, lt-ltb j (max a b) (omega arith))
    go (inr v) (inl w) = rw (le-ltb j a v, lt-ltb j b w, lt-ltb j (max a b) (omega arith))
    go (inr v) (inr w) = rw (le-ltb j a v, le-ltb j b w, le-ltb j (max a b) (omega arith))

pub top_more : (a : List ℕ) (k top next : ℕ) → k < length a → Top a k top → next ≡ max top (get_or a k 0) → Top a (k + 1) next
top_more a k top next h t e j = rw (add-one k, one_more (ltb j) a k h, t j, e) (larger_either j top (get_or a k 0))

-- and so of the next place
pub not_covered : (a : List ℕ) (k top : ℕ) → Top a (k + 1) top → leb top k ≡ not (covered a k)
not_covered a k top t = go (less? k top) (rw (add-one k) at (t k))
  where
    go : (k < top) ⊎ (top ≤ k) → covered a k ≡ ltb k top → leb top k ≡ not (covered a k)
    go (inl u) e = rw (e, lt-ltb k top u, lt-leb top k u)
    go (inr u) e = rw (e, le-ltb k top u, le-leb top k u)

-- The reaches not read yet

-- from place k on an array is as it was
abbrev pub Unread : List ℕ → ℕ → List ℕ → Type 0
Unread a k b = (j : ℕ) → k ≤ j → get_or b j 0 ≡ get_or a j 0

pub unread_stored : (a : List ℕ) (k : ℕ) (b : List ℕ) (v : ℕ) → Unread a k b → Unread a (k + 1) (set b k v)
unread_stored a k b v r j h = get_or-set_other b k j v 0 (λ (e : j ≡ k). omega arith) ∙ r j (omega arith)
