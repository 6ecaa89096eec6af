-- The arrays behind the ring's bits: moves made twice, places marked, and that the places which enough moves lead to are the ring.
-- Assumes nothing.
use Prim.Native.Nat.{ℕ, zero, suc, ◌+◌, ◌≤◌, ◌<◌}
use mathlib.Core.Path.{◌≡◌, refl, sym, ap, ◌∙◌}
use mathlib.Core.List.{List, [], ◌∷◌, ◌++◌}
use mathlib.Core.Bool.{Bool, true, false, ◌||◌, or-false}
use mathlib.Core.Logic.{◌⊎◌, inl, inr}
use native.Mathlib.Numerals.{add-one}
use native.Mathlib.Omega.{arith}
use borrow.Author.Tests.{eqb-true, eq-eqb, ne_eqb, lt-ltb, le-ltb}
use lib.Dec.{eqb}
use lib.ListN.{length, get_or, take, set, get_or-eq_default}
use lib.Seq.{take-suc, length-take-le, get_or-take, get_or-set_same, get_or-set_other}
use Rattle.model.specs.Lists.{bit, contains}
use Rattle.model.specs.Table.{Member, members_in, ids}
use Rattle.model.specs.Ring.{nobody, reaches, on_ring}
use Rattle.laws.specs.Lists.{In, in_contains, contains_in, not_contains, true_or}
use Rattle.laws.specs.Iterate.{iterate}
use Rattle.laws.specs.Order.{equal?, less?}
use Rattle.laws.specs.Places.{place_in, in_place}
use Rattle.table.specs.FormedWords.{FormedWords}
use Rattle.table.proofs.Members.{ids_count}
use Rattle.best_successors.specs.Places.{next_place, BestPlaces}
use Rattle.best_successors.proofs.Laws.{same_place, member_count, rises, best_at, best, no_best, best_most}
use Rattle.ring.specs.Far.{from_place, Doubled, FarPlaces}
use Rattle.ring.proofs.Orbit.{iterate_sum, iterate_stays, visits, in_visits, far_back, back_far}

same_test : (a b : Bool) → (a ≡ true → b ≡ true) → (b ≡ true → a ≡ true) → a ≡ b
same_test true b h k = sym (h refl)
same_test false true h k = k refl
same_test false false h k = refl

-- `marks`: one number more

contains_last : (l : List ℕ) (y x : ℕ) → contains (l ++ (y ∷ [])) x ≡ (contains l x || eqb y x)
contains_last [] y x = or-false (eqb y x)
contains_last (z ∷ l) y x = go (eqb z x) (contains_last l y x)
  where
    go : (b : Bool) → contains (l ++ (y ∷ [])) x ≡ (contains l x || eqb y x) → (b || contains (l ++ (y ∷ [])) x) ≡ ((b || contains l x) || eqb y x)
    go true ih = refl
    go false ih = ih

module _ (a m : List ℕ) (k n : ℕ) (h : k < length a) (right : (j : ℕ) → j < n → get_or m j 0 ≡ bit (contains (take k a) j)) where
  one_more : (j : ℕ) → contains (take (k + 1) a) j ≡ (contains (take k a) j || eqb (get_or a k 0) j)
  one_more j = rw (add-one, take-suc a k 0 h) (contains_last (take k a) (get_or a k 0) j)

  other : (j : ℕ) → (get_or a k 0 ≡ j → ⊥) → contains (take (k + 1) a) j ≡ contains (take k a) j
  other j q = one_more j ∙ rw (ne_eqb (get_or a k 0) j q) (or-false (contains (take k a) j))

  pub marked : n ≤ length m → get_or a k 0 < n → (j : ℕ) → j < n → get_or (set m (get_or a k 0) 1) j 0 ≡ bit (contains (take (k + 1) a) j)
  marked s b j l = go (equal? j (get_or a k 0))
    where
      go : (j ≡ get_or a k 0) ⊎ (j ≡ get_or a k 0 → ⊥) → get_or (set m (get_or a k 0) 1) j 0 ≡ bit (contains (take (k + 1) a) j)
      go (inl q) = rw (q, get_or-set_same m (get_or a k 0) 1 0 (omega arith), one_more (get_or a k 0) ∙ true_or (contains (take k a) (get_or a k 0)) (eq-eqb (get_or a k 0) (get_or a k 0) refl))
      go (inr q) = rw (get_or-set_other m (get_or a k 0) j 1 0 q, other j (λ e. q (sym e))) (right j l)

  pub not_marked : n ≤ get_or a k 0 → (j : ℕ) → j < n → get_or m j 0 ≡ bit (contains (take (k + 1) a) j)
  not_marked b j l = rw (other j (λ e. omega arith)) (right j l)

-- In a whole table

module _ (ws : List ℕ) where
  abbrev ms : List Member
  ms = members_in ws

  abbrev id_at : ℕ → ℕ
  id_at k = get_or (ids ms) k 0

  abbrev n : ℕ
  n = get_or ws 1 0

  abbrev f : ℕ → ℕ
  f k = next_place ms k

  stays : (k : ℕ) → n ≤ k → f k ≡ n
  stays k h = rw (get_or-eq_default ms nobody {n = k} (omega (arith, member_count ws))) (member_count ws)

  no_less : (k : ℕ) → n ≤ k → n ≤ f k
  no_less k h = omega (arith, stays k h)

  most : (k : ℕ) → f k ≤ n
  most k = go (less? k n)
    where
      go : (k < n) ⊎ (n ≤ k) → f k ≤ n
      go (inl l) = best_most ws k (f k) l refl
      go (inr l) = omega (arith, stays k l)

  iterate_most : (i k : ℕ) → k ≤ n → iterate f i k ≤ n
  iterate_most zero k h = h
  iterate_most (suc i) k h = iterate_most i (f k) (most k)

  -- `far_places`: an array has where e moves lead
  abbrev pub Along : List ℕ → ℕ → Type 0
  Along a e = (k : ℕ) → k < n → get_or a k 0 ≡ iterate (next_place ms) e k

  pub along_best : (a : List ℕ) → BestPlaces ws a → Along a 1
  along_best a b k h = best_at ws a b k h

  pub along_twice : (a d : List ℕ) (e : ℕ) → Along a e → Doubled n a d → Along d (e + e)
  along_twice a d e r q k h = q.at k h ∙ rw (r k h) (go (less? (iterate f e k) n)) ∙ iterate_sum f e e (e + e) k refl
    where
      go : (iterate f e k < n) ⊎ (n ≤ iterate f e k) → from_place n a (iterate f e k) ≡ iterate f e (iterate f e k)
      go (inl l) = rw (lt-ltb (iterate f e k) n l) (r (iterate f e k) l)
      go (inr l) =
          let z : iterate f e k ≡ n = omega (arith, iterate_most e k (omega arith)) in
          rw (z, le-ltb n n (omega arith)) (omega (arith, iterate_stays f n no_less e n (omega arith), iterate_most e n (omega arith)))

  -- reached by moves from member to member: a place stood at
  module _ (fm : FormedWords ws) where
    same_ids : (j z : ℕ) → j < n → z < n → eqb (id_at j) (id_at z) ≡ eqb j z
    same_ids j z hj hz = same_test (eqb (id_at j) (id_at z)) (eqb j z)
        (λ e. eq-eqb j z (same_place (ids ms) j z (rises ws fm) (omega (arith, ids_count ws)) (omega (arith, ids_count ws)) (eqb-true (id_at j) (id_at z) e)))
        (λ e. eq-eqb (id_at j) (id_at z) (ap id_at (eqb-true j z e)))

    reaches_visits : (left z k : ℕ) → z < n → k < n → reaches ms left (id_at z) (id_at k) ≡ contains (visits f left (f k)) z
    reaches_visits zero z k hz hk = refl
    reaches_visits (suc left) z k hz hk = go (less? (f k) n) (reaches_visits left z (f k) hz)
      where
        never : n ≤ f k → In z (visits f (suc left) (f k)) → ⊥
        never l m = let w = in_visits f (suc left) (f k) m in omega (arith, iterate_stays f n no_less w.0 (f k) l)

        go : (f k < n) ⊎ (n ≤ f k) → (f k < n → reaches ms left (id_at z) (id_at (f k)) ≡ contains (visits f left (f (f k))) z)
            → reaches ms (suc left) (id_at z) (id_at k) ≡ contains (visits f (suc left) (f k)) z
        go (inl l) ih = rw (best ws k (f k) hk refl fm l, same_ids (f k) z l hz, ih l)
        go (inr l) ih = rw (no_best ws k (f k) hk refl fm l) (sym (not_contains z (visits f (suc left) (f k)) (never l)))

    -- `ring_bits`: the places which enough moves lead to are those of the members on the ring
    pub far_ring : (a : List ℕ) → FarPlaces ws a → (z : ℕ) → z < n → contains (take n a) z ≡ on_ring ms (id_at z)
    far_ring a p z h = same_test (contains (take n a) z) (contains (visits f n (f z)) z) there? back? ∙ sym (reaches_visits n z z h h) ∙ rw member_count
      where
        size : length (take n a) ≡ n
        size = length-take-le n a (omega (arith, fm.few, p.size))

        there? : contains (take n a) z ≡ true → contains (visits f n (f z)) z ≡ true
        there? e =
            let w = in_place (contains_in z (take n a) e) in
            let l : w.0 < n = omega (arith, size) in
            let x : iterate f p.moves w.0 ≡ z = sym (p.at w.0 l) ∙ sym (get_or-take n a w.0 0 l) ∙ w.2 in
            let m = far_back f n no_less p.moves w.0 p.enough (omega arith) in
            in_contains (rw x at m)

        back? : contains (visits f n (f z)) z ≡ true → contains (take n a) z ≡ true
        back? e =
            let w = back_far f n no_less p.moves z h (contains_in z (visits f n (f z)) e) in
            let x : get_or (take n a) w.0 0 ≡ z = get_or-take n a w.0 0 w.1 ∙ p.at w.0 w.1 ∙ w.2 in
            in_contains (rw x at (place_in (take n a) w.0 (omega (arith, size))))
