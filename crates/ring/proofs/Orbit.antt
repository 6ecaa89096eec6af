-- Any moves f from place to place: the places below n that come back to themselves are those that n moves, or more, lead to. Assumes nothing.
use Prim.Native.Nat.{ℕ, zero, suc, ◌+◌, ◌-◌, ◌≤◌, ◌<◌}
use mathlib.Core.Path.{◌≡◌, refl, sym, ap, ◌∙◌}
use mathlib.Core.Logic.{◌⊎◌, inl, inr}
use mathlib.Core.List.{List, [], ◌∷◌}
use native.Mathlib.Omega.{arith}
use lib.ListN.{length}
use Rattle.laws.specs.Order.{less?}
use Rattle.laws.specs.Lists.{In, here, there, in_cons, in_nil, in?, NoDup, pigeonhole}
use Rattle.laws.specs.Iterate.{iterate, iterate_move}

-- the numbers below n
numbers : ℕ → List ℕ
numbers zero = []
numbers (suc n) = n ∷ numbers n

numbers_length : (n : ℕ) → length (numbers n) ≡ n
unfolding numbers
numbers_length zero = refl
numbers_length (suc n) = ap suc (numbers_length n)

in_numbers : (n x : ℕ) → x < n → In x (numbers n)
unfolding numbers
in_numbers zero x h = absurd (omega arith)
in_numbers (suc n) x h = go (less? x n) (in_numbers n x)
  where
    go : (x < n) ⊎ (n ≤ x) → (x < n → In x (numbers n)) → In x (n ∷ numbers n)
    go (inl l) ih = there (ih l)
    go (inr l) ih = let e : x ≡ n = omega arith in here e

module _ (f : ℕ → ℕ) where
  -- j moves and then i moves are s moves
  pub iterate_sum : (i j s k : ℕ) → i + j ≡ s → iterate f i (iterate f j k) ≡ iterate f s k
  iterate_sum i zero s k e = let q : i ≡ s = omega arith in rw q
  iterate_sum i (suc j) zero k e = absurd (omega arith)
  iterate_sum i (suc j) (suc s) k e = iterate_sum i j s (f k) (omega arith)

  iterate_swap : (i j k : ℕ) → iterate f i (iterate f j k) ≡ iterate f j (iterate f i k)
  iterate_swap i j k = iterate_sum i j (i + j) k refl ∙ sym (iterate_sum j i (i + j) k (omega arith))

  -- the places stood at from k on, i of them
  abbrev pub visits : ℕ → ℕ → List ℕ
  visits zero k = []
  visits (suc i) k = k ∷ visits i (f k)

  visits_length : (i k : ℕ) → length (visits i k) ≡ i
  visits_length zero k = refl
  visits_length (suc i) k = ap suc (visits_length i (f k))

  pub in_visits : {x : ℕ} (i k : ℕ) → In x (visits i k) → (j : ℕ) × (j < i) × (iterate f j k ≡ x)
  in_visits zero k m = absurd (in_nil m)
  in_visits {x} (suc i) k m = go (in_cons m) (in_visits i (f k))
    where
      go : (x ≡ k) ⊎ In x (visits i (f k)) → (In x (visits i (f k)) → (j : ℕ) × (j < i) × (iterate f j (f k) ≡ x)) → (j : ℕ) × (j < suc i) × (iterate f j k ≡ x)
      go (inl e) ih = (0, omega arith, sym e)
      go (inr l) ih = let w = ih l in (suc w.0, omega arith, w.2)

  visits_in : (i j k : ℕ) → j < i → In (iterate f j k) (visits i k)
  visits_in zero j k h = absurd (omega arith)
  visits_in (suc i) zero k h = here refl
  visits_in (suc i) (suc j) k h = there (visits_in i j (f k) (omega arith))

  -- among the first m places from k on one is met again
  record Circle (m k : ℕ) : Type 0 where
    before : ℕ
    more : ℕ
    within : before + suc more < m
    back : iterate f (suc more) (iterate f before k) ≡ iterate f before k

  circle : (m k : ℕ) → NoDup (visits m k) ⊎ Circle m k
  circle zero k = inl tt
  circle (suc m) k = go (in? k (visits m (f k))) (circle m (f k))
    where
      go : In k (visits m (f k)) ⊎ (In k (visits m (f k)) → ⊥) → NoDup (visits m (f k)) ⊎ Circle m (f k) → NoDup (visits (suc m) k) ⊎ Circle (suc m) k
      go (inl i) r = let w = in_visits m (f k) i in inr (record { before = 0; more = w.0; within = omega arith; back = w.2 })
      go (inr o) (inl d) = inl (o, d)
      go (inr o) (inr c) = inr (record { before = suc c.before; more = c.more; within = omega arith; back = c.back })

  -- what comes back is led to by any number of moves, from a place that comes back too
  led_to : (q x : ℕ) → iterate f (suc q) x ≡ x → (e : ℕ) → (k : ℕ) × (iterate f e k ≡ x) × (iterate f (suc q) k ≡ k)
  led_to q x h zero = (x, refl, h)
  led_to q x h (suc e) =
      let w = led_to q x h e in
      let m : f (iterate f q w.0) ≡ w.0 = sym (iterate_move f q w.0) ∙ w.2 in
      (iterate f q w.0, ap (iterate f e) m ∙ w.1, ap (iterate f q) m)

  module _ (n : ℕ) (stays : (k : ℕ) → n ≤ k → n ≤ f k) where
    pub iterate_stays : (i k : ℕ) → n ≤ k → n ≤ iterate f i k
    iterate_stays zero k h = h
    iterate_stays (suc i) k h = iterate_stays i (f k) (stays k h)

    -- a place on a way that ends below n is below n
    on_the_way : (e j k : ℕ) → j ≤ e → iterate f e k < n → iterate f j k < n
    on_the_way e j k le h = go (less? (iterate f j k) n)
      where
        go : (iterate f j k < n) ⊎ (n ≤ iterate f j k) → iterate f j k < n
        go (inl l) = l
        go (inr l) = absurd (omega (arith, iterate_stays (e - j) (iterate f j k) l, iterate_sum (e - j) j e k (omega arith)))

    -- where n moves or more lead is met again within n moves
    pub far_back : (e k : ℕ) → n ≤ e → iterate f e k < n → In (iterate f e k) (visits n (f (iterate f e k)))
    far_back e k le h = go (circle (suc n) k)
      where
        below : (y : ℕ) → In y (visits (suc n) k) → In y (numbers n)
        below y m = let w = in_visits (suc n) k m in in_numbers n y (omega (arith, on_the_way e w.0 k (omega arith) h))

        go : NoDup (visits (suc n) k) ⊎ Circle (suc n) k → In (iterate f e k) (visits n (f (iterate f e k)))
        go (inl d) = absurd (omega (arith, pigeonhole (visits (suc n) k) (numbers n) d below, visits_length (suc n) k, numbers_length n))
        go (inr c) =
            let r = iterate_sum (e - c.before) c.before e k (omega arith) in
            let b : iterate f (suc c.more) (iterate f e k) ≡ iterate f e k =
            rw (← r) (iterate_swap (suc c.more) (e - c.before) (iterate f c.before k) ∙ ap (iterate f (e - c.before)) c.back) in
            rw b at (visits_in n c.more (f (iterate f e k)) (omega arith))

    -- and what is met again is where e moves lead, for any e
    pub back_far : (e x : ℕ) → x < n → In x (visits n (f x)) → (k : ℕ) × (k < n) × (iterate f e k ≡ x)
    back_far e x h m =
        let v = in_visits n (f x) m in
        let w = led_to v.0 x v.2 e in
        (w.0, on_the_way e 0 w.0 (omega arith) (omega (arith, w.1)), w.1)
