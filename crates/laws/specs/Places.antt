-- Rising identifiers by place: the next up from the one at a place stands at the next place, round the end, and so on for the next n.
use Rattle.std.specs.Prelude.{◌≡◌, refl, ◌⊎◌, true, List, [], ◌∷◌, ◌++◌, ℕ, zero, suc, ◌+◌, ◌-◌, ◌≤◌, ◌<◌, length, get_or, take, drop}
use Rattle.std.proofs.Common.{sym, ap, inl, inr, ⊎_elim, arith, drop_of_length-le, drop-cons, lt-ltb, le-ltb}
use Rattle.std.proofs.lemmas.List.{take-append-le}
use Rattle.model.specs.Lists.{last_of, rising}
use Rattle.model.specs.Ring.{first_above, last_below, next_up, next_down, next_ups}
use Rattle.laws.specs.Order.{less?}
use Rattle.laws.specs.Lists.{In, here, there, in_cons, in_nil, NoDup, Rising, rising_true, above_in}
use Rattle.laws.specs.Extended.{last_cons}

pub place_in : (l : List ℕ) (k : ℕ) → k < length l → In (get_or l k 0) l
place_in [] k h = absurd (omega arith)
place_in (y ∷ l) zero h = here refl
place_in (y ∷ l) (suc k) h = there (place_in l k (omega arith))

pub in_place : {x : ℕ} {l : List ℕ} → In x l → (k : ℕ) × (k < length l) × (get_or l k 0 ≡ x)
in_place (here e) = (0, omega arith, sym e)
in_place (there m) = let w = in_place m in (suc w.0, omega (arith, w.1), w.2)

-- where no two places have the same, no element stands twice
pub places_nodup : (l : List ℕ) → ((i j : ℕ) → i < j → j < length l → get_or l i 0 ≡ get_or l j 0 → ⊥) → NoDup l
places_nodup [] h = tt
places_nodup (x ∷ l) h = (λ m. let w = in_place m in h 0 (suc w.0) (omega arith) (omega (arith, w.1)) (sym w.2), places_nodup l (λ i j p q. h (suc i) (suc j) (omega arith) (omega arith)))

-- the first of rising identifiers is the lowest, the last the highest
pub first_least : {q : ℕ} (xs : List ℕ) → Rising xs → In q xs → get_or xs 0 0 ≤ q
first_least [] a i = absurd (in_nil i)
first_least (y ∷ l) a i = ⊎_elim (λ e. omega (arith, e)) (λ j. omega (arith, above_in l a j)) (in_cons i)

pub last_most : {q : ℕ} (xs : List ℕ) → Rising xs → In q xs → q ≤ last_of xs
last_most [] a i = absurd (in_nil i)
last_most (y ∷ []) a i = ⊎_elim (λ e. omega (arith, e)) (λ j. absurd (in_nil j)) (in_cons i)
last_most {q} (y ∷ z ∷ l) a i = rw (last_cons y z l) (⊎_elim (λ e. omega (arith, e, a.0, last_most {q = z} (z ∷ l) a.1 (here refl))) (λ j. last_most (z ∷ l) a.1 j) (in_cons i))

above_place : (l : List ℕ) (k d : ℕ) → Rising l → suc k < length l → first_above (get_or l k 0) l d ≡ get_or l (suc k) 0
above_place [] k d a h = absurd (omega arith)
above_place (y ∷ []) k d a h = absurd (omega arith)
above_place (y ∷ z ∷ l) zero d a h = rw (le-ltb y y (omega arith), lt-ltb y z a.0)
above_place (y ∷ z ∷ l) (suc k) d a h = rw (le-ltb (get_or (z ∷ l) k 0) y (omega (arith, above_in (z ∷ l) a (place_in (z ∷ l) k (omega arith))))) (above_place (z ∷ l) k d a.1 (omega arith))

above_end : (l : List ℕ) (k d : ℕ) → Rising l → suc k ≡ length l → first_above (get_or l k 0) l d ≡ d
above_end [] k d a h = absurd (omega arith)
above_end (y ∷ []) zero d a h = rw (le-ltb y y (omega arith))
above_end (y ∷ []) (suc k) d a h = absurd (omega arith)
above_end (y ∷ z ∷ l) zero d a h = absurd (omega arith)
above_end (y ∷ z ∷ l) (suc k) d a h = rw (le-ltb (get_or (z ∷ l) k 0) y (omega (arith, above_in (z ∷ l) a (place_in (z ∷ l) k (omega arith))))) (above_end (z ∷ l) k d a.1 (omega arith))

below_place : (l : List ℕ) (k d : ℕ) → Rising l → suc k < length l → last_below (get_or l (suc k) 0) l d ≡ get_or l k 0
below_place [] k d a h = absurd (omega arith)
below_place (y ∷ []) k d a h = absurd (omega arith)
below_place (y ∷ z ∷ l) zero d a h = rw (lt-ltb y z a.0, le-ltb z z (omega arith))
below_place (y ∷ z ∷ l) (suc k) d a h = rw (lt-ltb y (get_or (z ∷ l) (suc k) 0) (above_in (z ∷ l) a (place_in (z ∷ l) (suc k) (omega arith)))) (below_place (z ∷ l) k y a.1 (omega arith))

below_start : (l : List ℕ) (d : ℕ) → last_below (get_or l 0 0) l d ≡ d
below_start [] d = refl
below_start (y ∷ l) d = rw (le-ltb y y (omega arith))

taken : (l : List ℕ) (n : ℕ) → suc n ≤ length l → take (suc n) l ≡ get_or l 0 0 ∷ take n (drop 1 l ++ l)
taken [] n h = absurd (omega arith)
taken (y ∷ l) n h = rw (take-append-le n l (y ∷ l) (omega arith))

-- there are n of the next n up
pub next_ups_length : (n : ℕ) (xs : List ℕ) (x : ℕ) → length (next_ups n xs x) ≡ n
next_ups_length zero xs x = refl
next_ups_length (suc n) xs x = ap suc (next_ups_length n xs (next_up xs x))

-- the first of them is the next up
pub next_ups_first : (n : ℕ) (xs : List ℕ) (x : ℕ) → 1 ≤ n → get_or (next_ups n xs x) 0 0 ≡ next_up xs x
next_ups_first zero xs x h = absurd (omega arith)
next_ups_first (suc n) xs x h = refl

module _ (xs : List ℕ) (a : Rising xs) where
  pub next_up_place : (k : ℕ) → suc k < length xs → next_up xs (get_or xs k 0) ≡ get_or xs (suc k) 0
  next_up_place k h = above_place xs k (get_or xs 0 0) a h

  pub next_up_end : (k : ℕ) → suc k ≡ length xs → next_up xs (get_or xs k 0) ≡ get_or xs 0 0
  next_up_end k h = above_end xs k (get_or xs 0 0) a h

  pub next_down_place : (k : ℕ) → suc k < length xs → next_down xs (get_or xs (suc k) 0) ≡ get_or xs k 0
  next_down_place k h = below_place xs k (last_of xs) a h

  pub next_down_start : next_down xs (get_or xs 0 0) ≡ last_of xs
  next_down_start = below_start xs (last_of xs)

  -- the next n up from the one at place k: those at the later places, and then from the first on
  pub next_ups_place : (n k : ℕ) → n ≤ length xs → k < length xs → next_ups n xs (get_or xs k 0) ≡ take n (drop (suc k) xs ++ xs)
  next_ups_place zero k le h = refl
  next_ups_place (suc n) k le h = go (less? (suc k) (length xs)) (λ j. next_ups_place n j (omega arith))
    where
      ahead : suc k < length xs → take (suc n) (drop (suc k) xs ++ xs) ≡ get_or xs (suc k) 0 ∷ take n (drop (suc (suc k)) xs ++ xs)
      ahead l = rw (drop-cons xs (suc k) 0 l)

      round : suc k ≡ length xs → take (suc n) (drop (suc k) xs ++ xs) ≡ get_or xs 0 0 ∷ take n (drop 1 xs ++ xs)
      round e = rw (drop_of_length-le xs {i = suc k} (omega arith)) (taken xs n le)

      go : (suc k < length xs) ⊎ (length xs ≤ suc k) → ((j : ℕ) → j < length xs → next_ups n xs (get_or xs j 0) ≡ take n (drop (suc j) xs ++ xs))
          → next_ups (suc n) xs (get_or xs k 0) ≡ take (suc n) (drop (suc k) xs ++ xs)
      go (inl l) ih = rw (next_up_place k l, ahead l, ih (suc k) l)
      go (inr l) ih = rw (next_up_end k (omega arith), round (omega arith), ih 0 (omega arith))

-- the same as code has it: the places of the neighbours of the one at place i
module _ (xs : List ℕ) (a : rising xs ≡ true) (i : ℕ) (h : i < length xs) where
  pub above_inside : i + 1 < length xs → get_or xs (i + 1) 0 ≡ next_up xs (get_or xs i 0)
  above_inside l = let e : i + 1 ≡ suc i = omega arith in rw e (sym (next_up_place xs (rising_true xs a) i (omega arith)))

  pub above_round : length xs ≤ i + 1 → get_or xs 0 0 ≡ next_up xs (get_or xs i 0)
  above_round l = sym (next_up_end xs (rising_true xs a) i (omega arith))

  pub below_round : i < 1 → get_or xs (length xs - 1) 0 ≡ next_down xs (get_or xs i 0)
  below_round l = let e : i ≡ 0 = omega arith in rw e (sym (next_down_start xs (rising_true xs a)))

pub below_inside : (xs : List ℕ) → rising xs ≡ true → (i : ℕ) → i < length xs → 1 ≤ i → get_or xs (i - 1) 0 ≡ next_down xs (get_or xs i 0)
below_inside xs a zero h l = absurd (omega arith)
below_inside xs a (suc i) h l = let e : suc i - 1 ≡ i = omega arith in rw e (sym (next_down_place xs (rising_true xs a) i h))
