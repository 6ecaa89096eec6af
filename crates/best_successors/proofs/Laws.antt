-- Members by place: an identifier's place, the member there, its best successor, and one iteration of each loop. Assumes nothing.
use Prim.Native.Nat.{ℕ, zero, suc, ◌+◌, ◌≤◌, ◌<◌}
use mathlib.Core.Path.{◌≡◌, refl, sym, ap, ◌∙◌}
use mathlib.Core.List.{List, [], ◌∷◌, map}
use mathlib.Core.Bool.{Bool, true, false, not, ◌&&◌, ◌||◌, false≢true}
use mathlib.Core.Logic.{◌⊎◌, inl, inr}
use mathlib.Core.Option.{some, none}
use native.Mathlib.Nat.{le_of_suc-le-suc}
use native.Mathlib.Numerals.{add-one}
use native.Mathlib.Omega.{arith}
use borrow.Author.Tests.{eqb-true, eq-eqb, ne_eqb, lt-ltb, le-ltb}
use lib.Dec.{ltb, eqb}
use lib.ListN.{length, get_or, take, drop, set, drop_of_length-le}
use lib.Seq.{drop-cons}
use Rattle.std.specs.Prelude.{Option, Some, None, if◌then◌else◌}
use Rattle.std.specs.List.{list_any}
use Rattle.std.specs.Option.{is_some, unwrap_or}
use Rattle.model.specs.Lists.{every, any, sum, contains}
use Rattle.model.specs.Table.{Member, header_size, members_in, ids}
use Rattle.model.specs.Ring.{past, searched, live, nobody, named, has_live, first_live, best_successor, passed_by}
use Rattle.laws.specs.Lists.{or-false, Rising, rising_true, above_in, above_rising, length_ids}
use Rattle.laws.specs.Order.{less?}
use Rattle.laws.specs.Places.{place_in}
use Rattle.laws.specs.Searches.{first_next}
use Rattle.laws.specs.Words.{members_length}
use Rattle.table.specs.FormedWords.{FormedWords}
use Rattle.table.specs.Rank.{rank}
use Rattle.table.proofs.Members.{ids_count}
use Rattle.table.proofs.Place.{contains_rank}
use Rattle.places.proofs.Arrays.{stored_one}
use Rattle.best_successors.specs.Places.{place_of, first_place, next_place, at_place, BestPlaces}

-- Identifiers by place

pub place_none : (l : List ℕ) (x : ℕ) → contains l x ≡ false → place_of l x ≡ length l
place_none [] x h = refl
place_none (y ∷ l) x h = let w = or-false (eqb y x) (contains l x) h in rw w.0 (ap suc (place_none l x w.1))

pub place_found : (l : List ℕ) (x : ℕ) → contains l x ≡ true → (place_of l x < length l) × (get_or l (place_of l x) 0 ≡ x)
place_found [] x h = absurd (false≢true h)
place_found (y ∷ l) x h = go (eqb y x) refl h (place_found l x)
  where
    go : (b : Bool) → eqb y x ≡ b → (b || contains l x) ≡ true → (contains l x ≡ true → (place_of l x < length l) × (get_or l (place_of l x) 0 ≡ x))
        → ((if b then 0 else suc (place_of l x)) < suc (length l)) × (get_or (y ∷ l) (if b then 0 else suc (place_of l x)) 0 ≡ x)
    go true e k i = (omega arith, eqb-true y x e)
    go false e k i = let w = i k in (omega arith, w.1)

-- among rising identifiers each stands at its place
pub place_at : (l : List ℕ) (k : ℕ) → Rising l → k < length l → place_of l (get_or l k 0) ≡ k
place_at [] k a h = absurd (omega arith)
place_at (y ∷ l) zero a h = rw (eq-eqb y y refl)
place_at (y ∷ l) (suc k) a h =
    let b : y < get_or l k 0 = above_in l a (place_in l k (le_of_suc-le-suc h)) in
    rw (ne_eqb y (get_or l k 0) (λ (e : y ≡ get_or l k 0). omega arith)) (ap suc (place_at l k (above_rising y l a) (le_of_suc-le-suc h)))

-- and two at two places are not the same
pub same_place : (l : List ℕ) (j k : ℕ) → Rising l → j < length l → k < length l → get_or l j 0 ≡ get_or l k 0 → j ≡ k
same_place l j k a hj hk e = sym (place_at l j a hj) ∙ ap (place_of l) e ∙ place_at l k a hk

pub named_place : (ms : List Member) (k : ℕ) → Rising (ids ms) → k < length ms → named ms (get_or (ids ms) k 0) ≡ get_or ms k nobody
named_place [] k a h = absurd (omega arith)
named_place (m ∷ ms) zero a h = rw (eq-eqb m.id m.id refl)
named_place (m ∷ ms) (suc k) a h =
    let x : ℕ = get_or (ids ms) k 0 in
    let b : m.id < x = above_in (ids ms) a (place_in (ids ms) k (omega (arith, length_ids ms))) in
    rw (ne_eqb m.id x (λ (e : m.id ≡ x). omega arith)) (named_place ms k (above_rising m.id (ids ms) a) (le_of_suc-le-suc h))

-- First live entries by place

first_found : (ms : List Member) (l : List ℕ) → any (live ms) l ≡ true → (first_place ms l < length ms) × (first_live ms l ≡ some (get_or (ids ms) (first_place ms l) 0))
first_found ms [] h = absurd (false≢true h)
first_found ms (x ∷ l) h = rw (first_next ms x l) (go (live ms x) refl h (first_found ms l))
  where
    go : (b : Bool) → live ms x ≡ b → (b || any (live ms) l) ≡ true
        → (any (live ms) l ≡ true → (first_place ms l < length ms) × (first_live ms l ≡ some (get_or (ids ms) (first_place ms l) 0)))
        → ((if b then place_of (ids ms) x else first_place ms l) < length ms)
        × ((if b then some x else first_live ms l) ≡ some (get_or (ids ms) (if b then place_of (ids ms) x else first_place ms l) 0))
    go true e k i = let w = place_found (ids ms) x e in (omega (arith, length_ids ms), ap some (sym w.1))
    go false e k i = i k

first_none : (ms : List Member) (l : List ℕ) → any (live ms) l ≡ false → (first_place ms l ≡ length ms) × (first_live ms l ≡ none)
first_none ms [] h = (refl, refl)
first_none ms (x ∷ l) h = let w = or-false (live ms x) (any (live ms) l) h in rw (first_next ms x l, w.0) (first_none ms l w.1)

-- the list's first entry settles the search, or it is passed over
module _ (ms : List Member) (x : ℕ) (p : List ℕ) where
  first_entry : place_of (ids ms) x < length ms → (first_place ms (x ∷ p) ≡ place_of (ids ms) x) × ((searched ms (x ∷ p)).passed ≡ 0)
  first_entry l = go (live ms x) refl
    where
      go : (b : Bool) → live ms x ≡ b → ((if b then place_of (ids ms) x else first_place ms p) ≡ place_of (ids ms) x)
          × ((if b then record { entry = some x; passed = 0 } else past (searched ms p)).passed ≡ 0)
      go true t = (refl, refl)
      go false t = absurd (omega (arith, place_none (ids ms) x t, length_ids ms))

  later_entry : length ms ≤ place_of (ids ms) x → (first_place ms (x ∷ p) ≡ first_place ms p) × ((searched ms (x ∷ p)).passed ≡ suc (searched ms p).passed)
  later_entry l = go (live ms x) refl
    where
      go : (b : Bool) → live ms x ≡ b → ((if b then place_of (ids ms) x else first_place ms p) ≡ first_place ms p)
          × ((if b then record { entry = some x; passed = 0 } else past (searched ms p)).passed ≡ suc (searched ms p).passed)
      go true t = absurd (omega (arith, (place_found (ids ms) x t).0, length_ids ms))
      go false t = (refl, refl)

-- A place where the count stands for none, and its option

module _ {n p : ℕ} where
  pub at_some : p < n → at_place n p ≡ Some p
  at_some h = rw (lt-ltb p n h)

  pub at_none : n ≤ p → at_place n p ≡ None
  at_none h = rw (le-ltb p n h)

  pub some_at : {k : ℕ} → Some k ≡ at_place n p → (k ≡ p) × (p < n)
  some_at {k} e = go (less? p n)
    where
      go : (p < n) ⊎ (n ≤ p) → (k ≡ p) × (p < n)
      go (inl l) = let q = e ∙ at_some l in (cc, l)
      go (inr l) = let q = e ∙ at_none l in absurd (cc)

  pub none_at : None ≡ at_place n p → n ≤ p
  none_at e = go (less? p n)
    where
      go : (p < n) ⊎ (n ≤ p) → n ≤ p
      go (inl l) = let q = e ∙ at_some l in absurd (cc)
      go (inr l) = l

  -- the count in the place of none
  pub or_count : {o : Option ℕ} → o ≡ at_place n p → p ≤ n → unwrap_or o n ≡ p
  or_count {o = o} e h = go (less? p n)
    where
      go : (p < n) ⊎ (n ≤ p) → unwrap_or o n ≡ p
      go (inl l) = rw (e ∙ at_some l)
      go (inr l) = rw (e ∙ at_none l) (omega arith)

-- `all_live`: a test of members that their places tell
live_pairs : (h : Member → Bool) (n : ℕ) (l : List Member) (a : List ℕ) → length l ≤ length a → ((k : ℕ) → k < length l → h (get_or l k nobody) ≡ not (eqb (get_or a k 0) n))
    → not (list_any (λ y. eqb y n) (take (length l) a)) ≡ every h l
live_pairs h n [] a le e = refl
live_pairs h n (m ∷ l) [] le e = absurd (omega arith)
live_pairs h n (m ∷ l) (y ∷ a) le e = rw (e 0 (omega arith), ← live_pairs h n l a (omega arith) (λ k b. e (suc k) (omega arith))) (neither (eqb y n))
  where
    neither : (b : Bool) → not (b || list_any (λ y. eqb y n) (take (length l) a)) ≡ (not b && not (list_any (λ y. eqb y n) (take (length l) a)))
    neither true = refl
    neither false = refl

below_most : {j n : ℕ} → j ≤ n → ltb j n ≡ not (eqb j n)
below_most {j} {n} h = go (less? j n)
  where
    go : (j < n) ⊎ (n ≤ j) → ltb j n ≡ not (eqb j n)
    go (inl l) = rw (lt-ltb j n l, ne_eqb j n (λ e. omega arith))
    go (inr l) = rw (le-ltb j n l, eq-eqb j n (omega arith))

-- In a whole table

module _ (ws : List ℕ) where
  abbrev ms : List Member
  ms = members_in ws

  abbrev id_at : ℕ → ℕ
  id_at k = get_or (ids ms) k 0

  abbrev n : ℕ
  n = get_or ws 1 0

  pub member_count : length ms ≡ n
  member_count = members_length (get_or ws 0 0) (get_or ws 1 0) (drop header_size ws)

  pub rises : FormedWords ws → Rising (ids ms)
  rises f = rising_true (ids ms) f.rises

  -- `place`: the identifier found by halves is at its place, or nowhere
  module _ (f : FormedWords ws) (x k : ℕ) where
    pub placed : k < n → id_at k ≡ x → k ≡ place_of (ids ms) x
    placed h e = rw (← e) (sym (place_at (ids ms) k (rises f) (omega (arith, ids_count ws))))

    pub unplaced : k ≡ rank (ids ms) x → (ltb k n && eqb (id_at k) x) ≡ false → n ≡ place_of (ids ms) x
    unplaced e h =
        let z : contains (ids ms) x ≡ false = contains_rank (ids ms) x f.rises ∙ rw (ids_count ws, ← e) h in
        sym (place_none (ids ms) x z ∙ ids_count ws)

  -- `first_live`: the search of the entries from i on is what is left of the search of l
  abbrev pub Left : List ℕ → ℕ → Type 0
  Left l i = (first_place ms (drop i l) ≡ first_place ms l) × (i + (searched ms (drop i l)).passed ≡ (searched ms l).passed)

  module _ (l : List ℕ) (i : ℕ) (u : Left l i) where
    rest : i < length l → drop i l ≡ get_or l i 0 ∷ drop (i + 1) l
    rest h = rw (add-one, drop-cons l i 0 h)

    module _ (h : i < length l) where
      pub first_here : {o : Option ℕ} → o ≡ at_place n (place_of (ids ms) (get_or l i 0)) → is_some o ≡ true → (o ≡ at_place n (first_place ms l)) × (i ≡ (searched ms l).passed)
      first_here {o = None} e t = absurd (false≢true t)
      first_here {o = Some k} e t =
          let w = first_entry ms (get_or l i 0) (drop (i + 1) l) (omega (arith, (some_at e).1, member_count)) in
          let v = rw (rest h) at u in
          (e ∙ ap (at_place n) (sym w.0 ∙ v.0), omega (arith, w.1, v.1))

      pub first_on : {o : Option ℕ} → o ≡ at_place n (place_of (ids ms) (get_or l i 0)) → is_some o ≡ false → Left l (i + 1)
      first_on {o = Some k} e t = absurd (false≢true (sym t))
      first_on {o = None} e t =
          let w = later_entry ms (get_or l i 0) (drop (i + 1) l) (omega (arith, none_at e, member_count)) in
          let v = rw (rest h) at u in
          (sym w.0 ∙ v.0, omega (arith, w.1, v.1))

    pub first_end : length l ≤ i → i ≤ length l → (None ≡ at_place n (first_place ms l)) × (length l ≡ (searched ms l).passed)
    first_end g h =
        let v = rw (drop_of_length-le l {i = i} g) at u in
        (sym (at_none (omega (arith, v.0, member_count))), omega (arith, v.1))

  -- `best_of`: the first entry stands at the place guessed
  pub first_guessed : FormedWords ws → (p : List ℕ) (j : ℕ) → 0 < length p → j < n → id_at j ≡ get_or p 0 0 → (Some j ≡ at_place n (first_place ms p)) × (0 ≡ (searched ms p).passed)
  first_guessed f [] j h l e = absurd (omega arith)
  first_guessed f (x ∷ p) j h l e =
      let q = placed f x j l e in
      let w = first_entry ms x p (omega (arith, q, member_count)) in
      (sym (at_some l) ∙ ap (at_place n) (q ∙ sym w.0), sym w.1)

  -- `fill_best`: with the entry at place k stored, one place more is right
  abbrev pub BestTo : List ℕ → ℕ → Type 0
  BestTo a k = (i : ℕ) → i < k → get_or a i 0 ≡ next_place ms i

  pub stored : (a : List ℕ) (k j : ℕ) → k < length a → BestTo a k → j ≡ next_place ms k → BestTo (set a k j) (k + 1)
  stored a k j h r e = stored_one (next_place ms) a k j h r e

  pub all_stored : (a : List ℕ) (k : ℕ) → BestTo a k → n ≤ k → BestPlaces ws a
  all_stored a k r h = record { at = λ i l. r i (omega (arith, member_count)) }

  -- `fill_best`: the entries passed over by the members from place k on
  abbrev pub passed_from : ℕ → ℕ
  passed_from k = sum (map (passed_by ms) (drop k ms))

  pub passed_on : (k p : ℕ) → k < n → p ≡ passed_by ms (get_or ms k nobody) → p + passed_from (k + 1) ≡ passed_from k
  passed_on k p h e = rw (add-one, drop-cons ms k nobody (omega (arith, member_count)), e)

  pub passed_end : (k : ℕ) → n ≤ k → passed_from k ≡ 0
  passed_end k h = rw (drop_of_length-le ms {i = k} (omega (arith, member_count)))

  -- an array's entry at a member's place
  pub best_at : (a : List ℕ) → BestPlaces ws a → (k : ℕ) → k < n → get_or a k 0 ≡ next_place ms k
  best_at a b k h = b.at k (omega (arith, member_count))

  -- the best successor of the member at place k, by its place j
  module _ (k j : ℕ) (h : k < n) (e : j ≡ next_place ms k) where
    pub has_live_law : has_live ms (get_or ms k nobody) ≡ ltb j n
    has_live_law = go (has_live ms (get_or ms k nobody)) refl
      where
        go : (b : Bool) → has_live ms (get_or ms k nobody) ≡ b → b ≡ ltb j n
        go true t = sym (lt-ltb j n (omega (arith, (first_found ms (get_or ms k nobody).successors t).0, member_count)))
        go false t = sym (le-ltb j n (omega (arith, (first_none ms (get_or ms k nobody).successors t).0, member_count)))

    module _ (f : FormedWords ws) where
      named_here : named ms (id_at k) ≡ get_or ms k nobody
      named_here = named_place ms k (rises f) (omega (arith, member_count))

      pub passed_here : {p : ℕ} → p ≡ passed_by ms (get_or ms k nobody) → passed_by ms (named ms (id_at k)) ≡ p
      passed_here w = ap (passed_by ms) named_here ∙ sym w

      pub best : j < n → best_successor ms (id_at k) ≡ some (id_at j)
      best l = rw (named_here, e) (first_found ms (get_or ms k nobody).successors (has_live_law ∙ lt-ltb j n l)).1

      pub no_best : n ≤ j → best_successor ms (id_at k) ≡ none
      no_best l = rw named_here (first_none ms (get_or ms k nobody).successors (has_live_law ∙ le-ltb j n l)).1

    -- that place is no more than the member count
    pub best_most : j ≤ n
    best_most = go (has_live ms (get_or ms k nobody)) refl
      where
        go : (b : Bool) → has_live ms (get_or ms k nobody) ≡ b → j ≤ n
        go true t = omega (arith, (first_found ms (get_or ms k nobody).successors t).0, member_count)
        go false t = omega (arith, (first_none ms (get_or ms k nobody).successors t).0, member_count)

  -- `all_live`: no best successor is missing
  pub live_all : (a : List ℕ) → n ≤ length a → BestPlaces ws a → not (list_any (λ y. eqb y n) (take n a)) ≡ every (has_live ms) ms
  live_all a s b = ap (λ (k : ℕ). not (list_any (λ y. eqb y n) (take k a))) (sym member_count) ∙ live_pairs (has_live ms) n ms a (omega (arith, member_count))
      (λ k h. has_live_law k (get_or a k 0) (omega (arith, member_count)) (b.at k h) ∙ below_most (best_most k (get_or a k 0) (omega (arith, member_count)) (b.at k h)))
