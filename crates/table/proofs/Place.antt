-- The place of an identifier among rising ones, and what is done to the member there. Assumes nothing.
use Prim.Native.Nat.{ℕ, zero, suc, ◌≤◌, ◌<◌}
use mathlib.Core.Path.{◌≡◌, refl, sym, ap, ◌∙◌}
use mathlib.Core.List.{List, [], ◌∷◌, ◌++◌}
use mathlib.Core.Bool.{Bool, true, false, not, ◌&&◌, ◌||◌, or-false, false≢true, true≢false}
use mathlib.Core.Logic.{◌⊎◌, inl, inr}
use native.Mathlib.Nat.{le_of_suc-le-suc}
use native.Mathlib.Omega.{arith}
use borrow.Author.Tests.{ltb-true, ltb-false, eqb-true, eqb-false, lt-ltb, le-ltb, le-leb, lt-leb, eq-eqb, ne_eqb}
use lib.Dec.{ltb, leb, eqb, leb-suc-suc}
use lib.ListN.{length, get_or, take, drop}
use Rattle.std.specs.Prelude.{if◌then◌else◌, Result, Ok, Err}
use Rattle.std.specs.Result.{is_ok, is_err}
use Rattle.model.specs.Lists.{contains, rising, rising_from}
use Rattle.model.specs.Table.{Member, header_size, table_of, members_in, ids}
use Rattle.model.specs.Ring.{live, named, nobody}
use Rattle.model.specs.Steps.{inserted, replaced, is_named, staying}
use Rattle.model.specs.Calls.{written}
use Rattle.table.specs.FormedWords.{FormedWords}
use Rattle.table.specs.Rank.{rank}
use Rattle.table.specs.Located.{Stands, located}
use Rattle.laws.specs.Words.{OwnHeader, members_length, written_same}
use Rattle.laws.specs.Tables.{well_formed_facts}
use Rattle.laws.specs.Lists.{and-true as both, in_live}
use Rattle.laws.specs.Removed.{without_none}
use Rattle.laws.specs.Order.{less?}
use Rattle.table.proofs.Members.{ids_count, id_of, size_words}

-- Rising identifiers

below_eqb : (x y : ℕ) → x < y → eqb x y ≡ false
below_eqb x y h = ne_eqb x y (λ (e : x ≡ y). omega arith)

rising_tail : (x : ℕ) (l : List ℕ) → rising_from x l ≡ true → rising l ≡ true
rising_tail x [] e = refl
rising_tail x (y ∷ l) e = (both (ltb x y) (rising_from y l) e).1

rising_above : (x : ℕ) (l : List ℕ) (k : ℕ) → rising_from x l ≡ true → k < length l → x < get_or l k 0
rising_above x [] k e h = absurd (omega arith)
rising_above x (y ∷ l) zero e h = ltb-true x y (both (ltb x y) (rising_from y l) e).0
rising_above x (y ∷ l) (suc k) e h =
    let b = both (ltb x y) (rising_from y l) e in
    omega (arith, ltb-true x y b.0, rising_above y l k b.1 (le_of_suc-le-suc h))

-- what is not above the first is not among the others
none_below : (x y : ℕ) (l : List ℕ) → rising_from y l ≡ true → x ≤ y → contains l x ≡ false
none_below x y [] e h = refl
none_below x y (z ∷ l) e h =
    let b = both (ltb y z) (rising_from z l) e in
    let q = ltb-true y z b.0 in
    rw (ne_eqb z x (λ (p : z ≡ x). omega arith)) (none_below x z l b.1 (omega arith))

-- The place found by halves

pub rank_most : (l : List ℕ) (x : ℕ) → rank l x ≤ length l
rank_most [] x = omega arith
rank_most (y ∷ l) x = go (ltb y x) (rank_most l x)
  where
    go : (b : Bool) → rank l x ≤ length l → (if b then suc (rank l x) else 0) ≤ suc (length l)
    go true h = omega arith
    go false h = omega arith

pub rank_up : (l : List ℕ) (x k : ℕ) → rising l ≡ true → k < length l → get_or l k 0 < x → k < rank l x
rank_up [] x k e h q = absurd (omega arith)
rank_up (y ∷ l) x zero e h q = rw (lt-ltb y x q) (omega arith)
rank_up (y ∷ l) x (suc k) e h q =
    let b = rising_above y l k e (le_of_suc-le-suc h) in
    let i = rank_up l x k (rising_tail y l e) (le_of_suc-le-suc h) q in
    rw (lt-ltb y x (omega arith)) (omega arith)

pub rank_down : (l : List ℕ) (x k : ℕ) → x ≤ get_or l k 0 → k < length l → rank l x ≤ k
rank_down [] x k q h = absurd (omega arith)
rank_down (y ∷ l) x zero q h = rw (le-ltb y x q) (omega arith)
rank_down (y ∷ l) x (suc k) q h = go (ltb y x) (rank_down l x k q (le_of_suc-le-suc h))
  where
    go : (b : Bool) → rank l x ≤ k → (if b then suc (rank l x) else 0) ≤ suc k
    go true h = omega arith
    go false h = omega arith

-- those below x are those at places below its rank
pub below_rank : (l : List ℕ) (x k : ℕ) → rising l ≡ true → k < length l → ltb (get_or l k 0) x ≡ ltb k (rank l x)
below_rank l x k e h = go (less? (get_or l k 0) x)
  where
    go : (get_or l k 0 < x) ⊎ (x ≤ get_or l k 0) → ltb (get_or l k 0) x ≡ ltb k (rank l x)
    go (inl q) = rw (lt-ltb (get_or l k 0) x q, lt-ltb k (rank l x) (rank_up l x k e h q))
    go (inr q) = rw (le-ltb (get_or l k 0) x q, le-ltb k (rank l x) (rank_down l x k q h))

-- and those above q at places from the rank of the number after it on
pub above_rank : (l : List ℕ) (q k : ℕ) → rising l ≡ true → k < length l → ltb q (get_or l k 0) ≡ leb (rank l (suc q)) k
above_rank l q k e h = go (less? q (get_or l k 0))
  where
    go : (q < get_or l k 0) ⊎ (get_or l k 0 ≤ q) → ltb q (get_or l k 0) ≡ leb (rank l (suc q)) k
    go (inl u) = rw (lt-ltb q (get_or l k 0) u, le-leb (rank l (suc q)) k (rank_down l (suc q) k u h))
    go (inr u) = rw (le-ltb q (get_or l k 0) u, lt-leb (rank l (suc q)) k (rank_up l (suc q) k e h (omega arith)))

-- the rank of an identifier that stands at place k
pub rank_here : (l : List ℕ) (k : ℕ) → rising l ≡ true → k < length l → k ≡ rank l (get_or l k 0)
rank_here [] k e h = absurd (omega arith)
rank_here (y ∷ l) zero e h = rw (le-ltb y y (omega arith))
rank_here (y ∷ l) (suc k) e h = rw (lt-ltb y (get_or l k 0) (rising_above y l k e (le_of_suc-le-suc h))) (ap suc (rank_here l k (rising_tail y l e) (le_of_suc-le-suc h)))

-- the rank of the number after an identifier: one more where it stands, else the same
none_under : (y : ℕ) (l : List ℕ) → rising_from y l ≡ true → 0 ≡ rank l (suc y)
none_under y [] e = refl
none_under y (z ∷ l) e = rw (le-ltb z (suc y) (ltb-true y z (both (ltb y z) (rising_from z l) e).0))

pub rank_past : (l : List ℕ) (k : ℕ) → rising l ≡ true → k < length l → suc k ≡ rank l (suc (get_or l k 0))
rank_past [] k e h = absurd (omega arith)
rank_past (y ∷ l) zero e h = rw (lt-ltb y (suc y) (omega arith)) (ap suc (none_under y l e))
rank_past (y ∷ l) (suc k) e h =
    let b = rising_above y l k e (le_of_suc-le-suc h) in
    rw (lt-ltb y (suc (get_or l k 0)) (omega arith)) (ap suc (rank_past l k (rising_tail y l e) (le_of_suc-le-suc h)))

pub rank_missing : (l : List ℕ) (x : ℕ) → (rank l x < length l → get_or l (rank l x) 0 ≡ x → ⊥) → rank l x ≡ rank l (suc x)
rank_missing [] x h = refl
rank_missing (y ∷ l) x h = go (ltb y x) refl h (rank_missing l x)
  where
    go : (b : Bool) → ltb y x ≡ b → ((if b then suc (rank l x) else 0) < suc (length l) → get_or (y ∷ l) (if b then suc (rank l x) else 0) 0 ≡ x → ⊥)
        → ((rank l x < length l → get_or l (rank l x) 0 ≡ x → ⊥) → rank l x ≡ rank l (suc x))
        → (if b then suc (rank l x) else 0) ≡ (if ltb y (suc x) then suc (rank l (suc x)) else 0)
    go true t n i =
        let b = ltb-true y x t in
        rw (lt-ltb y (suc x) (omega arith)) (ap suc (i (λ u v. n (omega arith) v)))
    go false t n i =
        let b = ltb-false y x t in
        let d : y ≡ x → ⊥ = λ v. n (omega arith) v in
        rw (le-ltb y (suc x) (omega arith))

-- an identifier is there if it is at its place
pub contains_rank : (l : List ℕ) (x : ℕ) → rising l ≡ true → contains l x ≡ (ltb (rank l x) (length l) && eqb (get_or l (rank l x) 0) x)
contains_rank [] x e = refl
contains_rank (y ∷ l) x e = go (ltb y x) refl (contains_rank l x (rising_tail y l e))
  where
    go : (b : Bool) → ltb y x ≡ b → contains l x ≡ (ltb (rank l x) (length l) && eqb (get_or l (rank l x) 0) x)
        → (eqb y x || contains l x) ≡ (ltb (if b then suc (rank l x) else 0) (suc (length l)) && eqb (get_or (y ∷ l) (if b then suc (rank l x) else 0) 0) x)
    go true t i = rw (below_eqb y x (ltb-true y x t), leb-suc-suc (suc (rank l x)) (length l)) i
    go false t i = rw (none_below x y l e (ltb-false y x t), lt-ltb 0 (suc (length l)) (omega arith), or-false)

-- Members at their place

-- the member x stands at k, and those before it are below x
pub data At (x : ℕ) : List Member → ℕ → Type 0 where
  at_first : {m : Member} {ms : List Member} → m.id ≡ x → At x (m ∷ ms) 0
  at_later : {m : Member} {ms : List Member} {k : ℕ} → m.id < x → At x ms k → At x (m ∷ ms) (suc k)

-- x is no member, those before k are below x, and the next is above
pub data Gap (x : ℕ) : List Member → ℕ → Type 0 where
  gap_last : Gap x [] 0
  gap_first : {m : Member} {ms : List Member} → x < m.id → Gap x (m ∷ ms) 0
  gap_later : {m : Member} {ms : List Member} {k : ℕ} → m.id < x → Gap x ms k → Gap x (m ∷ ms) (suc k)

pub live_at : (ms : List Member) (x : ℕ) → rising (ids ms) ≡ true → live ms x ≡ true → At x ms (rank (ids ms) x)
live_at [] x e l = absurd (false≢true l)
live_at (m ∷ ms) x e l = go (ltb m.id x) refl (eqb m.id x) refl l (λ q. live_at ms x (rising_tail m.id (ids ms) e) q)
  where
    go : (b : Bool) → ltb m.id x ≡ b → (c : Bool) → eqb m.id x ≡ c → (c || live ms x) ≡ true → (live ms x ≡ true → At x ms (rank (ids ms) x))
        → At x (m ∷ ms) (if b then suc (rank (ids ms) x) else 0)
    go true t true u l i = absurd (omega (arith, ltb-true m.id x t, eqb-true m.id x u))
    go true t false u l i = at_later (ltb-true m.id x t) (i l)
    go false t true u l i = at_first (eqb-true m.id x u)
    go false t false u l i = absurd (false≢true (sym (none_below x m.id (ids ms) e (ltb-false m.id x t)) ∙ l))

pub gap_at : (ms : List Member) (x : ℕ) → live ms x ≡ false → Gap x ms (rank (ids ms) x)
gap_at [] x l = gap_last
gap_at (m ∷ ms) x l = go (ltb m.id x) refl (eqb m.id x) refl l (λ q. gap_at ms x q)
  where
    go : (b : Bool) → ltb m.id x ≡ b → (c : Bool) → eqb m.id x ≡ c → (c || live ms x) ≡ false → (live ms x ≡ false → Gap x ms (rank (ids ms) x))
        → Gap x (m ∷ ms) (if b then suc (rank (ids ms) x) else 0)
    go b t true u l i = absurd (false≢true (sym l))
    go true t false u l i = gap_later (ltb-true m.id x t) (i l)
    go false t false u l i =
        let h = ltb-false m.id x t in
        let n = eqb-false m.id x u in
        gap_first {m = m} (omega arith)

pub at_within : {x k : ℕ} {ms : List Member} → At x ms k → k < length ms
at_within (at_first e) = omega arith
at_within (at_later h a) = let i = at_within a in omega arith

pub at_id : {x k : ℕ} {ms : List Member} → At x ms k → get_or (ids ms) k 0 ≡ x
at_id (at_first e) = e
at_id (at_later h a) = at_id a

pub at_live : {x k : ℕ} {ms : List Member} → At x ms k → live ms x ≡ true
at_live (at_first e) = rw (eq-eqb _ _ e)
at_live (at_later h a) = rw (below_eqb _ _ h) (at_live a)

pub named_at : {x k : ℕ} {ms : List Member} → At x ms k → named ms x ≡ get_or ms k nobody
named_at (at_first e) = rw (eq-eqb _ _ e)
named_at (at_later h a) = rw (below_eqb _ _ h) (named_at a)

pub replaced_at : {k : ℕ} {ms : List Member} (v : Member) → At v.id ms k → replaced v ms ≡ take k ms ++ (v ∷ drop (suc k) ms)
replaced_at v a = go a
  where
    go : {k : ℕ} {ms : List Member} → At v.id ms k → replaced v ms ≡ take k ms ++ (v ∷ drop (suc k) ms)
    go (at_first e) = rw (eq-eqb _ _ e)
    go (at_later {m = m} h a) = rw (below_eqb _ _ h) (ap (λ (l : List Member). m ∷ l) (go a))

-- the member that stands there put in its own place
pub replaced_same : {x k : ℕ} {ms : List Member} → At x ms k → replaced (get_or ms k nobody) ms ≡ ms
replaced_same (at_first {m = m} e) = rw (eq-eqb m.id m.id refl)
replaced_same (at_later {m = m} {ms = ms} {k = k} h a) = rw (below_eqb m.id (get_or ms k nobody).id (omega (arith, h, at_id a, id_of ms k))) (ap (λ (l : List Member). m ∷ l) (replaced_same a))

pub without_at : {x k : ℕ} {ms : List Member} → rising (ids ms) ≡ true → At x ms k → staying (is_named x) ms ≡ take k ms ++ drop (suc k) ms
without_at r (at_first {m = m} {ms = ms} e) = rw (eq-eqb _ _ e) (without_none _ ms (λ i. true≢false (sym (in_live ms i) ∙ none_below _ m.id (ids ms) r (omega (arith, e)))))
without_at r (at_later {m = m} {ms = ms} h a) = rw (below_eqb _ _ h) (ap (λ (l : List Member). m ∷ l) (without_at (rising_tail m.id (ids ms) r) a))

pub inserted_at : {k : ℕ} {ms : List Member} (v : Member) → Gap v.id ms k → inserted v ms ≡ take k ms ++ (v ∷ drop k ms)
inserted_at v g = go g
  where
    go : {k : ℕ} {ms : List Member} → Gap v.id ms k → inserted v ms ≡ take k ms ++ (v ∷ drop k ms)
    go gap_last = refl
    go (gap_first h) = rw (lt-ltb _ _ h)
    go (gap_later {m = m} h a) = rw (le-ltb v.id m.id (omega arith)) (ap (λ (l : List Member). m ∷ l) (go a))

-- each of rising identifiers stands at its place
at_place : (ms : List Member) (k : ℕ) → rising (ids ms) ≡ true → k < length (ids ms) → At (get_or (ids ms) k 0) ms k
at_place [] k e h = absurd (omega arith)
at_place (m ∷ ms) zero e h = at_first refl
at_place (m ∷ ms) (suc k) e h = at_later (rising_above m.id (ids ms) k e (le_of_suc-le-suc h)) (at_place ms k (rising_tail m.id (ids ms) e) (le_of_suc-le-suc h))

-- In a whole table

pub within_count : (ws : List ℕ) {x k : ℕ} → At x (members_in ws) k → k < get_or ws 1 0
within_count ws a = omega (arith, at_within a, members_length (get_or ws 0 0) (get_or ws 1 0) (drop header_size ws))

-- its first words are its table's header
pub own_header : (ws : List ℕ) → FormedWords ws → OwnHeader ws
own_header ws f = (well_formed_facts ws f.right).own_header

-- the table's own words written over it
pub same_words : (ws : List ℕ) → FormedWords ws → ws ≡ written (table_of ws) ws
same_words ws f = sym (written_same ws (own_header ws f) (rw (size_words ws) f.fits))

-- at each place a member stands
pub own_place : (ws : List ℕ) (k : ℕ) → k < get_or ws 1 0 → Stands ws k (get_or (ids (members_in ws)) k 0)
own_place ws k h = record { within = h; has_id = refl }

-- x stands at place k
module _ {ws : List ℕ} {k x : ℕ} (f : FormedWords ws) (s : Stands ws k x) where
  pub stands_at : At x (members_in ws) k
  stands_at = rw (← s.has_id) (at_place (members_in ws) k f.rises (omega (arith, ids_count ws, s.within)))

  pub stands_live : live (members_in ws) x ≡ true
  stands_live = at_live stands_at

  pub stands_named : get_or (members_in ws) k nobody ≡ named (members_in ws) x
  stands_named = sym (named_at stands_at)

-- the test that x stands at place k
module _ (ws : List ℕ) (k x : ℕ) where
  abbrev pub stands : Bool
  stands = ltb k (get_or ws 1 0) && eqb (get_or (ids (members_in ws)) k 0) x

  pub stands_there : stands ≡ true → (k < get_or ws 1 0) × (get_or (ids (members_in ws)) k 0 ≡ x)
  stands_there e = let w = both (ltb k (get_or ws 1 0)) (eqb (get_or (ids (members_in ws)) k 0) x) e in (ltb-true k (get_or ws 1 0) w.0, eqb-true (get_or (ids (members_in ws)) k 0) x w.1)

  pub stands_rank : FormedWords ws → stands ≡ true → (k ≡ rank (ids (members_in ws)) x) × (k ≤ get_or ws 1 0)
  stands_rank f e = let w = stands_there e in (rw (← w.1) (rank_here (ids (members_in ws)) k f.rises (omega (arith, ids_count ws))), omega arith)

  -- a member stands at its rank
  pub stands_member : FormedWords ws → k ≡ rank (ids (members_in ws)) x → stands ≡ live (members_in ws) x
  stands_member f e = sym (contains_rank (ids (members_in ws)) x f.rises ∙ rw (ids_count ws, ← e))

-- a search for x
abbrev place_of : Result ℕ ℕ → ℕ
place_of (Ok k) = k
place_of (Err k) = k

abbrev is_here : Result ℕ ℕ → Bool
is_here (Ok k) = true
is_here (Err k) = false

said : (b : Bool) (j : ℕ) (s : Result ℕ ℕ) → s ≡ (if b then Ok j else Err j) → (is_here s ≡ b) × (place_of s ≡ j)
said true j s e = rw e (refl, refl)
said false j s e = rw e (refl, refl)

module _ (ws : List ℕ) (x k : ℕ) where
  -- x is no member and k its rank, or x is a member and k its rank, where it stands
  pub missing : Err k ≡ located ws x → (live (members_in ws) x ≡ false) × (k ≡ rank (ids (members_in ws)) x)
  missing e = let w = said (live (members_in ws) x) (rank (ids (members_in ws)) x) (Err k) e in (sym w.0, w.1)

  pub present : Ok k ≡ located ws x → (live (members_in ws) x ≡ true) × (k ≡ rank (ids (members_in ws)) x)
  present e = let w = said (live (members_in ws) x) (rank (ids (members_in ws)) x) (Ok k) e in (sym w.0, w.1)

  pub rank_stands : FormedWords ws → live (members_in ws) x ≡ true → k ≡ rank (ids (members_in ws)) x → Stands ws k x
  rank_stands f l e = let a : At x (members_in ws) k = rw e (live_at (members_in ws) x f.rises l) in record { within = within_count ws a; has_id = at_id a }

  pub here : FormedWords ws → Ok k ≡ located ws x → Stands ws k x
  here f e = let w = present e in rank_stands f w.0 w.1

-- is what is looked for a member?
module _ (ws : List ℕ) (x : ℕ) where
  pub located_live : is_ok (located ws x) ≡ live (members_in ws) x
  located_live = go (live (members_in ws) x) (rank (ids (members_in ws)) x)
    where
      go : (b : Bool) (k : ℕ) → is_ok {T = ℕ} {E = ℕ} (if b then Ok k else Err k) ≡ b
      go true k = refl
      go false k = refl

  pub located_dead : is_err (located ws x) ≡ not (live (members_in ws) x)
  located_dead = go (live (members_in ws) x) (rank (ids (members_in ws)) x)
    where
      go : (b : Bool) (k : ℕ) → is_err {T = ℕ} {E = ℕ} (if b then Ok k else Err k) ≡ not b
      go true k = refl
      go false k = refl
