-- The theorems of which Held in specs/ has the definitions, with their proofs.
use Rattle.std.specs.Prelude.{◌≡◌, refl, ◌⊎◌, true, false, ◌&&◌, List, [], ◌∷◌, ℕ, ◌+◌, ◌≤◌, ◌<◌, ltb, eqb, get_or}
use Rattle.std.proofs.Common.{sym, ap, ◌∙◌, inl, inr, arith}
use Rattle.std.proofs.Math.Logic.{⊎_elim}
use Rattle.std.proofs.Math.Bool.{and-true as and_one}
use Rattle.std.proofs.Math.Option.{some}
use Rattle.std.proofs.Math.Dec.{leb, leb-zero}
use Rattle.std.proofs.Math.ListN.{length}
use borrow.Author.Tests.{lt-ltb, le-ltb, le-leb, lt-leb, eq-eqb, ne_eqb, leb-true}
use Rattle.model.specs.Lists.{bit, rising}
use Rattle.model.specs.Table.{Member, Table, table_of, members_in, ids, well_formed}
use Rattle.model.specs.Ring.{live, successor, Search, searched, best_successor, next_up, next_down, ideal}
use Rattle.model.specs.Held.{first_from, lowest, holder, keys_to, Run, ◌up_to◌, runs_of}
use Rattle.model.specs.Calls.{lookup_answer}
use Rattle.laws.specs.Order.{Comparison, less, equals, greater, compare, less?, equal?, Inside, mid, high, low, Outside, below, beyond, rest, inside_true, true_inside, inside_outside}
use Rattle.laws.specs.Lists.{In, here, there, in_cons, in_nil, count_le, count_length, Rising, rising_true, above_in, above_rising, length_ids, found, in_ids, live_in, in_live}
use Rattle.laws.specs.Searches.{found_first}
use Rattle.laws.specs.Extended.{head_in}
use Rattle.laws.specs.Places.{first_least, next_ups_first}
use Rattle.laws.specs.Keys.{key_below, key_above}
use Rattle.laws.specs.Accepted.{member_accepts}
use Rattle.laws.specs.Tables.{Formed, well_formed_facts, ideal_facts}
use Rattle.theory.specs.New.{up_in, down_in, up_spares, down_spares}
use Rattle.theory.specs.Lookup.{Answered}
use Rattle.theory.proofs.Lookup.{lookup_answer_answers}
use Rattle.theory.specs.KeyOwners.{Finds, Owns}
use Rattle.theory.specs.Held.{runs_at, Parted, FindsHolder}

in_some : {y : ℕ} {l : List ℕ} → In y l → 1 ≤ length l
in_some (here e) = omega arith
in_some (there m) = omega arith

-- The first at or above a key

first_from_law : (k z d : ℕ) (xs : List ℕ) → Rising xs → In z xs → k ≤ z → ((u : ℕ) → In u xs → u < z → u < k) → first_from k xs d ≡ z
first_from_law k z d [] a i h lower = absurd (in_nil i)
first_from_law k z d (y ∷ l) a i h lower = go (less? y k) (in_cons i) (λ j. first_from_law k z d l (above_rising y l a) j h (λ u g. lower u (there g)))
  where
    go : (y < k) ⊎ (k ≤ y) → (z ≡ y) ⊎ In z l → (In z l → first_from k l d ≡ z) → first_from k (y ∷ l) d ≡ z
    go (inl g) (inl e) ih = absurd (omega arith)
    go (inl g) (inr j) ih = rw (lt-leb k y g) (ih j)
    go (inr g) (inl e) ih = rw (le-leb k y g) (sym e)
    go (inr g) (inr j) ih = absurd (omega (arith, lower y (here refl) (above_in l a j)))

none_from : (k d : ℕ) (xs : List ℕ) → ((u : ℕ) → In u xs → u < k) → first_from k xs d ≡ d
none_from k d [] h = refl
none_from k d (y ∷ l) h = rw (lt-leb k y (h y (here refl))) (none_from k d l (λ u g. h u (there g)))

-- it is one of them, and all below it are below the key; or all are
abbrev First : ℕ → ℕ → List ℕ → Type 0
First k d xs = (In (first_from k xs d) xs × (k ≤ first_from k xs d) × ((u : ℕ) → In u xs → u < first_from k xs d → u < k)) ⊎ (((u : ℕ) → In u xs → u < k) × (first_from k xs d ≡ d))

from_first : (k d : ℕ) (xs : List ℕ) → Rising xs → First k d xs
from_first k d [] a = inr (λ u i. absurd (in_nil i), refl)
from_first k d (y ∷ l) a = go (less? y k) (from_first k d l (above_rising y l a))
  where
    go : (y < k) ⊎ (k ≤ y) → First k d l → First k d (y ∷ l)
    go (inr g) ih = rw (le-leb k y g) (inl (here refl, g, λ u i h. ⊎_elim (λ e. absurd (omega arith)) (λ j. absurd (omega (arith, above_in l a j))) (in_cons i)))
    go (inl g) (inl w) = rw (lt-leb k y g) (inl (there w.0, w.1, λ u i h. ⊎_elim (λ e. omega (arith, e)) (λ j. w.2 u j h) (in_cons i)))
    go (inl g) (inr w) = rw (lt-leb k y g) (inr (λ u i. ⊎_elim (λ e. omega (arith, e)) (λ j. w.0 u j) (in_cons i), w.1))

-- A member x of rising numbers and the one before it, d: x holds the keys on the way from d to x

owns_up_to : (d k x : ℕ) → k ≤ x → (k < x → Inside d k x) → Owns d k x
owns_up_to d k x h f = go (compare k x)
  where
    go : Comparison k x → Owns d k x
    go (less q) = inr (inside_true (f q))
    go (equals e) = inl e
    go (greater q) = absurd (omega arith)

not_owns : {d k x : ℕ} → Outside d k x → (k ≡ x → ⊥) → Owns d k x → ⊥
not_owns o n (inl e) = n e
not_owns {d} {k} {x} o n (inr t) = inside_outside (true_inside d k x t) o

module _ (xs : List ℕ) (a : Rising xs) (d x : ℕ) (i : In x xs) (spares : (z : ℕ) → In z xs → Outside d z x) where
  -- where d is below x, all others are at or below d or from x on; else all are from x to d, and x is the lowest
  apart : {z : ℕ} → Outside d z x → d < x → z < x → z ≤ d
  apart (below g h) l m = g
  apart (beyond g h) l m = absurd (omega arith)
  apart (rest g h) l m = absurd (omega arith)

  round : {z : ℕ} → Outside d z x → x ≤ d → (x ≤ z) × (z ≤ d)
  round (below g h) l = absurd (omega arith)
  round (beyond g h) l = absurd (omega arith)
  round (rest g h) l = (g, h)

  is_lowest : x ≤ d → get_or xs 0 0 ≡ x
  is_lowest l = omega (arith, first_least xs a i, (round (spares (get_or xs 0 0) (head_in xs (in_some i))) l).0)

  pub owner_holds : (k : ℕ) → Owns d k x → first_from k xs (get_or xs 0 0) ≡ x
  owner_holds k (inl e) = first_from_law k x (get_or xs 0 0) xs a i (omega (arith, e)) (λ u j h. omega (arith, e))
  owner_holds k (inr t) = go (true_inside d k x t)
    where
      go : Inside d k x → first_from k xs (get_or xs 0 0) ≡ x
      go (mid g h) = first_from_law k x (get_or xs 0 0) xs a i (omega arith) (λ u j m. omega (arith, apart (spares u j) (omega arith) m))
      go (high g h) = none_from k (get_or xs 0 0) xs (λ u j. omega (arith, (round (spares u j) g).1)) ∙ is_lowest g
      go (low g h) = first_from_law k x (get_or xs 0 0) xs a i (omega arith) (λ u j m. absurd (omega (arith, (round (spares u j) h).0)))

  pub holder_owns : (k : ℕ) → In d xs → first_from k xs (get_or xs 0 0) ≡ x → Owns d k x
  holder_owns k j e = go (from_first k (get_or xs 0 0) xs a) (less? d x)
    where
      go : First k (get_or xs 0 0) xs → (d < x) ⊎ (x ≤ d) → Owns d k x
      go (inl w) (inl l) = owns_up_to d k x (omega (arith, w.1)) (λ q. mid (w.2 d j (omega arith)) q)
      go (inl w) (inr l) = owns_up_to d k x (omega (arith, w.1)) (λ q. low q l)
      go (inr w) l = inr (inside_true (high (omega (arith, w.1, first_least xs a j)) (w.0 d j)))

-- The runs of one member

module _ (ms : List Member) (ks : List ℕ) (am : Rising (ids ms)) (ak : Rising ks) (x : ℕ) (i : In x (ids ms)) where
  abbrev d : ℕ
  d = next_down (ids ms) x

  before_in : In d (ids ms)
  before_in = down_in (ids ms) (in_some i) x

  spared : (z : ℕ) → In z (ids ms) → Outside d z x
  spared z j = down_spares (ids ms) am x z i j

  -- the lowest has the last before it, any other a lower one
  lowest_round : x ≡ lowest ms → x ≤ d
  lowest_round e = omega (arith, e, first_least (ids ms) am before_in)

  else_below : (x ≡ lowest ms → ⊥) → d < x
  else_below n = ⊎_elim (λ h. h) (λ h. absurd (n (sym (is_lowest (ids ms) am d x i spared h)))) (less? d x)

  owned : (k : ℕ) → Owns d k x → eqb x (holder ms k) ≡ true
  owned k o = eq-eqb x (holder ms k) (sym (owner_holds (ids ms) am d x i spared k o))

  other : (k : ℕ) → (Owns d k x → ⊥) → eqb x (holder ms k) ≡ false
  other k n = ne_eqb x (holder ms k) (λ e. n (holder_owns (ids ms) am d x i spared k before_in (sym e)))

  module _ (p : ℕ) (h : p < length ks) where
    abbrev key : ℕ
    key = get_or ks p 0

    at_lowest : x ≤ d → bit (ltb d key) + (bit (leb key x) + 0) ≡ bit (eqb x (holder ms key))
    at_lowest l = go (less? d key) (less? x key)
      where
        go : (d < key) ⊎ (key ≤ d) → (x < key) ⊎ (key ≤ x) → bit (ltb d key) + (bit (leb key x) + 0) ≡ bit (eqb x (holder ms key))
        go (inl u) v = rw (owned key (inr (inside_true (high l u))), lt-ltb d key u, lt-leb key x (omega arith))
        go (inr u) (inl v) = rw (other key (not_owns (rest (omega arith) u) (omega arith)), le-ltb d key u, lt-leb key x v)
        go (inr u) (inr v) = rw (owned key (owns_up_to d key x v (λ q. low q l)), le-ltb d key u, le-leb key x v)

    elsewhere : d < x → bit (ltb d key && leb key x) + 0 ≡ bit (eqb x (holder ms key))
    elsewhere l = go (less? d key) (less? x key)
      where
        go : (d < key) ⊎ (key ≤ d) → (x < key) ⊎ (key ≤ x) → bit (ltb d key && leb key x) + 0 ≡ bit (eqb x (holder ms key))
        go (inl u) (inl v) = rw (other key (not_owns (beyond l (omega arith)) (omega arith)), lt-ltb d key u, lt-leb key x v)
        go (inl u) (inr v) = rw (owned key (owns_up_to d key x v (λ q. mid u q)), lt-ltb d key u, le-leb key x v)
        go (inr u) v = rw (other key (not_owns (below u l) (omega arith)), le-ltb d key u)

    pub in_one_run : runs_at p (runs_of ms x ks) ≡ bit (eqb x (holder ms key))
    unfolding runs_of
    in_one_run =
        ⊎_elim
        (λ e. rw (eq-eqb x (lowest ms) e, key_above ks d p ak h, lt-ltb p (length ks) h, key_below ks x p ak h, and_one, leb-zero p) (at_lowest (lowest_round e)))
        (λ n. rw (ne_eqb x (lowest ms) n, key_above ks d p ak h, key_below ks x p ak h) (elsewhere (else_below n)))
        (equal? x (lowest ms))

  run_within : (u : Run) → In u (runs_of ms x ks) → (u.start ≤ u.end) × (u.end ≤ length ks)
  unfolding runs_of
  run_within u j = ⊎_elim (λ e. lowest_runs (rw (eq-eqb x (lowest ms) e) at j)) (λ n. other_run (else_below n) (rw (ne_eqb x (lowest ms) n) at j)) (equal? x (lowest ms))
    where
      most : (y : ℕ) → keys_to ks y ≤ length ks
      most y = count_length (λ k. leb k y) ks

      lowest_runs : In u ((keys_to ks d up_to length ks) ∷ (0 up_to keys_to ks x) ∷ []) → (u.start ≤ u.end) × (u.end ≤ length ks)
      lowest_runs (here e) = rw e (most d, omega arith)
      lowest_runs (there (here e)) = rw e (omega arith, most x)
      lowest_runs (there (there m)) = absurd (in_nil m)

      other_run : d < x → In u ((keys_to ks d up_to keys_to ks x) ∷ []) → (u.start ≤ u.end) × (u.end ≤ length ks)
      other_run l (here e) = rw e (count_le (λ k. leb k d) (λ k. leb k x) ks (λ k m t. le-leb k x (omega (arith, leb-true k d t))), most x)
      other_run l (there m) = absurd (in_nil m)

-- On a well-formed table with a member, the runs of rising keys part their positions

pub held_parts : (ws ks : List ℕ) → well_formed ws ≡ true → 1 ≤ length (members_in ws) → rising ks ≡ true → Parted (members_in ws) ks
held_parts ws ks wf one r =
    let ms : List Member = members_in ws in
    let am = (well_formed_facts ws wf).table.ids_rising in
    let ak = rising_true ks r in
    record {
      holder_live = λ k. in_live ms (⊎_elim (λ w. w.0) (λ w. rw w.1 (head_in (ids ms) (omega (arith, length_ids ms)))) (from_first k (lowest ms) (ids ms) am));
      in_one = λ p h x l. in_one_run ms ks am ak x (live_in ms x l) p h;
      within = λ x l. run_within ms ks am ak x (live_in ms x l);
    }

-- On an ideal table find gives the holder

ideal_successor : (T : Table) → 1 ≤ T.r → ideal T ≡ true → {m : Member} → In m T.members → successor m ≡ next_up (ids T.members) m.id
ideal_successor T some_entry h {m} i = ap (λ (l : List ℕ). get_or l 0 0) ((ideal_facts T h).each m i).list ∙ next_ups_first T.r (ids T.members) m.id some_entry

-- each member's search finds the next member up at once
pub ideal_found : (T : Table) → Formed T → ideal T ≡ true → {m : Member} → In m T.members
    → searched T.members m.successors ≡ record { entry = some (next_up (ids T.members) m.id); passed = 0 }
ideal_found T fo h {m} i =
    let ms : List Member = T.members in
    let s : successor m ≡ next_up (ids ms) m.id = ideal_successor T fo.r_low h i in
    let l : live ms (successor m) ≡ true = rw s (in_live ms (up_in (ids ms) (in_some (in_ids i)) m.id)) in
    found_first ms m.successors (omega (arith, (fo.each m i).list_length, fo.r_low)) l ∙ ap (λ (x : ℕ). record { entry = some x; passed = 0 }) s

ideal_best : (T : Table) → Formed T → ideal T ≡ true → {q : ℕ} → In q (ids T.members) → best_successor T.members q ≡ some (next_up (ids T.members) q)
ideal_best T fo h {q} i = let f = found T.members i in ap (λ (s : Search). s.entry) (ideal_found T fo h f.0) ∙ ap (λ (x : ℕ). some (next_up (ids T.members) x)) f.1

module _ (ws : List ℕ) (wf : well_formed ws ≡ true) (h : ideal (table_of ws) ≡ true) where
  fo : Formed (table_of ws)
  fo = (well_formed_facts ws wf).table

  moves_up : (q : ℕ) → live (members_in ws) q ≡ true → best_successor (members_in ws) q ≡ some (next_up (ids (members_in ws)) q)
  moves_up q l = ideal_best (table_of ws) fo h (live_in (members_in ws) q l)

  -- from every member, for every key
  from_member : (n k : ℕ) → live (members_in ws) n ≡ true → Finds ws n k (holder (members_in ws) k)
  from_member n k l = go (lookup_answer_answers ws n k (member_accepts ws n wf l))
    where
      go : Answered (members_in ws) n k (lookup_answer ws n k) → Finds ws n k (holder (members_in ws) k)
      go (inl o) =
          let up : next_up (ids (members_in ws)) o.q ≡ o.b = cc (moves_up o.q o.place_live, o.move) in
          let e = owner_holds (ids (members_in ws)) fo.ids_rising o.q o.b (live_in (members_in ws) o.b o.owner_live)
          (λ z j. rw up at (up_spares (ids (members_in ws)) fo.ids_rising o.q z j)) k o.owns in
          record { place = o.q; moves = o.moves; passed = o.passed; answer = rw e o.answer }
      go (inr c) = let z : ◌≡◌ {A = ℕ} 0 1 = cc (moves_up c.q c.place_live, c.no_move) in absurd (omega arith)

pub finds_holder : FindsHolder
finds_holder ws wf h n k l = from_member ws wf h n k l
