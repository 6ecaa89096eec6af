-- Pairs, lists and tables: what each iteration of the loops leaves to mark. Assumes nothing.
use Prim.Native.Nat.{ℕ, suc, ◌+◌, ◌≤◌, ◌<◌}
use mathlib.Core.Path.{◌≡◌, sym, ◌∙◌}
use mathlib.Core.List.{List, []}
use mathlib.Core.Bool.{true, false, ◌&&◌, ◌||◌, or-false, or_assoc, and-true, false≢true}
use native.Mathlib.Numerals.{add-one}
use native.Mathlib.Omega.{arith}
use borrow.Author.Tests.{lt-ltb, le-ltb, le-leb, eq-eqb}
use lib.Dec.{ltb, leb, eqb}
use lib.ListN.{length, get_or, take, drop, replicate, drop_of_length-le}
use lib.Seq.{drop-cons}
use Rattle.model.specs.Lists.{any, count}
use Rattle.model.specs.Identifier.{between}
use Rattle.model.specs.Table.{Member, header_size, members_in, ids}
use Rattle.model.specs.Ring.{nobody, skips, principal, principals}
use Rattle.laws.specs.Lists.{true_and}
use Rattle.laws.specs.Words.{members_length}
use Rattle.laws.specs.Pairs.{skips_it, no_list}
use Rattle.table.specs.FormedWords.{FormedWords}
use Rattle.table.specs.Rank.{rank}
use Rattle.table.proofs.Members.{id_of, ids_count}
use Rattle.table.proofs.Place.{below_rank, above_rank, rank_past, rank_missing, stands, stands_there}
use Rattle.places.specs.Each.{Each}
use Rattle.places.proofs.Arrays.{each_counted, bit_one}
use Rattle.principal.specs.Marks.{covered, Marks, Skipped, principal_bit}
use Rattle.principal.proofs.Reaches.{none_covered}

-- a list that is over skips nothing more
pub list_over : (a : List ℕ) (x q : ℕ) (p : List ℕ) (i j : ℕ) → length p ≤ i → (covered a j || skips x q (drop i p)) ≡ covered a j
list_over a x q p i j h = rw (drop_of_length-le p {i = i} h) (or-false (covered a j))

module _ (ws : List ℕ) where
  abbrev ms : List Member
  ms = members_in ws

  abbrev n : ℕ
  n = get_or ws 1 0

  abbrev id_at : ℕ → ℕ
  id_at j = get_or (ids ms) j 0

  -- `rank_past`: whether b stands at place k
  module _ (f : FormedWords ws) (k b : ℕ) where
    pub here_past : stands ws k b ≡ true → k + 1 ≡ rank (ids ms) (suc b)
    here_past e = let w = stands_there ws k b e in rw (← w.1, add-one k) (rank_past (ids ms) k f.rises (omega (arith, ids_count ws)))

    pub else_past : k ≡ rank (ids ms) b → stands ws k b ≡ false → k ≡ rank (ids ms) (suc b)
    else_past q e =
        let no : k < n → id_at k ≡ b → ⊥ = λ u v. false≢true (sym e ∙ true_and (lt-ltb k n u) (eq-eqb (id_at k) b v)) in
        q ∙ rank_missing (ids ms) b (λ u v. no (omega (arith, ids_count ws)) (rw q v))

  -- `mark_pair`: the ranges of places are the identifiers between
  module _ (f : FormedWords ws) (q lo b hi : ℕ) (el : lo ≡ rank (ids ms) (suc q)) (eh : hi ≡ rank (ids ms) b) where
    above : (j : ℕ) → j < n → ltb q (id_at j) ≡ leb lo j
    above j l = rw el (above_rank (ids ms) q j f.rises (omega (arith, ids_count ws)))

    below : (j : ℕ) → j < n → ltb (id_at j) b ≡ ltb j hi
    below j l = rw eh (below_rank (ids ms) b j f.rises (omega (arith, ids_count ws)))

    module _ (a c : List ℕ) where
      pub pair_up : q < b → Marks 256 (λ j. leb lo j && ltb j hi) a c → Marks n (λ j. between q (id_at j) b) a c
      unfolding between
      pair_up h m = record { size = m.size; at = λ j l. m.at j (omega (arith, f.few)) ∙ rw (lt-ltb q b h, above j l, below j l) }

      pub pair_round : (d : List ℕ) → b ≤ q → Marks 256 (λ j. leb lo j && ltb j n) a c → Marks 256 (λ j. leb 0 j && ltb j hi) c d → Marks n (λ j. between q (id_at j) b) a d
      unfolding between
      pair_round d h u v = record {
        size = v.size ∙ u.size;
        at =
            λ j l. v.at j (omega (arith, f.few)) ∙ rw (
              u.at j (omega (arith, f.few)),
              le-leb 0 j (omega arith),
              lt-ltb j n l,
              and-true (leb lo j),
              le-ltb q b h,
              above j l,
              below j l,
            ) (or_assoc (covered a j) (leb lo j) (ltb j hi));
      }

  -- `mark_list`: what is marked and what the list p after q skips is what was marked at first and what the list of member k skips
  abbrev pub Rest : List ℕ → ℕ → List ℕ → ℕ → List ℕ → Type 0
  Rest a₀ k a q p = (j : ℕ) → j < n → (covered a j || skips (id_at j) q p) ≡ (covered a₀ j || skips (id_at j) (id_at k) (get_or ms k nobody).successors)

  -- one pair more
  module _ (a c : List ℕ) where
    pub pair_marked : (q : ℕ) (p : List ℕ) (i : ℕ) → i < length p → Marks n (λ j. between q (id_at j) (get_or p i 0)) a c → (j : ℕ) → j < n
        → (covered c j || skips (id_at j) (get_or p i 0) (drop (i + 1) p)) ≡ (covered a j || skips (id_at j) q (drop i p))
    pair_marked q p i h m j l =
        rw (add-one i, drop-cons p i 0 h, m.at j l) (or_assoc (covered a j) (between q (id_at j) (get_or p i 0)) (skips (id_at j) (get_or p i 0) (drop (suc i) p)))

    -- `mark_skipped`: one list more
    pub list_marked : (k : ℕ) → k < n → Marks n (λ j. skips (id_at j) (id_at k) (get_or ms k nobody).successors) a c → (j : ℕ) → j < n
        → (covered c j || any (skips_it (id_at j)) (drop (k + 1) ms)) ≡ (covered a j || any (skips_it (id_at j)) (drop k ms))
    list_marked k h m j l =
        let i : k < length ms = omega (arith, members_length (get_or ws 0 0) n (drop header_size ws)) in
        rw (add-one k, drop-cons ms k nobody i, m.at j l, id_of ms k) (or_assoc (covered a j) (skips_it (id_at j) (get_or ms k nobody)) (any (skips_it (id_at j)) (drop (suc k) ms)))

  -- `mark_skipped`: what is marked and what the lists from k on skip is all that is skipped
  abbrev pub Left : List ℕ → ℕ → Type 0
  Left a k = (j : ℕ) → j < n → (covered a j || any (skips_it (id_at j)) (drop k ms)) ≡ any (skips_it (id_at j)) ms

  pub all_left : Left (replicate 256 0) 0
  all_left j l = rw (none_covered 256 (suc j) j)

  pub none_left : (a : List ℕ) (k : ℕ) → n ≤ k → Left a k → Skipped ws a
  none_left a k h e =
      let z : drop k ms ≡ [] = drop_of_length-le ms {i = k} (omega (arith, members_length (get_or ws 0 0) n (drop header_size ws))) in
      let w : (j : ℕ) → j < n → any (skips_it (id_at j)) ms ≡ covered a j = λ j l. sym (e j l) ∙ rw z (or-false (covered a j)) in
      record { at = λ j l. no_list (id_at j) ms ∙ rw (w j l) }

  -- the principals are counted by their numbers
  pub counted_principals : (a : List ℕ) → Each ms (principal_bit ms) n a → count (eqb 1) (take n a) ≡ principals ms
  counted_principals a e = each_counted ms (principal_bit ms) (eqb 1) (principal ms) n a (ids_count ws) e (λ x l. bit_one (principal ms x))
