-- The next members up and down by place in the words of a table; a list compared with the next up entry by entry; one member, and all of them. Assumes nothing.
use Prim.Native.Nat.{ℕ, zero, suc, ◌+◌, ◌*◌, ◌-◌, ◌≤◌, ◌<◌}
use mathlib.Core.Path.{◌≡◌, refl, sym, ap, ◌∙◌}
use mathlib.Core.Bool.{Bool, true, false, ◌&&◌, and-true, and-false}
use mathlib.Core.List.{List, [], ◌∷◌}
use native.Mathlib.Nat.{add-mul}
use native.Mathlib.Omega.{arith}
use lib.Dec.{eqb}
use lib.ListN.{length, get_or, take, drop, length-drop}
use lib.Seq.{drop-drop, take-append-le, get_or-drop}
use borrow.Author.Tests.{eq-eqb, ne_eqb}
use Rattle.std.specs.Bool.{MatchBool}
use Rattle.std.specs.List.{AllWithin, HoldsAt, range_with_len}
use Rattle.std.proofs.lemmas.List.FromFn.{length-range_with_len, get_or-range_with_len}
use Rattle.model.specs.Lists.{every, same}
use Rattle.model.specs.Table.{Member, header_size, record_size, table_of, members_of, members_in, ids}
use Rattle.model.specs.Ring.{nobody, next_up, next_down, next_ups, ideal_member, ideal}
use Rattle.laws.specs.Lists.{rising_true, ids_take, ids_drop}
use Rattle.laws.specs.Places.{next_ups_place, above_inside, above_round, below_inside, below_round}
use Rattle.laws.specs.Words.{members_length}
use Rattle.table.specs.FormedWords.{FormedWords}
use Rattle.table.proofs.Members.{span, members_take, members_drop, id_of, ids_count, whole}

-- The neighbours of the member at place k

module _ (ws : List ℕ) (f : FormedWords ws) (k : ℕ) (h : k < get_or ws 1 0) where
  within : k < length (ids (members_in ws))
  within = omega (arith, ids_count ws)

  pub up_next : k + 1 < get_or ws 1 0 → get_or (ids (members_in ws)) (k + 1) 0 ≡ next_up (ids (members_in ws)) (get_or (ids (members_in ws)) k 0)
  up_next l = above_inside (ids (members_in ws)) f.rises k within (omega (arith, ids_count ws))

  pub up_round : get_or ws 1 0 ≤ k + 1 → get_or (ids (members_in ws)) 0 0 ≡ next_up (ids (members_in ws)) (get_or (ids (members_in ws)) k 0)
  up_round l = above_round (ids (members_in ws)) f.rises k within (omega (arith, ids_count ws))

  pub down_next : 1 ≤ k → get_or (ids (members_in ws)) (k - 1) 0 ≡ next_down (ids (members_in ws)) (get_or (ids (members_in ws)) k 0)
  down_next l = below_inside (ids (members_in ws)) f.rises k within l

  pub down_round : k < 1 → get_or (ids (members_in ws)) (get_or ws 1 0 - 1) 0 ≡ next_down (ids (members_in ws)) (get_or (ids (members_in ws)) k 0)
  down_round l = ap (λ (n : ℕ). get_or (ids (members_in ws)) (n - 1) 0) (sym (ids_count ws)) ∙ below_round (ids (members_in ws)) f.rises k within l

-- The members above place k, where there are as many as a list has entries

module _ (ws : List ℕ) (f : FormedWords ws) (k at n : ℕ) (few : k + 1 + n ≤ get_or ws 1 0) (e : at ≡ header_size + (k + 1) * record_size (get_or ws 0 0)) where
  pub ahead : ids (members_of (get_or ws 0 0) n (drop at ws)) ≡ next_ups n (ids (members_in ws)) (get_or (ids (members_in ws)) k 0)
  ahead =
      let r : ℕ = get_or ws 0 0 in
      let c : ℕ = get_or ws 1 0 in
      let s : k + 1 ≡ suc k = omega arith in
      let l = ids_count ws in
      rw (
        e,
        ← drop-drop ((k + 1) * record_size r) header_size ws,
        ← members_take r n (c - (k + 1)) (drop ((k + 1) * record_size r) (drop header_size ws)) (omega arith),
        ← members_drop r (k + 1) c (drop header_size ws) (omega arith),
      )
      (ids_take n _ ∙ ap (take n) (ids_drop (k + 1) _) ∙ rw (
        s,
        next_ups_place (ids (members_in ws)) (rising_true (ids (members_in ws)) f.rises) n k (omega arith) (omega arith),
        take-append-le n (drop (suc k) (ids (members_in ws))) (ids (members_in ws)) (simp length-drop (omega arith)),
      ))

  pub ahead_starts : at ≤ length ws
  ahead_starts = let b = span (k + 1) (get_or ws 1 0) (record_size (get_or ws 0 0)) (omega arith) in omega (arith, f.fits)

  pub ahead_fits : n * record_size (get_or ws 0 0) ≤ length (drop at ws)
  ahead_fits = let b = span (k + 1 + n) (get_or ws 1 0) (record_size (get_or ws 0 0)) few in let d = add-mul (k + 1) n (record_size (get_or ws 0 0)) in simp length-drop (omega (arith, f.fits))

-- The member at place k, whose record starts at at

module _ (ws : List ℕ) (k at : ℕ) (h : k < get_or ws 1 0) (e : at ≡ header_size + k * record_size (get_or ws 0 0)) (d : ℕ)
    (down : d ≡ next_down (ids (members_in ws)) (get_or (ids (members_in ws)) k 0)) where
  abbrev xs : List ℕ
  xs = ids (members_in ws)

  predecessor_word : get_or ws (at + 1) 0 ≡ (get_or (members_in ws) k nobody).predecessor
  predecessor_word = sym (get_or-drop at ws 1 0) ∙ ap (λ (m : Member). m.predecessor) (whole ws k at h e)

  by_words : ideal_member (get_or ws 0 0) xs (get_or (members_in ws) k nobody) ≡ (same (get_or (members_in ws) k nobody).successors (next_ups (get_or ws 0 0) xs (get_or xs k 0)) && eqb (get_or ws (at + 1) 0) d)
  unfolding ideal_member
  by_words = rw (predecessor_word, down, id_of (members_in ws) k)

  pub wrong_below : (get_or ws (at + 1) 0 ≡ d → ⊥) → false ≡ ideal_member (get_or ws 0 0) xs (get_or (members_in ws) k nobody)
  wrong_below n = rw (by_words, ne_eqb _ _ n, and-false)

  -- its list l as the part of the table
  pub by_list : (l : List ℕ) (b : Bool) → get_or ws (at + 1) 0 ≡ d → l ≡ (get_or (members_in ws) k nobody).successors → length l ≡ get_or ws 0 0
      → b ≡ same l (next_ups (length l) xs (get_or xs k 0)) → b ≡ ideal_member (get_or ws 0 0) xs (get_or (members_in ws) k nobody)
  by_list l b p q n t = t ∙ rw (by_words, eq-eqb _ _ p, and-true, n, q)

-- All members, by place

every_at : (f : Member → Bool) (l : List Member) → ((k : ℕ) → k < length l → f (get_or l k nobody) ≡ true) → every f l ≡ true
every_at f [] e = refl
every_at f (m ∷ l) e = rw (e 0 (omega arith)) (every_at f l (λ k h. e (suc k) (omega arith)))

one_fails : (f : Member → Bool) (l : List Member) (k : ℕ) → k < length l → f (get_or l k nobody) ≡ false → every f l ≡ false
one_fails f [] k h e = absurd (omega arith)
one_fails f (m ∷ l) zero h e = rw e
one_fails f (m ∷ l) (suc k) h e = rw (one_fails f l k (omega arith) e) (and-false (f m))

module _ (ws : List ℕ) where
  abbrev right : ℕ → Bool
  right k = ideal_member (get_or ws 0 0) (ids (members_in ws)) (get_or (members_in ws) k nobody)

  -- the places
  abbrev places : List ℕ
  places = range_with_len 0 (get_or ws 1 0)

  -- what is told of each place's member, or of one that is not ideal, is told of the table
  pub told : (b : Bool) → MatchBool b (AllWithin (λ k. k < get_or ws 1 0 → right k ≡ true) places 0 (length places)) ((k : ℕ) × (k < length places) × HoldsAt (λ k. k < get_or ws 1 0 → right k ≡ false) places k) → b ≡ ideal (table_of ws)
  unfolding ideal
  told b = go b
    where
      many : length (members_in ws) ≡ get_or ws 1 0
      many = members_length (get_or ws 0 0) (get_or ws 1 0) (drop header_size ws)

      at : (k : ℕ) → k < get_or ws 1 0 → get_or places k 0 ≡ k
      at k h = omega (arith, get_or-range_with_len 0 (get_or ws 1 0) k 0 h)

      go : (b : Bool) → MatchBool b (AllWithin (λ k. k < get_or ws 1 0 → right k ≡ true) places 0 (length places)) ((k : ℕ) × (k < length places) × HoldsAt (λ k. k < get_or ws 1 0 → right k ≡ false) places k) → b ≡ ideal (table_of ws)
      go true w = sym (every_at (ideal_member (get_or ws 0 0) (ids (members_in ws))) (members_in ws) (λ k h.
          let l : k < get_or ws 1 0 = omega (arith, many) in
          let e = rw (at k l) at (w k 0 (omega arith) (omega (arith, length-range_with_len 0 (get_or ws 1 0)))) in
          e l))
      go false w =
          let l : w.0 < get_or ws 1 0 = omega (arith, w.1, length-range_with_len 0 (get_or ws 1 0)) in
          let e = rw (at w.0 l) at (w.2 0) in
          sym (one_fails (ideal_member (get_or ws 0 0) (ids (members_in ws))) (members_in ws) w.0 (omega (arith, many)) (e l))
