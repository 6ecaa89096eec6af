-- The test for well-formed tables: what its answer says, and that it may test less than document 01 asks. Assumes nothing.
use Prim.Native.Nat.{ℕ, zero, suc, ◌+◌, ◌*◌, ◌-◌, ◌≤◌, ◌<◌}
use mathlib.Core.Path.{◌≡◌, refl, sym, subst, ◌∙◌}
use mathlib.Core.List.{List, [], ◌∷◌}
use mathlib.Core.Bool.{true, ◌&&◌, and-true}
use mathlib.Core.Logic.{⊎_elim}
use native.Mathlib.Nat.{suc-mul}
use native.Mathlib.Numerals.{add-one}
use native.Mathlib.Omega.{arith}
use borrow.Author.Tests.{le-leb, lt-ltb, eq-eqb}
use lib.Dec.{ltb, leb-zero}
use lib.ListN.{length, get_or, take, drop, length-drop}
use lib.Seq.{get_or-drop}
use Rattle.laws.specs.Lists.{and_pairs, In, in_cons, in_nil, in_every, true_rising}
use Rattle.model.specs.Lists.{every, rising, rising_from}
use Rattle.model.specs.Table.{Member, space_of, word_limit, header_size, record_size, table_of, member_of, record_of, members_of, members_in, ids, formed_member, formed as formedTable, well_formed}
use Rattle.table.specs.FormedWords.{FormedWords}
use Rattle.table.specs.Tests.{right_pending, right_from}
use Rattle.laws.specs.Words.{members_length, record_list, record_has, record_steps, record_written, member_part}
use Rattle.laws.specs.Tables.{well_formed_facts, space_words}
use Rattle.laws.specs.Parts.{first_member, one_of}

-- The answer as facts

pub formed_words : (ws : List ℕ) → well_formed ws ≡ true → FormedWords ws
formed_words ws e =
    let n : length (members_in ws) ≡ get_or ws 1 0 = members_length (get_or ws 0 0) (get_or ws 1 0) (drop header_size ws) in
    let w = well_formed_facts ws e in
    let f = w.table in
    record { header = w.header; r_low = f.r_low; r_high = f.r_high; few = rw n at f.count_high; fits = rw n at w.fits; rises = true_rising (ids (members_in ws)) f.ids_rising; right = e }

-- The tests that are left where each word is below the limit

-- each word fits
abbrev pub Bounded : List ℕ → Type 0
Bounded ws = (i : ℕ) → get_or ws i 0 < word_limit

bounded_take : (n : ℕ) (ws : List ℕ) → Bounded ws → Bounded (take n ws)
bounded_take zero ws h i = omega arith
bounded_take (suc n) [] h i = h i
bounded_take (suc n) (x ∷ ws) h zero = h 0
bounded_take (suc n) (x ∷ ws) h (suc i) = bounded_take n ws (λ j. h (suc j)) i

pub bounded_drop : (n : ℕ) (ws : List ℕ) → Bounded ws → Bounded (drop n ws)
bounded_drop n ws h i = rw get_or-drop (h (n + i))

bounded_in : {x : ℕ} (ws : List ℕ) → Bounded ws → In x ws → x < word_limit
bounded_in [] h i = absurd (in_nil i)
bounded_in {x} (y ∷ ws) h i = ⊎_elim (λ e. omega (arith, e, h 0)) (bounded_in ws (λ j. h (suc j))) (in_cons i)

-- in a space that has every word
module _ (w : ℕ) (all : word_limit ≤ w) where
  -- of a member whose record is words, what is pending is left to test
  pub member_right : (r : ℕ) (m : Member) → length m.successors ≡ r → Bounded (record_of m) → formed_member w r m ≡ right_pending m.pending m.candidate
  unfolding formed_member right_pending
  member_right r m n h =
      let identifiers : every (λ x. ltb x w) (m.id ∷ m.predecessor ∷ m.candidate ∷ m.successors) ≡ true =
      in_every (λ x. ltb x w) (m.id ∷ m.predecessor ∷ m.candidate ∷ m.successors)
      (λ x i. lt-ltb x w (omega (arith, bounded_in (record_of m) h (record_has m i)))) in
      rw (eq-eqb (length m.successors) r n, lt-ltb m.steps word_limit (bounded_in (record_of m) h (record_steps m)), identifiers, and-true, and-true, and-true)

  member_tests : (r : ℕ) (ws : List ℕ) → record_size r ≤ length ws → Bounded ws → formed_member w r (member_of r ws) ≡ right_pending (get_or ws 2 0) (get_or ws 3 0)
  member_tests r ws l h = member_right r (member_of r ws) (record_list r ws l) (subst Bounded (sym (record_written r ws l)) (bounded_take (record_size r) ws h))

  members_tests : (r lo n : ℕ) (ws : List ℕ) → n * record_size r ≤ length ws → Bounded ws
      → (rising_from lo (ids (members_of r n ws)) && every (formed_member w r) (members_of r n ws)) ≡ right_from (lo + 1) (members_of r n ws)
  members_tests r lo zero ws l h = refl
  members_tests r lo (suc n) ws l h =
      let s = suc-mul n (record_size r) in
      let rest : List ℕ = drop (record_size r) ws in
      let x : ℕ = get_or ws 0 0 in
      let i = members_tests r x n rest (simp length-drop (omega arith)) (bounded_drop (record_size r) ws h) in
      and_pairs (ltb lo x) (rising_from x (ids (members_of r n rest))) (formed_member w r (member_of r ws)) (every (formed_member w r) (members_of r n rest))
      ∙ rw (member_tests r ws (omega arith) h, i, add-one lo)

  all_tests : (r n : ℕ) (ws : List ℕ) → n * record_size r ≤ length ws → Bounded ws → (rising (ids (members_of r n ws)) && every (formed_member w r) (members_of r n ws)) ≡ right_from 0 (members_of r n ws)
  all_tests r zero ws l h = refl
  all_tests r (suc n) ws l h =
      let s = suc-mul n (record_size r) in
      let rest : List ℕ = drop (record_size r) ws in
      let x : ℕ = get_or ws 0 0 in
      let i = members_tests r x n rest (simp length-drop (omega arith)) (bounded_drop (record_size r) ws h) in
      and_pairs true (rising_from x (ids (members_of r n rest))) (formed_member w r (member_of r ws)) (every (formed_member w r) (members_of r n rest))
      ∙ rw (member_tests r ws (omega arith) h, i, leb-zero x)

-- a slice whose sizes are right is well-formed by the tests of its records
pub tests : (ws : List ℕ) → Bounded ws → header_size ≤ length ws → 1 ≤ get_or ws 0 0 → get_or ws 0 0 ≤ 8 → get_or ws 1 0 ≤ 256
    → get_or ws 2 0 ≡ 0 → header_size + get_or ws 1 0 * record_size (get_or ws 0 0) ≤ length ws → right_from 0 (members_in ws) ≡ well_formed ws
unfolding well_formed formedTable
tests ws h l lo hi few none fits =
    let r : ℕ = get_or ws 0 0 in
    let n : ℕ = get_or ws 1 0 in
    let a = all_tests (space_of (table_of ws)) (omega (arith, space_words (table_of ws))) r n (drop header_size ws) (simp length-drop (omega arith)) (bounded_drop header_size ws h) in
    rw (
      members_length r n (drop header_size ws),
      le-leb header_size (length ws) l,
      le-leb (header_size + n * record_size r) (length ws) fits,
      le-leb 1 r lo,
      le-leb r 8 hi,
      le-leb n 256 few,
      eq-eqb (get_or ws 2 0) 0 none,
      ← a,
    )

-- `records_ok`: of n records the first, and the others
pub one_record : (r w n : ℕ) (ws : List ℕ) → w ≡ record_size r → 0 < n → n * w ≤ length ws
    → (members_of r n ws ≡ member_of r (take w ws) ∷ members_of r (n - 1) (drop w ws)) × (w ≤ length ws) × ((n - 1) * w ≤ length (drop w ws))
one_record r w n ws e h f =
    let s = one_of n w h in
    let l : w ≤ length ws = omega arith in
    let m : member_of r (take w ws) ≡ member_of r ws = member_part r w ws e l in
    (rw (m, e) (first_member r n ws h), l, simp length-drop (omega arith))
