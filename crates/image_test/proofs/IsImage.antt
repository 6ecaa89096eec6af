-- `is_image`: what it tests is what document 01 asks of the bytes. Assumes nothing.
use Prim.Native.Nat.{ℕ, zero, suc, ◌+◌, ◌*◌, ◌-◌, ◌/◌, ◌%◌, ◌≤◌, ◌<◌}
use mathlib.Core.Path.{◌≡◌, refl, sym, ap, ap₂, ◌∙◌}
use mathlib.Core.Bool.{Bool, true, false, ◌&&◌, and-true, and-false, and_assoc}
use mathlib.Core.List.{List, [], ◌∷◌, ◌++◌, append_assoc}
use native.Mathlib.Nat.{suc-mul}
use native.Mathlib.Numerals.{add-one}
use native.Mathlib.Omega.{arith}
use lib.Dec.{leb, ltb, eqb, leb-zero}
use lib.ListN.{length, take, drop, take-append-drop, length-drop, length-take, drop_of_length-le}
use borrow.Author.Tests.{eqb-true, eqb-false, eq-eqb, ne_eqb, le-leb, lt-leb}
use Rattle.model.specs.Lists.{every, same, rising, rising_from}
use Rattle.model.specs.Table.{space_of, word_limit, Member, record_size, record_of, ids, formed_member, formed}
use Rattle.model.specs.Image.{header_contents, member_contents, number_from, number_at, numbers_at, field, member_field, member_fields, image_of, field_head, header_length, member_length, field_member, field_members, image_r, image_count, table_in, is_image}
use Rattle.laws.specs.Lists.{same_eq}
use Rattle.laws.specs.Tables.{space_words}
use Rattle.laws.specs.Bytes.{Bytes, bytes_drop, number_below, numbers_length, words_said, field_size, contents_written, header_said, image_length, in_length, in_lists}
use Rattle.table.specs.Tests.{right_pending}
use Rattle.table.proofs.WellFormed.{Bounded, member_right}
use Rattle.fields.specs.Fields.{first_size, image_size, head_is, image_steps, id_in}
use Rattle.image_test.specs.Tests.{field_right, fields_right}

-- Equal lists, in parts

same_behind : (c a b : List ℕ) → same (c ++ a) (c ++ b) ≡ same a b
same_behind [] a b = refl
same_behind (x ∷ c) a b = rw (eq-eqb x x refl) (same_behind c a b)

-- the two bytes of a length
same_two : (k a b : ℕ) → k < 65536 → a < 256 → b < 256 → (eqb (k / 256 % 256) a && eqb (k % 256) b) ≡ eqb (number_from 0 (a ∷ b ∷ [])) k
same_two k a b hk ha hb = go (eqb (k / 256 % 256) a) (eqb (k % 256) b) refl refl
  where
    go : (p q : Bool) → eqb (k / 256 % 256) a ≡ p → eqb (k % 256) b ≡ q → (p && q) ≡ eqb (number_from 0 (a ∷ b ∷ [])) k
    go true true e f = sym (eq-eqb (number_from 0 (a ∷ b ∷ [])) k (omega (arith, eqb-true (k / 256 % 256) a e, eqb-true (k % 256) b f)))
    go true false e f = sym (ne_eqb (number_from 0 (a ∷ b ∷ [])) k (λ q. eqb-false (k % 256) b f (omega arith)))
    go false q e f = sym (ne_eqb (number_from 0 (a ∷ b ∷ [])) k (λ q. eqb-false (k / 256 % 256) a e (omega arith)))

eqb_sym : (a b : ℕ) → eqb a b ≡ eqb b a
eqb_sym a b = go (eqb b a) refl
  where
    go : (p : Bool) → eqb b a ≡ p → eqb a b ≡ p
    go true e = eq-eqb a b (sym (eqb-true b a e))
    go false e = ne_eqb a b (λ q. eqb-false b a e (sym q))

combine : (y w s : Bool) {x x' v : Bool} → x ≡ x' → (y && w) ≡ v → (x && (y && (w && s))) ≡ (x' && v && s)
combine true w s {x} {x'} e f = rw (e, ← f) (sym (and_assoc x' w s))
combine false w s {x} {x'} e f = rw (e, ← f) (sym (and_assoc x' false s))

-- a field against the bytes that begin with its contents: its head, and what follows
same_field : (tag k : ℕ) (c z bs : List ℕ) → Bytes bs → k < 65536 → field_head + k ≤ length bs → c ≡ take k (drop field_head bs)
    → same (field tag c ++ z) bs ≡ (head_is bs tag k && same z (drop (field_head + k) bs))
same_field tag k c z [] h hk l e = absurd (omega arith)
same_field tag k c z (a ∷ []) h hk l e = absurd (omega arith)
same_field tag k c z (a ∷ b ∷ []) h hk l e = absurd (omega arith)
same_field tag k c z (a ∷ b ∷ d ∷ rest) h hk l e =
    let n : length c ≡ k = ap length e ∙ rw length-take (omega arith) in
    let q : field_head + k ≡ suc (suc (suc k)) = omega arith in
    let whole : c ++ drop k rest ≡ rest = rw e (take-append-drop k rest) in
    let behind : same (c ++ z) rest ≡ same z (drop k rest) = ap (same (c ++ z)) (sym whole) ∙ same_behind c z (drop k rest) in
    rw (n, q, behind) (combine (eqb (k / 256 % 256) b) (eqb (k % 256) d) (same z (drop k rest)) (eqb_sym tag a) (same_two k b d hk (h 1) (h 2)))

-- Members

numbers_below : (n : ℕ) (bs : List ℕ) → Bytes bs → 4 * n ≤ length bs → Bounded (numbers_at n bs)
numbers_below zero bs h l i = omega arith
numbers_below (suc n) bs h l zero = number_below 4 0 bs h (omega arith)
numbers_below (suc n) bs h l (suc i) = numbers_below n (drop 4 bs) (bytes_drop 4 bs h) (rw length-drop (omega arith)) i

-- the words of the record that a field's contents say
words_below : (r : ℕ) (bs : List ℕ) → Bytes bs → member_length r ≤ length bs → Bounded (record_of (field_member r bs))
words_below r bs h l zero = number_below 4 0 bs h (omega arith)
words_below r bs h l (suc zero) = number_below 4 4 bs h (omega arith)
words_below r bs h l (suc (suc zero)) = omega (arith, number_below 1 8 bs h (omega arith))
words_below r bs h l (suc (suc (suc i))) = rw (words_said r bs) at (numbers_below (record_size r - 3) (drop 9 bs) (bytes_drop 9 bs h) (rw length-drop (omega arith)) i)

-- so, in a space that has every word, what is pending is left to test
member_tests : (w : ℕ) → word_limit ≤ w → (r : ℕ) (bs : List ℕ) → Bytes bs → member_length r ≤ length bs → formed_member w r (field_member r bs) ≡ right_pending (number_at bs 8 1) (number_at bs 9 4)
member_tests w all r bs h l = member_right w all r (field_member r bs) (numbers_length r (drop 13 bs)) (words_below r bs h l)

regroup : (h a f r e s : Bool) → ((a && r) && (f && e) && (h && s)) ≡ ((h && a && f) && (r && e && s))
regroup true true true r e s = refl
regroup true true false true e s = refl
regroup true true false false e s = refl
regroup true false f r e s = refl
regroup false a f r e s = and-false ((a && r) && (f && e))

swap : (p h s : Bool) → (p && (h && s)) ≡ (h && (p && s))
swap true h s = refl
swap false h s = sym (and-false h)

-- what document 01 asks of n members' fields and of the last one
abbrev asked : ℕ → ℕ → ℕ → List ℕ → Bool → Bool
asked w r n bs rise = rise && every (formed_member w r) (field_members r n bs) && same (member_fields (field_members r n bs) ++ field 3 []) bs

module _ (w : ℕ) (all : word_limit ≤ w) (r : ℕ) (hr : r ≤ 8) where
  -- the first of them: the test a of its identifier, and those of the others
  one_field : (n lo : ℕ) (bs : List ℕ) (a rise : Bool) → Bytes bs → length bs ≡ suc n * field_size r + field_head → a ≡ leb lo (id_in bs)
      → asked w r n (drop (field_size r) bs) rise ≡ fields_right r (id_in bs + 1) n (drop (field_size r) bs)
      → asked w r (suc n) bs (a && rise) ≡ fields_right r lo (suc n) bs
  unfolding field_right
  one_field n lo bs a rise h l e ih =
      let s = suc-mul n (field_size r) in
      let f : List ℕ = drop field_head bs in
      let m : Member = field_member r f in
      let rest : List ℕ = drop (field_size r) bs in
      let z : List ℕ = member_fields (field_members r n rest) ++ field 3 [] in
      let hf = bytes_drop field_head bs h in
      let lf : member_length r ≤ length f = rw length-drop (omega arith) in
      let head : Bool = head_is bs 2 (member_length r) in
      let others : Bool = every (formed_member w r) (field_members r n rest) in
      let bytes : same ((member_field m ++ member_fields (field_members r n rest)) ++ field 3 []) bs ≡ (head && same z rest) =
      ap (λ (v : List ℕ). same v bs) (append_assoc (member_field m) (member_fields (field_members r n rest)) (field 3 []))
      ∙ same_field 2 (member_length r) (member_contents m) z bs h (omega arith) (omega arith) (contents_written r f hf lf) in
      ap (λ (x : Bool). (a && rise) && (formed_member w r m && others) && x) bytes
      ∙ regroup head a (formed_member w r m) rise others (same z rest)
      ∙ ap₂ (λ (p q : Bool). p && q) (ap₂ (λ (u v : Bool). head && u && v) e (member_tests w all r f hf lf)) ih

  no_field : (bs : List ℕ) (rise : Bool) → Bytes bs → length bs ≡ 0 * field_size r + field_head → rise ≡ true → asked w r 0 bs rise ≡ head_is bs 3 0
  no_field bs rise h l e = rw (e, same_field 3 0 [] [] bs h (omega arith) (omega arith) refl, drop_of_length-le bs {i = field_head} (omega arith), and-true)

  rest_fits : (n : ℕ) (bs : List ℕ) → length bs ≡ suc n * field_size r + field_head → length (drop (field_size r) bs) ≡ n * field_size r + field_head
  rest_fits n bs l = rw length-drop (omega (arith, suc-mul n (field_size r)))

  later_fields : (n lo : ℕ) (bs : List ℕ) → Bytes bs → length bs ≡ n * field_size r + field_head → asked w r n bs (rising_from lo (ids (field_members r n bs))) ≡ fields_right r (lo + 1) n bs
  later_fields zero lo bs h l = no_field bs true h l refl
  later_fields (suc n) lo bs h l =
      let rest : List ℕ = drop (field_size r) bs in
      one_field n (lo + 1) bs (ltb lo (id_in bs)) _ h l (rw (add-one lo)) (later_fields n (id_in bs) rest (bytes_drop (field_size r) bs h) (rest_fits n bs l))

  all_fields : (n : ℕ) (bs : List ℕ) → Bytes bs → length bs ≡ n * field_size r + field_head → asked w r n bs (rising (ids (field_members r n bs))) ≡ fields_right r 0 n bs
  all_fields zero bs h l = no_field bs true h l refl
  all_fields (suc n) bs h l =
      let rest : List ℕ = drop (field_size r) bs in
      one_field n 0 bs true (rising_from (id_in bs) (ids (field_members r n rest))) h l (sym (leb-zero (id_in bs))) (later_fields n (id_in bs) rest (bytes_drop (field_size r) bs h) (rest_fits n bs l))

-- The whole image

module _ (bs : List ℕ) (h : Bytes bs) where
  sizes_right : 1 ≤ image_r bs → image_r bs ≤ 8 → image_count bs ≤ 256
      → formed (table_in bs) ≡ (rising (ids (table_in bs).members) && every (formed_member (space_of (table_in bs)) (image_r bs)) (table_in bs).members)
  unfolding formed
  sizes_right lo hi few =
      rw (le-leb 1 (image_r bs) lo, le-leb (image_r bs) 8 hi, in_length (image_r bs) (image_count bs) (drop first_size bs), le-leb (image_count bs) 256 few)

  header_first : first_size ≤ length bs → image_steps bs ≡ 0 → same (image_of (table_in bs)) bs ≡ (head_is bs 1 header_length && same (member_fields (table_in bs).members ++ field 3 []) (drop first_size bs))
  header_first l none = same_field 1 header_length (header_contents (image_r bs) (length (table_in bs).members))
      (member_fields (table_in bs).members ++ field 3 []) bs h (omega arith) l (header_said bs h l none)

  -- bytes whose sizes are right are an image by the tests of their fields
  pub is_image_law : 1 ≤ image_r bs → image_r bs ≤ 8 → image_count bs ≤ 256 → image_steps bs ≡ 0 → length bs ≡ image_size (image_r bs) (image_count bs)
      → is_image bs ≡ (head_is bs 1 header_length && fields_right (image_r bs) 0 (image_count bs) (drop first_size bs))
  unfolding is_image
  is_image_law lo hi few none l =
      let f : List ℕ = drop first_size bs in
      let lf : length f ≡ image_count bs * field_size (image_r bs) + field_head = rw length-drop (omega arith) in
      ap₂ (λ (p q : Bool). p && q) (sizes_right lo hi few) (header_first (omega arith) none)
      ∙ swap (rising (ids (table_in bs).members) && every (formed_member (space_of (table_in bs)) (image_r bs)) (table_in bs).members) (head_is bs 1 header_length) _
      ∙ ap (λ (q : Bool). head_is bs 1 header_length && q) (all_fields (space_of (table_in bs)) (omega (arith, space_words (table_in bs))) (image_r bs) hi (image_count bs) f (bytes_drop first_size bs h) lf)

-- bytes of another length are none
pub wrong_length : (bs : List ℕ) → (length bs ≡ image_size (image_r bs) (image_count bs) → ⊥) → is_image bs ≡ false
unfolding is_image
wrong_length bs n = go (same (image_of (table_in bs)) bs) refl
  where
    go : (b : Bool) → same (image_of (table_in bs)) bs ≡ b → (formed (table_in bs) && b) ≡ false
    go true e = absurd (n (sym (ap length (same_eq (image_of (table_in bs)) bs e))
        ∙ image_length (table_in bs) (in_lists (image_r bs) (image_count bs) (drop first_size bs))
        ∙ ap (image_size (image_r bs)) (in_length (image_r bs) (image_count bs) (drop first_size bs))))
    go false e = and-false (formed (table_in bs))

-- nor are those with another r, with more members, or with a step count in the first field
module _ (bs : List ℕ) where
  pub r_low : image_r bs < 1 → is_image bs ≡ false
  unfolding is_image formed
  r_low h = simp (lt-leb 1 (image_r bs) h)

  pub r_high : 8 < image_r bs → is_image bs ≡ false
  unfolding is_image formed
  r_high h = simp (lt-leb (image_r bs) 8 h, and-false)

  pub many : 256 < image_count bs → is_image bs ≡ false
  unfolding is_image formed
  many h = simp (in_length, lt-leb (image_count bs) 256 h, and-false)

  pub counting : (image_steps bs ≡ 0 → ⊥) → is_image bs ≡ false
  unfolding is_image
  counting n = go (same (image_of (table_in bs)) bs) refl
    where
      go : (b : Bool) → same (image_of (table_in bs)) bs ≡ b → (formed (table_in bs) && b) ≡ false
      go true e = absurd (n (ap image_steps (sym (same_eq (image_of (table_in bs)) bs e))))
      go false e = and-false (formed (table_in bs))

-- and where the sizes are right, the first field's head settles it, or leaves the others
module _ (bs : List ℕ) (f : Bool) (e : is_image bs ≡ (head_is bs 1 header_length && f)) where
  pub right_head : head_is bs 1 header_length ≡ true → f ≡ is_image bs
  right_head t = sym (rw t at e)

  pub wrong_head : head_is bs 1 header_length ≡ false → false ≡ is_image bs
  wrong_head t = sym (rw t at e)
