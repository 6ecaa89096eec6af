-- Images: what is written is read back, and the bytes that are accepted are just the writings of well-formed tables. Assumes nothing.
use Rattle.std.specs.Prelude.{◌≡◌, refl, true, not, ◌&&◌, List, [], ◌∷◌, ℕ, ◌≤◌, length, take, drop, ltb}
use Rattle.std.proofs.Common.{sym, ap, subst, ◌∙◌, arith, take_at, le-ltb, ltb-false}
use Rattle.std.proofs.lemmas.Bool.{not-false}
use Rattle.model.specs.Lists.{same, overlay}
use Rattle.model.specs.Table.{Table, size, table_of, formed, well_formed}
use Rattle.model.specs.Answer.{accepted}
use Rattle.model.specs.Image.{image_of, table_in, is_image}
use Rattle.model.specs.Refusals.{write_refusal, read_refusal}
use Rattle.model.specs.Calls.{written, write_bytes, read_answer, read_words}
use Rattle.laws.specs.Lists.{and-true, true_and, same_eq, same_refl}
use Rattle.laws.specs.Accepted.{answer_number, none_applies}
use Rattle.laws.specs.Words.{written_table, written_length, written_rest}
use Rattle.laws.specs.Tables.{formed_facts, facts_formed, well_formed_facts, facts_well_formed, formed_lists, written_formed}
use Rattle.laws.specs.Bytes.{image_read}

-- the image of a well-formed table is an image, and says that table
pub read_written : (T : Table) → formed T ≡ true → (is_image (image_of T) ≡ true) × (table_in (image_of T) ≡ T)
unfolding is_image
read_written T h =
    let back = image_read T (formed_facts T h) in
    (ap (λ (U : Table). formed U && same (image_of U) (image_of T)) back ∙ true_and h (same_refl (image_of T)), back)

-- an image is the writing of the table that it says
pub written_read : (bs : List ℕ) → is_image bs ≡ true → image_of (table_in bs) ≡ bs
unfolding is_image
written_read bs h = same_eq (image_of (table_in bs)) bs (and-true (formed (table_in bs)) _ h).1

-- which is well-formed
pub read_formed : (bs : List ℕ) → is_image bs ≡ true → formed (table_in bs) ≡ true
unfolding is_image
read_formed bs h = (and-true (formed (table_in bs)) _ h).0

-- bytes are accepted if and only if they are the writing of a well-formed table
pub accepted_iff : (bs : List ℕ) → (is_image bs ≡ true → (T : Table) × (formed T ≡ true) × (image_of T ≡ bs)) × (((T : Table) × (formed T ≡ true) × (image_of T ≡ bs)) → is_image bs ≡ true)
accepted_iff bs = (λ h. (table_in bs, read_formed bs h, written_read bs h), λ w. rw w.2 at (read_written w.0 w.1).0)

-- The calls

-- an accepted call writes the image over the first bytes
pub written_bytes : (ws bs : List ℕ) → well_formed ws ≡ true → length (image_of (table_of ws)) ≤ length bs → write_bytes ws bs ≡ overlay (image_of (table_of ws)) bs
unfolding write_bytes write_refusal
written_bytes ws bs h room = rw (h, le-ltb (length bs) (length (image_of (table_of ws))) room)

-- and an accepted one reads the table of the image over the first words
pub read_words_law : (ws bs : List ℕ) → is_image bs ≡ true → size (table_in bs) ≤ length ws → read_words ws bs ≡ written (table_in bs) ws
unfolding read_words read_refusal
read_words_law ws bs h fits = rw (h, le-ltb (length ws) (size (table_in bs)) fits)

-- the bytes that a call wrote, read into another slice long enough, give the table again
pub read_back : (ws bs vs : List ℕ) → well_formed ws ≡ true → length (image_of (table_of ws)) ≤ length bs → size (table_of ws) ≤ length vs
    → read_words vs (take (length (image_of (table_of ws))) (write_bytes ws bs)) ≡ written (table_of ws) vs
read_back ws bs vs h room fits =
    let T : Table = table_of ws in
    let back = read_written T (facts_formed T (well_formed_facts ws h).table) in
    let n : ℕ = length (image_of T) in
    ap (λ (l : List ℕ). read_words vs (take n l)) (written_bytes ws bs h room)
    ∙ ap (read_words vs) (take_at (image_of T) (drop n bs) n refl)
    ∙ read_words_law vs (image_of T) back.0 (subst (λ (U : Table). size U ≤ length vs) (sym back.1) fits)
    ∙ ap (λ (U : Table). written U vs) back.1

-- Demand 2's sentence on images, of the call itself

-- the bytes are the writing of the well-formed table T, which fits n words
pub record WritingOf (T : Table) (n : ℕ) (bs : List ℕ) : Type 0 where
  pub is_formed : formed T ≡ true
  pub written_as : image_of T ≡ bs
  pub fits : size T ≤ n

-- reading the bytes into a slice is accepted and yields the table T: the member count is replied, the slice holds T, and all later words are as they were
pub record Yields (T : Table) (ws bs : List ℕ) : Type 0 where
  pub answer : read_answer ws bs ≡ accepted (length T.members ∷ [])
  pub table : table_of (read_words ws bs) ≡ T
  pub holds_it : well_formed (read_words ws bs) ≡ true
  pub same_length : length (read_words ws bs) ≡ length ws
  pub later : drop (size T) (read_words ws bs) ≡ drop (size T) ws

-- what an accepted reading judged
read_accepted : (ws bs : List ℕ) → read_refusal (length ws) bs ≡ 0 → (is_image bs ≡ true) × (size (table_in bs) ≤ length ws)
unfolding read_refusal
read_accepted ws bs h =
    let a = none_applies 8 (not (is_image bs)) _ h in
    let b = none_applies 9 (ltb (length ws) (size (table_in bs))) 0 a.1 in
    (not-false _ a.0, ltb-false _ _ b.0)

yields : (ws bs : List ℕ) → is_image bs ≡ true → size (table_in bs) ≤ length ws → Yields (table_in bs) ws bs
unfolding read_answer read_refusal
yields ws bs h fits =
    let T : Table = table_in bs in
    let f = formed_facts T (read_formed bs h) in
    let e = read_words_law ws bs h fits in
    let n = formed_lists T f in
    record {
      answer = rw (h, le-ltb (length ws) (size T) fits);
      table = ap table_of e ∙ written_table T ws n;
      holds_it = ap well_formed e ∙ facts_well_formed (written T ws) (written_formed T ws f fits);
      same_length = ap length e ∙ written_length T ws n fits;
      later = ap (drop (size T)) e ∙ written_rest T ws (size T) n refl;
    }

-- an image is accepted exactly when it is the writing of some well-formed table that fits the lent slice, and reading it yields that table
pub read_exactly : (ws bs : List ℕ) → ((read_answer ws bs).number ≡ 0 → (T : Table) × WritingOf T (length ws) bs) × ((T : Table) → WritingOf T (length ws) bs → Yields T ws bs)
unfolding read_answer
read_exactly ws bs = (writing, reading)
  where
    writing : (read_answer ws bs).number ≡ 0 → (T : Table) × WritingOf T (length ws) bs
    writing h =
        let a = read_accepted ws bs (sym (answer_number (read_refusal (length ws) bs) _) ∙ h) in
        (table_in bs, record { is_formed = read_formed bs a.0; written_as = written_read bs a.0; fits = omega (arith, a.1) })

    reading : (T : Table) → WritingOf T (length ws) bs → Yields T ws bs
    reading T w =
        let back = read_written T w.is_formed in
        let e : table_in bs ≡ T = ap table_in (sym w.written_as) ∙ back.1 in
        let h : is_image bs ≡ true = ap is_image (sym w.written_as) ∙ back.0 in
        subst (λ (U : Table). Yields U ws bs) e (yields ws bs h (subst (λ (U : Table). size U ≤ length ws) (sym e) w.fits))
