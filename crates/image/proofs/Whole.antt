-- A whole image written and read, and the calls' answers. Assumes nothing.
use Prim.Native.Nat.{ℕ, ◌+◌, ◌*◌, ◌≤◌, ◌<◌}
use mathlib.Core.Path.{◌≡◌, sym, ap, ◌∙◌}
use mathlib.Core.Bool.{true, false}
use mathlib.Core.List.{List, [], ◌∷◌, ◌++◌, append_assoc}
use native.Mathlib.Nat.{zero-add}
use native.Mathlib.Omega.{arith}
use lib.ListN.{length, get_or, drop, length-append}
use lib.Seq.{sets, sets-eq}
use borrow.Author.Tests.{lt-ltb, le-ltb}
use Rattle.model.specs.Lists.{overlay}
use Rattle.model.specs.Table.{header_size, header_of, record_size, size, records_of, table_of, members_in, words_of, formed, well_formed}
use Rattle.model.specs.Answer.{accepted, declined}
use Rattle.model.specs.Image.{bytes_of, field, header_field, member_fields, image_of, image_r, image_count, table_in, is_image}
use Rattle.model.specs.Refusals.{write_refusal, read_refusal}
use Rattle.model.specs.Calls.{write_answer, write_bytes, read_answer, read_words}
use Rattle.laws.specs.Lists.{and-true, same_eq}
use Rattle.laws.specs.Words.{Lengths, members_length}
use Rattle.laws.specs.Tables.{formed_facts, formed_lists, well_formed_facts}
use Rattle.laws.specs.Bytes.{field_size, fields_length, image_length, in_length, in_lists}
use Rattle.octets.specs.Placed.{placed}
use Rattle.fields.specs.Fields.{first_size, image_size, header_bytes}
use Rattle.octets.proofs.Placed.{placed_then}

-- what is placed at the front is laid over
front : (v l : List ℕ) → placed 0 v l ≡ overlay v l
front v l = rw zero-add

-- Writing

module _ (ws : List ℕ) (w : well_formed ws ≡ true) where
  lists : Lengths (get_or ws 0 0) (members_in ws)
  lists = formed_lists (table_of ws) (well_formed_facts ws w).table

  counted : length (members_in ws) ≡ get_or ws 1 0
  counted = members_length (get_or ws 0 0) (get_or ws 1 0) (drop header_size ws)

  -- the bytes of the table's image
  pub image_bytes : length (image_of (table_of ws)) ≡ image_size (get_or ws 0 0) (get_or ws 1 0)
  image_bytes = image_length (table_of ws) lists ∙ ap (image_size (get_or ws 0 0)) counted

  -- the words of the header are what the first field says
  pub header_bytes_law : header_bytes (get_or ws 0 0) (get_or ws 1 0) ≡ header_field (table_of ws)
  header_bytes_law = ap (header_bytes (get_or ws 0 0)) (sym counted)

  -- `write_image`: the first field, the members' fields and the last one
  pub image_written : (end : ℕ) (head out o1 o2 o3 : List ℕ) → head ≡ header_field (table_of ws) → end ≡ first_size + get_or ws 1 0 * field_size (get_or ws 0 0)
      → image_size (get_or ws 0 0) (get_or ws 1 0) ≤ length out → o1 ≡ placed 0 head out → o2 ≡ placed first_size (member_fields (members_in ws)) o1
      → o3 ≡ placed end (3 ∷ bytes_of 2 0) o2 → o3 ≡ placed 0 (image_of (table_of ws)) out
  image_written end head out o1 o2 o3 eh q fits e1 e2 e3 =
      let fields : List ℕ = member_fields (members_in ws) in
      let l : length head ≡ first_size = ap length eh in
      let f2 : o2 ≡ placed 0 (head ++ fields) out = placed_then 0 first_size head fields out o1 o2 (omega arith) l e1 e2 in
      let n : length (head ++ fields) ≡ end = rw (length-append, l, fields_length (get_or ws 0 0) (members_in ws) lists, counted) (sym q) in
      let z : 0 + end ≡ end = omega arith in
      let f3 : o3 ≡ placed 0 (head ++ fields ++ field 3 []) out = placed_then 0 end (head ++ fields) (field 3 []) out o2 o3 (omega arith) n f2 (rw z e3) in
      f3 ∙ ap (λ (v : List ℕ). placed 0 v out) (append_assoc head fields (field 3 []) ∙ ap (λ (k : List ℕ). k ++ (fields ++ field 3 [])) eh)

-- the answers of `write`
module _ (ws bs : List ℕ) where
  pub no_table : well_formed ws ≡ false → (declined 1 ≡ write_answer ws bs) × (bs ≡ write_bytes ws bs)
  unfolding write_answer write_bytes write_refusal
  no_table w = (rw w, rw w)

  module _ (w : well_formed ws ≡ true) where
    pub no_room : length bs < image_size (get_or ws 0 0) (get_or ws 1 0) → (declined 10 ≡ write_answer ws bs) × (bs ≡ write_bytes ws bs)
    unfolding write_answer write_bytes write_refusal
    no_room h =
        let l : length bs < length (image_of (table_of ws)) = rw (image_bytes ws w) h in
        (rw (w, lt-ltb (length bs) (length (image_of (table_of ws))) l), rw (w, lt-ltb (length bs) (length (image_of (table_of ws))) l))

    pub written : (n : ℕ) (last : List ℕ) → n ≡ image_size (get_or ws 0 0) (get_or ws 1 0) → n ≤ length bs → last ≡ placed 0 (image_of (table_of ws)) bs
        → (accepted (n ∷ []) ≡ write_answer ws bs) × (last ≡ write_bytes ws bs)
    unfolding write_answer write_bytes write_refusal
    written n last e h p =
        let q : n ≡ length (image_of (table_of ws)) = e ∙ sym (image_bytes ws w) in
        let l : length (image_of (table_of ws)) ≤ length bs = rw (← q) h in
        (rw (w, le-ltb (length bs) (length (image_of (table_of ws))) l, ← q), rw (w, le-ltb (length bs) (length (image_of (table_of ws))) l) (p ∙ front (image_of (table_of ws)) bs))

-- Reading

-- the numbers that the first field says are the header
pub header_read : (bs : List ℕ) (r n : ℕ) → r ≡ image_r bs → n ≡ image_count bs → r ∷ n ∷ 0 ∷ [] ≡ header_of (table_in bs)
header_read bs r n er en = rw (er, en, in_length (image_r bs) (image_count bs) (drop first_size bs))

-- `read_image`: the header and the records
pub table_read : (bs t last header : List ℕ) → header ≡ header_of (table_in bs) → header_size ≤ length t
    → last ≡ placed header_size (records_of (table_in bs).members) (sets t 0 header) → last ≡ placed 0 (words_of (table_in bs)) t
table_read bs t last header q h e =
    let l : length header ≡ header_size = ap length q in
    placed_then 0 header_size header (records_of (table_in bs).members) t (sets t 0 header) last (omega arith) l (sets-eq header t 0 (omega arith)) e
    ∙ ap (λ (v : List ℕ). placed 0 (v ++ records_of (table_in bs).members) t) q

-- the sizes of an image
pub record Sizes (bs : List ℕ) : Type 0 where
  pub r_high : image_r bs ≤ 8
  pub few : image_count bs ≤ 256
  pub whole : length bs ≡ image_size (image_r bs) (image_count bs)

pub image_sizes : (bs : List ℕ) → is_image bs ≡ true → Sizes bs
unfolding is_image
image_sizes bs h =
    let a = and-true (formed (table_in bs)) _ h in
    let f = formed_facts (table_in bs) a.0 in
    let n = in_length (image_r bs) (image_count bs) (drop first_size bs) in
    record {
      r_high = f.r_high;
      few = rw n at f.count_high;
      whole = ap length (sym (same_eq (image_of (table_in bs)) bs a.1)) ∙ image_length (table_in bs) (in_lists (image_r bs) (image_count bs) (drop first_size bs)) ∙ ap (image_size (image_r bs)) n;
    }

-- the answers of `read`
module _ (ws bs : List ℕ) where
  pub no_image : is_image bs ≡ false → (declined 9 ≡ read_answer ws bs) × (ws ≡ read_words ws bs)
  unfolding read_answer read_words read_refusal
  no_image i = (rw i, rw i)

  module _ (i : is_image bs ≡ true) where
    counts : size (table_in bs) ≡ header_size + image_count bs * record_size (image_r bs)
    counts = rw (in_length (image_r bs) (image_count bs) (drop first_size bs))

    pub no_words : length ws < header_size + image_count bs * record_size (image_r bs) → (declined 10 ≡ read_answer ws bs) × (ws ≡ read_words ws bs)
    unfolding read_answer read_words read_refusal
    no_words h =
        let l : length ws < size (table_in bs) = rw counts h in
        (rw (i, lt-ltb (length ws) (size (table_in bs)) l), rw (i, lt-ltb (length ws) (size (table_in bs)) l))

    pub read : (n : ℕ) (last : List ℕ) → n ≡ image_count bs → header_size + image_count bs * record_size (image_r bs) ≤ length ws
        → last ≡ placed 0 (words_of (table_in bs)) ws → (accepted (n ∷ []) ≡ read_answer ws bs) × (last ≡ read_words ws bs)
    unfolding read_answer read_words read_refusal
    read n last e h p =
        let l : size (table_in bs) ≤ length ws = rw counts h in (
          rw (i, le-ltb (length ws) (size (table_in bs)) l, e, in_length (image_r bs) (image_count bs) (drop first_size bs)),
          rw (i, le-ltb (length ws) (size (table_in bs)) l) (p ∙ front (words_of (table_in bs)) ws),
        )
