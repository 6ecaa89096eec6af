-- An image's size, its first field, and one member's field: written in four pieces, and its record read in three. Assumes nothing.
use Prim.Native.Nat.{ℕ, ◌+◌, ◌*◌, ◌-◌, ◌%◌, ◌≤◌}
use mathlib.Core.Path.{◌≡◌, refl, sym, ap, ◌∙◌}
use mathlib.Core.List.{List, [], ◌∷◌, ◌++◌}
use native.Mathlib.Nat.{mul-le-mul}
use native.Mathlib.Omega.{arith}
use lib.ListN.{length, get_or, take, drop, set, length-take, length-drop, length-append}
use lib.Seq.{drop-drop, get_or-drop, take_all}
use Rattle.model.specs.Table.{record_size, member_of, record_of}
use Rattle.model.specs.Image.{bytes_of, words4, field_head, header_length, member_length, member_field, numbers_at, field_member}
use Rattle.laws.specs.Bytes.{field_size, contents_length, words4_length, words_said}
use Rattle.laws.specs.Words.{record_written}
use Rattle.octets.specs.Placed.{placed}
use Rattle.octets.proofs.Numbers.{byte_at}
use Rattle.octets.proofs.Placed.{placed_length, placed_one, placed_then}
use Rattle.fields.specs.Fields.{first_size, header_bytes, pending_in}

-- n fields of b bytes: 256 members with lists of 8 have the most
pub most_bytes : (n r b : ℕ) → n ≤ 256 → r ≤ 8 → b ≡ field_size r → (n * b ≡ n * field_size r) × (n * b ≤ 256 * field_size 8)
most_bytes n r b hn hr e = let h : field_size r ≤ field_size 8 = omega arith in rw e (refl, mul-le-mul hn h)

-- `put_header`: head, r, member count, and the step count
pub header_placed : (r n : ℕ) (out o1 o2 last : List ℕ) → first_size ≤ length out → o1 ≡ placed 0 (1 ∷ bytes_of 2 header_length) out
    → o2 ≡ placed (field_head + 1) (bytes_of 2 n) (set o1 field_head (r % 256)) → last ≡ placed (field_head + 3) (bytes_of 4 0) o2 → last ≡ placed 0 (header_bytes r n) out
header_placed r n out o1 o2 last h e1 e2 e3 =
    let head : List ℕ = 1 ∷ bytes_of 2 header_length in
    let l1 : length o1 ≡ length out = ap length e1 ∙ placed_length 0 head out (omega arith) in
    let f1 = placed_then 0 field_head head (r % 256 ∷ []) out o1 (set o1 field_head (r % 256)) (omega arith) refl e1 (placed_one field_head (r % 256) o1 (omega arith)) in
    let f2 = placed_then 0 (field_head + 1) (head ++ (r % 256 ∷ [])) (bytes_of 2 n) out (set o1 field_head (r % 256)) o2 (omega arith) refl f1 e2 in
    placed_then 0 (field_head + 3) (head ++ (r % 256 ∷ []) ++ bytes_of 2 n) (bytes_of 4 0) out o2 last (omega arith) refl f2 e3

field_bytes : (r : ℕ) (ws : List ℕ) → length ws ≡ record_size r → (2 ∷ bytes_of 2 (member_length r)) ++ words4 (take 2 ws) ++ (get_or ws 2 0 % 256 ∷ []) ++ words4 (drop 3 ws) ≡ member_field (member_of r ws)
field_bytes r ws h =
    let words : ws ≡ record_of (member_of r ws) = sym (record_written r ws (omega arith) ∙ take_all (record_size r) ws (omega arith)) in
    let n : length (member_of r ws).successors ≡ r = simp (length-take, length-drop) (omega arith) in
    rw (contents_length r (member_of r ws) n) (ap (λ (l : List ℕ). (2 ∷ bytes_of 2 (member_length r)) ++ words4 (take 2 l) ++ (get_or l 2 0 % 256 ∷ []) ++ words4 (drop 3 l)) words)

-- `write_field`: head, two words, pending, and the other words
pub field_placed : (at r : ℕ) (ws out o1 o2 o4 : List ℕ) → length ws ≡ record_size r → at + field_size r ≤ length out
    → o1 ≡ placed at (2 ∷ bytes_of 2 (member_length r)) out → o2 ≡ placed (at + field_head) (words4 (take 2 ws)) o1
    → o4 ≡ placed (at + 12) (words4 (drop 3 ws)) (set o2 (at + 11) (get_or ws 2 0 % 256)) → o4 ≡ placed at (member_field (member_of r ws)) out
field_placed at r ws out o1 o2 o4 h fits e1 e2 e4 =
    let head : List ℕ = 2 ∷ bytes_of 2 (member_length r) in
    let two : List ℕ = words4 (take 2 ws) in
    let pending : ℕ = get_or ws 2 0 % 256 in
    let n : length (head ++ two) ≡ 11 = omega (arith, words4_length (take 2 ws), length-take 2 ws) in
    let f2 : o2 ≡ placed at (head ++ two) out = placed_then at field_head head two out o1 o2 (omega arith) refl e1 e2 in
    let l2 : length o2 ≡ length out = ap length f2 ∙ placed_length at (head ++ two) out (omega arith) in
    let f3 = placed_then at 11 (head ++ two) (pending ∷ []) out o2 (set o2 (at + 11) pending) (omega arith) n f2 (placed_one (at + 11) pending o2 (omega arith)) in
    let n3 : length (head ++ two ++ (pending ∷ [])) ≡ 12 = rw length-append (omega arith) in
    placed_then at 12 (head ++ two ++ (pending ∷ [])) _ out (set o2 (at + 11) pending) o4 (omega arith) n3 f3 e4 ∙ ap (λ (v : List ℕ). placed at v out) (field_bytes r ws h)

-- the byte of pending, and the four of the candidate
pub pending_byte : (bs : List ℕ) → field_size 0 ≤ length bs → get_or bs 11 0 ≡ pending_in bs
pending_byte bs h = sym (get_or-drop field_head bs 8 0) ∙ sym (byte_at (drop field_head bs) 8 (rw length-drop (omega arith)))

pub behind_pending : (bs : List ℕ) → drop 12 bs ≡ drop 9 (drop field_head bs)
behind_pending bs = sym (drop-drop 9 field_head bs)

record_words : (r : ℕ) (bs : List ℕ) → field_size 0 ≤ length bs
    → numbers_at 2 (drop field_head bs) ++ (get_or bs 11 0 ∷ []) ++ numbers_at (record_size r - 3) (drop 12 bs) ≡ record_of (field_member r (drop field_head bs))
record_words r bs h =
    let c : List ℕ = drop field_head bs in
    rw (behind_pending bs, words_said r c, pending_byte bs h)

-- `read_field`: two words, pending, and the other words
pub record_placed : (at r : ℕ) (bs t t1 t3 : List ℕ) → field_size r ≤ length bs → at + record_size r ≤ length t
    → t1 ≡ placed at (numbers_at 2 (drop field_head bs)) t → t3 ≡ placed (at + 3) (numbers_at (record_size r - 3) (drop 12 bs)) (set t1 (at + 2) (get_or bs 11 0))
    → t3 ≡ placed at (record_of (field_member r (drop field_head bs))) t
record_placed at r bs t t1 t3 h fits e1 e3 =
    let two : List ℕ = numbers_at 2 (drop field_head bs) in
    let pending : ℕ = get_or bs 11 0 in
    let l1 : length t1 ≡ length t = ap length e1 ∙ placed_length at two t (omega arith) in
    let f2 = placed_then at 2 two (pending ∷ []) t t1 (set t1 (at + 2) pending) (omega arith) refl e1 (placed_one (at + 2) pending t1 (omega arith)) in
    placed_then at 3 (two ++ (pending ∷ [])) _ t (set t1 (at + 2) pending) t3 (omega arith) refl f2 e3 ∙ ap (λ (v : List ℕ). placed at v t) (record_words r bs (omega arith))
