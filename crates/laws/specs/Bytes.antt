-- Bytes: a number and its bytes, a member and the contents of its field, an image and its table, each both ways. Assumes nothing.
use Rattle.std.specs.Prelude.{◌≡◌, refl, List, [], ◌∷◌, ◌++◌, ℕ, zero, suc, ◌+◌, ◌*◌, ◌-◌, ◌/◌, ◌%◌, ◌^◌, ◌≤◌, ◌<◌, length, get_or, take, drop}
use Rattle.std.proofs.Common.{sym, ap, ap₂, ◌∙◌, ⊎_elim, append-nil, append_assoc, pow-suc, mul_assoc, arith, length-append, length-drop, length-take-le, take-add, drop_at, drop-drop, get_or-drop}
use Rattle.std.proofs.Math.Nat.{pow-succ'}
use Rattle.model.specs.Table.{Member, Table, space_of, word_limit, record_size, record_of}
use Rattle.model.specs.Image.{bytes_of, number_from, number_at, words4, field, header_contents, member_contents, member_field, member_fields, image_of, field_head, header_length, member_length, numbers_at, field_member, field_members, image_r, image_count, table_in}
use Rattle.laws.specs.Lists.{In, here, there, in_cons, in_nil}
use Rattle.laws.specs.Parts.{drop_take, part_of_part}
use Rattle.laws.specs.Words.{Lengths}
use Rattle.laws.specs.Tables.{FormedMember, Formed, identifiers_fit}

-- A number and its bytes

number_append : (a : ℕ) (l m : List ℕ) → number_from a (l ++ m) ≡ number_from (number_from a l) m
number_append a [] m = refl
number_append a (b ∷ l) m = number_append (a * 256 + b) l m

-- the bytes of a number say it, where it is small enough
pub bytes_say : (k n : ℕ) → n < 256 ^ k → number_from 0 (bytes_of k n) ≡ n
bytes_say zero n h = omega arith
bytes_say (suc k) n h =
    let p = pow-suc 256 k in
    number_append 0 (bytes_of k (n / 256)) (n % 256 ∷ []) ∙ omega (arith, bytes_say k (n / 256) (omega arith))

-- each is a byte
abbrev pub Bytes : List ℕ → Type 0
Bytes bs = (i : ℕ) → get_or bs i 0 < 256

pub bytes_drop : (n : ℕ) (bs : List ℕ) → Bytes bs → Bytes (drop n bs)
bytes_drop n bs h i = rw get_or-drop (h (n + i))

pub bytes_take : (n : ℕ) (bs : List ℕ) → Bytes bs → Bytes (take n bs)
bytes_take zero bs h i = omega arith
bytes_take (suc n) [] h i = omega arith
bytes_take (suc n) (b ∷ bs) h zero = h 0
bytes_take (suc n) (b ∷ bs) h (suc i) = bytes_take n bs (λ j. h (suc j)) i

said_after : (j a n : ℕ) (bs : List ℕ) → Bytes bs → j + length bs ≡ n → bytes_of n (number_from a bs) ≡ bytes_of j a ++ bs
said_after j a n [] h e = let q : n ≡ j = omega arith in rw (q, append-nil)
said_after j a n (b ∷ bs) h e =
    let high : (a * 256 + b) / 256 ≡ a = omega (arith, h 0) in
    let low : (a * 256 + b) % 256 ≡ b = omega (arith, h 0) in
    said_after (suc j) (a * 256 + b) n bs (λ i. h (suc i)) (omega arith) ∙ rw (high, low) (append_assoc (bytes_of j a) (b ∷ []) bs)

-- bytes are those of the number that they say
pub said_bytes : (k : ℕ) (bs : List ℕ) → Bytes bs → length bs ≡ k → bytes_of k (number_from 0 bs) ≡ bs
said_bytes k bs h e = said_after 0 0 k bs h (omega arith)

-- and k of them at a position
pub said_at : (k at : ℕ) (bs : List ℕ) → Bytes bs → at + k ≤ length bs → bytes_of k (number_at bs at k) ≡ take k (drop at bs)
said_at k at bs h e = said_bytes k (take k (drop at bs)) (bytes_take k (drop at bs) (bytes_drop at bs h)) (length-take-le k (drop at bs) (rw length-drop (omega arith)))

below_from : (a w : ℕ) (bs : List ℕ) → Bytes bs → a < w → number_from a bs < w * 256 ^ length bs
below_from a w [] h l = omega arith
below_from a w (b ∷ bs) h l =
    rw (pow-succ' 256 (length bs), ← mul_assoc w 256 (256 ^ length bs)) (below_from (a * 256 + b) (w * 256) bs (λ i. h (suc i)) (omega (arith, h 0)))

-- the number that k bytes say is small
pub number_below : (k at : ℕ) (bs : List ℕ) → Bytes bs → at + k ≤ length bs → number_at bs at k < 256 ^ k
number_below k at bs h e =
    let part = take k (drop at bs) in
    let n : length part ≡ k = length-take-le k (drop at bs) (rw length-drop (omega arith)) in
    let b = below_from 0 1 part (bytes_take k (drop at bs) (bytes_drop at bs h)) (omega arith) in
    omega (arith, rw n at b)

-- a number that ends among the first n bytes
pub number_part : (at k n : ℕ) (bs : List ℕ) → at + k ≤ n → number_at (take n bs) at k ≡ number_at bs at k
number_part at k n bs h = ap (number_from 0) (part_of_part at k n bs h)

-- Numbers of four bytes each

pub words4_length : (l : List ℕ) → length (words4 l) ≡ 4 * length l
words4_length [] = omega arith
words4_length (x ∷ l) = omega (arith, words4_length l)

words4_append : (l k : List ℕ) → words4 (l ++ k) ≡ words4 l ++ words4 k
words4_append [] k = refl
words4_append (x ∷ l) k = ap (λ (bs : List ℕ). bytes_of 4 x ++ bs) (words4_append l k) ∙ sym (append_assoc (bytes_of 4 x) (words4 l) (words4 k))

pub numbers_length : (n : ℕ) (bs : List ℕ) → length (numbers_at n bs) ≡ n
numbers_length zero bs = refl
numbers_length (suc n) bs = ap suc (numbers_length n (drop 4 bs))

pub numbers_read : (l rest : List ℕ) → ((e : ℕ) → In e l → e < word_limit) → numbers_at (length l) (words4 l ++ rest) ≡ l
numbers_read [] rest h = refl
numbers_read (x ∷ l) rest h = ap₂ (λ (z : ℕ) (k : List ℕ). z ∷ k) (bytes_say 4 x (h x (here refl))) (numbers_read l rest (λ e i. h e (there i)))

pub numbers_written : (n : ℕ) (bs : List ℕ) → Bytes bs → 4 * n ≤ length bs → words4 (numbers_at n bs) ≡ take (4 * n) bs
numbers_written zero bs h e = refl
numbers_written (suc n) bs h e =
    let q : 4 * suc n ≡ 4 + 4 * n = omega arith in
    ap₂ (λ (a b : List ℕ). a ++ b) (said_at 4 0 bs h (omega arith)) (numbers_written n (drop 4 bs) (bytes_drop 4 bs h) (rw length-drop (omega arith))) ∙ rw q (sym (take-add 4 (4 * n) bs))

-- one more is the one after the others
numbers_last : (n : ℕ) (bs : List ℕ) → numbers_at n bs ++ (number_at bs (4 * n) 4 ∷ []) ≡ numbers_at (suc n) bs
numbers_last zero bs = refl
numbers_last (suc n) bs =
    let q : 4 * suc n ≡ 4 + 4 * n = omega arith in
    ap (λ (l : List ℕ). number_at bs 0 4 ∷ l) (ap (λ (k : ℕ). numbers_at n (drop 4 bs) ++ (number_at bs k 4 ∷ [])) q
    ∙ ap (λ (l : List ℕ). numbers_at n (drop 4 bs) ++ (number_from 0 (take 4 l) ∷ [])) (sym (drop-drop (4 * n) 4 bs)) ∙ numbers_last n (drop 4 bs))

numbers_part : (n k : ℕ) (bs : List ℕ) → 4 * n ≤ k → numbers_at n (take k bs) ≡ numbers_at n bs
numbers_part zero k bs h = refl
numbers_part (suc n) k bs h = ap₂ (λ (z : ℕ) (l : List ℕ). z ∷ l) (number_part 0 4 k bs (omega arith)) (ap (numbers_at n) (drop_take 4 k bs) ∙ numbers_part n (k - 4) (drop 4 bs) (omega arith))

-- A member and its field

-- the bytes of a member's field
abbrev pub field_size : ℕ → ℕ
field_size r = field_head + member_length r

pub contents_length : (r : ℕ) (m : Member) → length m.successors ≡ r → length (member_contents m) ≡ member_length r
contents_length r m e = omega (arith, words4_length (m.successors ++ (m.steps ∷ [])), length-append m.successors (m.steps ∷ []))

pub field_length : (r : ℕ) (m : Member) → length m.successors ≡ r → length (member_field m) ≡ field_size r
field_length r m e = omega (arith, contents_length r m e)

pub contents_read : (w r : ℕ) (m : Member) (rest : List ℕ) → w ≤ word_limit → FormedMember w r m → field_member r (member_contents m ++ rest) ≡ m
contents_read w r m rest h f = λ i. record {
  id = bytes_say 4 m.id (omega (arith, f.id_small)) i;
  predecessor = bytes_say 4 m.predecessor (omega (arith, f.predecessor_small)) i;
  pending = bytes_say 1 m.pending (omega (arith, f.pending_bit)) i;
  candidate = bytes_say 4 m.candidate (omega (arith, f.candidate_small)) i;
  successors = list i;
  steps = count i;
}
  where
    -- the bytes from the list on
    last : List ℕ
    last = bytes_of 4 m.steps ++ rest

    apart : words4 (m.successors ++ (m.steps ∷ [])) ++ rest ≡ words4 m.successors ++ last
    apart = ap (λ (l : List ℕ). l ++ rest) (words4_append m.successors (m.steps ∷ [])) ∙ append_assoc (words4 m.successors) (bytes_of 4 m.steps) rest

    list : numbers_at r (words4 (m.successors ++ (m.steps ∷ [])) ++ rest) ≡ m.successors
    list = ap (numbers_at r) apart ∙ ap (λ (k : ℕ). numbers_at k (words4 m.successors ++ last)) (sym f.list_length)
        ∙ numbers_read m.successors last (λ e i. omega (arith, f.entries_small e i))

    count : number_at (words4 (m.successors ++ (m.steps ∷ [])) ++ rest) (4 * r) 4 ≡ m.steps
    count = ap (λ (l : List ℕ). number_from 0 (take 4 l))
        (ap (drop (4 * r)) apart ∙ drop_at (words4 m.successors) last (4 * r) (omega (arith, words4_length m.successors, f.list_length))) ∙ bytes_say 4 m.steps f.steps_small

contents_part : (r k : ℕ) (bs : List ℕ) → member_length r ≤ k → field_member r (take k bs) ≡ field_member r bs
contents_part r k bs h = λ i. record {
  id = number_part 0 4 k bs (omega arith) i;
  predecessor = number_part 4 4 k bs (omega arith) i;
  pending = number_part 8 1 k bs (omega arith) i;
  candidate = number_part 9 4 k bs (omega arith) i;
  successors = list i;
  steps = count i;
}
  where
    list : numbers_at r (drop 13 (take k bs)) ≡ numbers_at r (drop 13 bs)
    list = ap (numbers_at r) (drop_take 13 k bs) ∙ numbers_part r (k - 13) (drop 13 bs) (omega arith)

    count : number_at (drop 13 (take k bs)) (4 * r) 4 ≡ number_at (drop 13 bs) (4 * r) 4
    count = ap (λ (l : List ℕ). number_at l (4 * r) 4) (drop_take 13 k bs) ∙ number_part (4 * r) 4 (k - 13) (drop 13 bs) (omega arith)

-- the part of its bytes says the same member
pub field_part : (r : ℕ) (bs : List ℕ) → field_member r (drop field_head (take (field_size r) bs)) ≡ field_member r (drop field_head bs)
field_part r bs = ap (field_member r) (drop_take field_head (field_size r) bs) ∙ contents_part r (field_size r - field_head) (drop field_head bs) (omega arith)

-- n elements from a place on, and the k after them
pub cut : (at n k : ℕ) (l a b : List ℕ) → a ≡ take n (drop at l) → b ≡ take k (drop (at + n) l) → a ++ b ≡ take (n + k) (drop at l)
cut at n k l a b p q = rw (p, q, ← drop-drop n at l) (sym (take-add n k (drop at l)))

pub contents_written : (r : ℕ) (bs : List ℕ) → Bytes bs → member_length r ≤ length bs → member_contents (field_member r bs) ≡ take (member_length r) bs
contents_written r bs h l =
    let list = ap words4 (numbers_last r (drop 13 bs)) ∙ numbers_written (suc r) (drop 13 bs) (bytes_drop 13 bs h) (rw length-drop (omega arith)) in
    let c9 = cut 9 4 (4 * suc r) bs (bytes_of 4 (number_at bs 9 4)) _ (said_at 4 9 bs h (omega arith)) list in
    let c8 = cut 8 1 (4 + 4 * suc r) bs (bytes_of 1 (number_at bs 8 1)) _ (said_at 1 8 bs h (omega arith)) c9 in
    let c4 = cut 4 4 (1 + (4 + 4 * suc r)) bs (bytes_of 4 (number_at bs 4 4)) _ (said_at 4 4 bs h (omega arith)) c8 in
    let c0 = cut 0 4 (4 + (1 + (4 + 4 * suc r))) bs (bytes_of 4 (number_at bs 0 4)) _ (said_at 4 0 bs h (omega arith)) c4 in
    let q : 4 + (4 + (1 + (4 + 4 * suc r))) ≡ member_length r = omega arith in
    c0 ∙ ap (λ (n : ℕ). take n bs) q

-- the words that a field's contents say after pending
pub words_said : (r : ℕ) (bs : List ℕ) → numbers_at (record_size r - 3) (drop 9 bs) ≡ drop 3 (record_of (field_member r bs))
words_said r bs = let q : record_size r - 3 ≡ suc (suc r) = omega arith in rw q (ap (λ (l : List ℕ). number_at bs 9 4 ∷ l) (ap (numbers_at (suc r)) (drop-drop 4 9 bs) ∙ sym (numbers_last r (drop 13 bs))))

-- Members and their fields

pub in_length : (r n : ℕ) (bs : List ℕ) → length (field_members r n bs) ≡ n
in_length r zero bs = refl
in_length r (suc n) bs = ap suc (in_length r n (drop (field_size r) bs))

pub in_lists : (r n : ℕ) (bs : List ℕ) → Lengths r (field_members r n bs)
in_lists r zero bs m i = absurd (in_nil i)
in_lists r (suc n) bs m i = ⊎_elim (λ e. ap (λ (k : Member). length k.successors) e ∙ numbers_length r (drop 13 (drop field_head bs))) (λ j. in_lists r n (drop (field_size r) bs) m j) (in_cons i)

pub fields_length : (r : ℕ) (ms : List Member) → Lengths r ms → length (member_fields ms) ≡ length ms * field_size r
fields_length r [] h = omega arith
fields_length r (m ∷ ms) h = rw (length-append (member_field m) (member_fields ms)) (omega (arith, field_length r m (h m (here refl)), fields_length r ms (λ k i. h k (there i))))

pub fields_read : (w r : ℕ) (ms : List Member) (rest : List ℕ) → w ≤ word_limit → ((m : Member) → In m ms → FormedMember w r m) → field_members r (length ms) (member_fields ms ++ rest) ≡ ms
fields_read w r [] rest k h = refl
fields_read w r (m ∷ ms) rest k h =
    let f = h m (here refl) in
    let later = member_fields ms ++ rest in
    let apart : (member_field m ++ member_fields ms) ++ rest ≡ member_field m ++ later = append_assoc (member_field m) (member_fields ms) rest in
    let others : drop (field_size r) (member_field m ++ later) ≡ later = drop_at (member_field m) later (field_size r) (field_length r m f.list_length) in
    ap (field_members r (suc (length ms))) apart ∙ ap₂ (λ (a : Member) (k : List Member). a ∷ k) (contents_read w r m later k f)
    (ap (field_members r (length ms)) others ∙ fields_read w r ms rest k (λ m i. h m (there i)))

-- A table and its image

-- the bytes of the first field say its contents, where its step count is 0
pub header_said : (bs : List ℕ) → Bytes bs → field_head + header_length ≤ length bs → number_at bs 6 4 ≡ 0
    → header_contents (table_in bs).r (length (table_in bs).members) ≡ take header_length (drop field_head bs)
header_said bs h l z =
    ap (header_contents (image_r bs)) (in_length (image_r bs) (image_count bs) (drop (field_head + header_length) bs))
    ∙ cut 3 1 6 bs _ _ (said_at 1 3 bs h (omega arith)) (cut 4 2 4 bs _ _ (said_at 2 4 bs h (omega arith)) (ap (bytes_of 4) (sym z) ∙ said_at 4 6 bs h (omega arith)))

pub image_length : (T : Table) → Lengths T.r T.members → length (image_of T) ≡ field_head + header_length + field_head + length T.members * field_size T.r
image_length T h = omega (arith, length-append (member_fields T.members) (field 3 []), fields_length T.r T.members h)

pub image_read : (T : Table) → Formed T → table_in (image_of T) ≡ T
image_read T f = λ i. record { r = same_r i; members = same_members i }
  where
    same_r : number_from 0 (bytes_of 1 T.r) ≡ T.r
    same_r = bytes_say 1 T.r (omega (arith, f.r_high))

    same_count : number_from 0 (bytes_of 2 (length T.members)) ≡ length T.members
    same_count = bytes_say 2 (length T.members) (omega (arith, f.count_high))

    same_members : (table_in (image_of T)).members ≡ T.members
    same_members = ap₂ (λ (r n : ℕ). field_members r n (member_fields T.members ++ field 3 [])) same_r same_count
        ∙ fields_read (space_of T) T.r T.members (field 3 []) (identifiers_fit T f) f.each
