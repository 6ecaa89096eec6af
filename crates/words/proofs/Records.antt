-- One record's words: how many records take, and what the writer reaches. Assumes nothing.
use Prim.Native.Nat.{ℕ, suc, ◌+◌, ◌*◌, ◌≤◌, ◌<◌}
use mathlib.Core.Path.{◌≡◌, sym, ap, ◌∙◌}
use mathlib.Core.List.{List, [], ◌∷◌, ◌++◌, append_assoc}
use native.Mathlib.Nat.{mul-le-mul_right, le_trans, add_comm}
use native.Mathlib.Numerals.{add-one, add-four, add_five}
use native.Mathlib.Omega.{arith}
use borrow.Rule.Slice.PartMut.{put_mid}
use lib.ListN.{length, get_or, take, drop, set}
use lib.Seq.{take-suc, take-suc-set, drop-cons, length-take-le, set_at, append_snoc, paste}
use Rattle.model.specs.Table.{record_size}

-- 256 records with lists of 8 are the most
pub most_words : (n r : ℕ) → n ≤ 256 → r ≤ 8 → n * record_size r ≤ 256 * record_size 8
most_words n r hn hr = le_trans (mul-le-mul_right (record_size r) hn) (omega arith)

-- an array filled from a list: one entry more is copied
pub copied_more : (i : ℕ) (l s : List ℕ) (v : ℕ) → i < length l → i < length s → take i l ≡ take i s → v ≡ get_or s i 0 → take (i + 1) (set l i v) ≡ take (i + 1) s
copied_more i l s v hl hs e q = rw (add-one, take-suc-set l i v hl, take-suc s i 0 hs, e, q)

-- `write_member`: four words stored, r entries, and the step count after them
pub record_written : (a b c d e : ℕ) (l s z : List ℕ) (r k : ℕ) → length s ≡ 8 → (r ≤ 8) × (record_size r ≤ length l) → z ≡ take r s → k ≡ r
    → set (put_mid 4 k (set (set (set (set l 0 a) 1 b) 2 c) 3 d) z) (4 + r) e ≡ (a ∷ b ∷ c ∷ d ∷ (take r s ++ (e ∷ []))) ++ drop (record_size r) l
record_written a b c d e [] s z r k n h = absurd (omega arith)
record_written a b c d e (_ ∷ []) s z r k n h = absurd (omega arith)
record_written a b c d e (_ ∷ _ ∷ []) s z r k n h = absurd (omega arith)
record_written a b c d e (_ ∷ _ ∷ _ ∷ []) s z r k n h = absurd (omega arith)
record_written a b c d e (x ∷ y ∷ u ∷ v ∷ l) s z r k n h = λ p q.
    let o : length (a ∷ b ∷ c ∷ d ∷ take r s) ≡ 4 + r = omega (arith, length-take-le r s) in
    let f : r < length l = omega arith in
    rw (p, q, add_five, drop-cons l r 0, set_at (a ∷ b ∷ c ∷ d ∷ take r s) (get_or l r 0) (drop (suc r) l) e (4 + r) o, append_snoc (take r s) e (drop (suc r) l))

-- the same, of entries copied one by one from a list of any length: four words stored, and then r entries
entries_written : (a b c d : ℕ) (l s : List ℕ) (r : ℕ) → 4 ≤ length l → paste (set (set (set (set l 0 a) 1 b) 2 c) 3 d) 4 s r ≡ (a ∷ b ∷ c ∷ d ∷ take r s) ++ drop (4 + r) l
entries_written a b c d [] s r h = absurd (omega arith)
entries_written a b c d (x ∷ []) s r h = absurd (omega arith)
entries_written a b c d (x ∷ y ∷ []) s r h = absurd (omega arith)
entries_written a b c d (x ∷ y ∷ z ∷ []) s r h = absurd (omega arith)
entries_written a b c d (x ∷ y ∷ z ∷ u ∷ l) s r h = rw (add_comm 4 r, add-four)

-- and then the step count stored after them
pub count_written : (a b c d e : ℕ) (l s : List ℕ) (r : ℕ) → r ≤ length s → record_size r ≤ length l
    → set (paste (set (set (set (set l 0 a) 1 b) 2 c) 3 d) 4 s r) (4 + r) e ≡ (a ∷ b ∷ c ∷ d ∷ (take r s ++ (e ∷ []))) ++ drop (record_size r) l
count_written a b c d e l s r hs hl =
    let p : List ℕ = a ∷ b ∷ c ∷ d ∷ take r s in
    let n : length p ≡ 4 + r = omega (arith, length-take-le r s hs) in
    let q : suc (4 + r) ≡ record_size r = omega arith in
    ap (λ (k : List ℕ). set k (4 + r) e) (entries_written a b c d l s r (omega arith) ∙ ap (λ (k : List ℕ). p ++ k) (drop-cons l (4 + r) 0 (omega arith)))
    ∙ set_at p (get_or l (4 + r) 0) (drop (suc (4 + r)) l) e (4 + r) n
    ∙ sym (append_assoc p (e ∷ []) (drop (suc (4 + r)) l))
    ∙ ap (λ (k : ℕ). (p ++ (e ∷ [])) ++ drop k l) q
