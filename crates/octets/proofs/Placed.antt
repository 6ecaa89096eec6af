-- Runs of elements in their places: one run after the other is their sum in its place. Assumes nothing.
use Prim.Native.Nat.{ℕ, zero, suc, ◌+◌, ◌*◌, ◌-◌, ◌≤◌, ◌<◌}
use mathlib.Core.Path.{◌≡◌, refl, sym, ap, ◌∙◌}
use mathlib.Core.List.{List, [], ◌∷◌, ◌++◌, append-nil, append_assoc}
use native.Mathlib.Numerals.{add-one}
use native.Mathlib.Omega.{arith}
use native.Mathlib.Nat.{add-zero}
use lib.ListN.{length, get_or, set, take, drop, take-append-drop, length-append, length-drop}
use lib.Seq.{length-take-le, take_at, drop_at, drop-cons, drop-drop, sets-eq}
use Rattle.model.specs.Image.{bytes_of, number_at, words4, numbers_at}
use Rattle.octets.specs.Placed.{placed}

pub placed_none : (at : ℕ) (l : List ℕ) → placed at [] l ≡ l
placed_none at l = rw (add-zero at, append-nil) (take-append-drop at l)

module _ (at : ℕ) (v l : List ℕ) (fits : at + length v ≤ length l) where
  pub placed_length : length (placed at v l) ≡ length l
  placed_length = simp (length-append, length-drop, length-take-le at l (omega arith)) (omega arith)

-- b after a, which takes n places
pub placed_more : (at n : ℕ) (a b l : List ℕ) → at ≤ length l → length a ≡ n → placed (at + n) b (placed at a l) ≡ placed at (a ++ b) l
placed_more at n a b l h e =
    let front : List ℕ = take at l ++ a in
    let size : length front ≡ at + n = simp (length-append, length-take-le at l h) (omega arith) in
    let k : (at + length a) + length b ≡ at + length (a ++ b) = rw length-append (omega arith) in
    let rest : drop (at + n) (placed at a l) ≡ drop (at + length a) l = drop_at front (drop (at + length a) l) (at + n) size in
    let tail : drop ((at + n) + length b) (placed at a l) ≡ drop (at + length (a ++ b)) l =
    sym (drop-drop (length b) (at + n) (placed at a l)) ∙ ap (drop (length b)) rest ∙ drop-drop (length b) (at + length a) l
    ∙ ap (λ (j : ℕ). drop j l) k in
    rw (take_at front (drop (at + length a) l) (at + n) size, tail, append_assoc (take at l) a b)

-- the same where the lists have names
pub placed_then : (at n : ℕ) (a b l m k : List ℕ) → at ≤ length l → length a ≡ n → m ≡ placed at a l → k ≡ placed (at + n) b m → k ≡ placed at (a ++ b) l
placed_then at n a b l m k h e p q = q ∙ ap (placed (at + n) b) p ∙ placed_more at n a b l h e

-- a store is a run of one
pub placed_one : (at x : ℕ) (l : List ℕ) → at < length l → set l at x ≡ placed at (x ∷ []) l
placed_one at x l h = sets-eq (x ∷ []) l at (omega arith)

-- The loops: what is left after i iterations, placed after what was placed, is the whole

-- `put_words`: one word in its four bytes
pub word_turn : (at i : ℕ) (ws out : List ℕ) → i < length ws → at + 4 * i ≤ length out
    → placed (at + 4 * (i + 1)) (words4 (drop (i + 1) ws)) (placed (at + 4 * i) (bytes_of 4 (get_or ws i 0)) out) ≡ placed (at + 4 * i) (words4 (drop i ws)) out
word_turn at i ws out h l =
    let q : at + 4 * (i + 1) ≡ at + 4 * i + 4 = omega arith in
    rw (q, add-one i, drop-cons ws i 0 h) (placed_more (at + 4 * i) 4 (bytes_of 4 (get_or ws i 0)) (words4 (drop (suc i) ws)) out l refl)

-- `get_run`: one word of four bytes
pub number_turn : (at i n : ℕ) (bs t : List ℕ) → i < n → at + i < length t
    → placed (at + (i + 1)) (numbers_at (n - (i + 1)) (drop (4 * (i + 1)) bs)) (set t (at + i) (number_at bs (4 * i) 4))
    ≡ placed (at + i) (numbers_at (n - i) (drop (4 * i) bs)) t
number_turn at i n bs t h l =
    let o : at + (i + 1) ≡ at + i + 1 = omega arith in
    let k : n - i ≡ suc (n - (i + 1)) = omega arith in
    let b : 4 * (i + 1) ≡ 4 * i + 4 = omega arith in
    rw (o, k, b, ← drop-drop 4 (4 * i) bs, placed_one (at + i) (number_at bs (4 * i) 4) t l)
    (placed_more (at + i) 1 (number_at bs (4 * i) 4 ∷ []) (numbers_at (n - (i + 1)) (drop 4 (drop (4 * i) bs))) t (omega arith) refl)

-- `get_words`: k numbers and those after them
pub numbers_more : (k m n : ℕ) (bs : List ℕ) → k + m ≡ n → numbers_at k bs ++ numbers_at m (drop (4 * k) bs) ≡ numbers_at n bs
numbers_more zero m n bs e =
    let q : m ≡ n = omega arith in
    ap (λ (j : ℕ). numbers_at j bs) q
numbers_more (suc k) m zero bs e = absurd (omega arith)
numbers_more (suc k) m (suc n) bs e =
    let q : 4 * suc k ≡ 4 + 4 * k = omega arith in
    rw (q, ← drop-drop (4 * k) 4 bs) (ap (λ (l : List ℕ). number_at bs 0 4 ∷ l) (numbers_more k m n (drop 4 bs) (omega arith)))
