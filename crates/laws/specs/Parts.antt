-- Parts of a word list, and records one after the other in it: what a loop over records cites. Assumes nothing.
use Rattle.std.specs.Prelude.{ℕ, zero, suc, ◌+◌, ◌*◌, ◌-◌, ◌≤◌, ◌<◌, ◌≡◌, List, [], ◌∷◌, ◌++◌, length, get_or, take, drop}
use Rattle.std.proofs.Common.{sym, ◌∙◌, append-nil, arith, suc-mul, length-drop, drop_of_length-le, take_all, take-suc, take-take, get_or-take, get_or-drop}
use Rattle.std.proofs.Math.Seq.{take-nil}
use Rattle.model.specs.Table.{record_size, member_of, members_of}
use Rattle.model.specs.Ring.{successor}

-- the part from a on is the list without its first a elements
pub part_from : {A : Type 0} (a : ℕ) (l : List A) → take (length l - a) (drop a l) ≡ drop a l
part_from a l = take_all (length l - a) (drop a l) (simp length-drop (omega arith))

-- a lent tail that came back
pub tail_back : {A : Type 0} (at : ℕ) (l k : List A) → take at l ++ (k ++ drop (length l - at) (drop at l)) ≡ take at l ++ k
tail_back at l k =
    let n : length (drop at l) ≤ length l - at = simp length-drop (omega arith) in
    rw (drop_of_length-le (drop at l) n, append-nil k)

module _ {A : Type 0} where
  -- the part from a on of the first n elements
  pub drop_take : (a n : ℕ) (l : List A) → drop a (take n l) ≡ take (n - a) (drop a l)
  drop_take zero n l = let q : n - 0 ≡ n = omega arith in rw q
  drop_take (suc a) zero l = let q : 0 - suc a ≡ 0 = omega arith in rw q
  drop_take (suc a) (suc n) [] = sym (take-nil (suc n - suc a))
  drop_take (suc a) (suc n) (x ∷ l) = let q : suc n - suc a ≡ n - a = omega arith in rw q (drop_take a n l)

  -- a part that ends among the first n elements
  pub part_of_part : (a k n : ℕ) (l : List A) → a + k ≤ n → take k (drop a (take n l)) ≡ take k (drop a l)
  part_of_part a k n l h = rw (drop_take a n l) (take-take k (n - a) (drop a l) (omega arith))

-- one of n things of w words, and the n - 1 others
pub one_of : (n w : ℕ) → 0 < n → n * w ≡ (n - 1) * w + w
one_of zero w h = absurd (omega arith)
one_of (suc n) w h = let e : suc n - 1 ≡ n = omega arith in rw e (suc-mul n w)

-- the first of n members, and the others
pub first_member : (r n : ℕ) (ws : List ℕ) → 0 < n → members_of r n ws ≡ member_of r ws ∷ members_of r (n - 1) (drop (record_size r) ws)
first_member r zero ws h = absurd (omega arith)
first_member r (suc n) ws h = let e : suc n - 1 ≡ n = omega arith in rw e

module _ (r n : ℕ) (ws : List ℕ) (some : 0 < n) (fits : n * record_size r ≤ length ws) where
  -- the first record is there
  pub one_fits : record_size r ≤ length ws
  one_fits = omega (arith, one_of n (record_size r) some)

  -- and the others after it
  pub rest_fits : (n - 1) * record_size r ≤ length (drop (record_size r) ws)
  rest_fits = simp length-drop (omega (arith, one_of n (record_size r) some))

-- the first entry of a record is its word 4
pub successor_word : (r : ℕ) (ws : List ℕ) → 1 ≤ r → successor (member_of r ws) ≡ get_or ws 4 0
successor_word r ws h = get_or-take r (drop 4 ws) 0 0 h ∙ get_or-drop 4 ws 0 0

-- the first eight elements of a list
abbrev pub eight : List ℕ → List ℕ
eight ys = get_or ys 0 0 ∷ get_or ys 1 0 ∷ get_or ys 2 0 ∷ get_or ys 3 0 ∷ get_or ys 4 0 ∷ get_or ys 5 0 ∷ get_or ys 6 0 ∷ get_or ys 7 0 ∷ []

pub take_eight : (ys : List ℕ) → 8 ≤ length ys → take 8 ys ≡ eight ys
take_eight ys h = rw (
  take-suc ys 7 0 (omega arith),
  take-suc ys 6 0 (omega arith),
  take-suc ys 5 0 (omega arith),
  take-suc ys 4 0 (omega arith),
  take-suc ys 3 0 (omega arith),
  take-suc ys 2 0 (omega arith),
  take-suc ys 1 0 (omega arith),
  take-suc ys 0 0 (omega arith),
)
