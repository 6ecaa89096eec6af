-- The digits of a number, from the last on. Assumes nothing.
use Prim.Native.Nat.{ℕ, zero, suc, ◌+◌, ◌*◌, ◌-◌, ◌/◌, ◌%◌, ◌≤◌, ◌<◌}
use mathlib.Core.Path.{◌≡◌, sym, ◌∙◌}
use mathlib.Core.List.{List, [], ◌∷◌, ◌++◌, append_assoc, append-nil}
use native.Mathlib.Omega.{arith}
use lib.ListN.{length, take, drop, set, length-drop, length-set, drop_of_length-le}
use lib.Seq.{take_all, drop-cons, drop-set-lt, get_or-set_same}
use borrow.Author.Tests.{lt-ltb, le-ltb}
use Rattle.script.specs.Text.{digits, digits_within}

-- numbers of at most k digits are below this
abbrev pub limit : ℕ → ℕ
limit zero = 1
limit (suc k) = 10 * limit k

-- the digits so far stand in a, after place i; those of v are still to be written
pub record Left (n : ℕ) (a : List ℕ) (i v : ℕ) : Type 0 where
  pub ten : length a ≡ 10
  pub within : i ≤ 9
  pub small : v < limit (suc i)
  pub whole : digits_within (suc i) v ++ drop (suc i) a ≡ digits n

stored : (a : List ℕ) (i x : ℕ) → i < length a → drop i (set a i x) ≡ x ∷ drop (suc i) a
stored a i x h = drop-cons (set a i x) i 0 (rw length-set h) ∙ rw (get_or-set_same a i x 0 h, drop-set-lt (suc i) a i x (omega arith))

pub begins : (n : ℕ) (a : List ℕ) → length a ≡ 10 → n < 4294967296 → Left n a 9 n
unfolding digits
begins n a e h = record {
  ten = e;
  within = omega arith;
  small = omega arith;
  whole = rw (drop_of_length-le a {i = 10} (omega arith), append-nil);
}

pub digit_more : (n : ℕ) (a : List ℕ) (i v : ℕ) → 9 < v → Left n a i v → (1 ≤ i) × Left n (set a i (48 + v % 10)) (i - 1) (v / 10)
digit_more n a zero v h l = absurd (omega (arith, l.small))
digit_more n a (suc j) v h l =
    let e : suc j - 1 ≡ j = omega arith in
    rw e (
      omega arith,
      record {
        ten = rw length-set l.ten;
        within = omega (arith, l.within);
        small = omega (arith, l.small);
        whole = rw (stored a (suc j) (48 + v % 10) (omega (arith, l.ten, l.within)))
            (sym (append_assoc (digits_within (suc j) (v / 10)) ((48 + v % 10) ∷ []) (drop (suc (suc j)) a)) ∙ (rw (le-ltb v 10 h) at l.whole));
      },
    )

digit_last : (n : ℕ) (a : List ℕ) (i v : ℕ) → v ≤ 9 → Left n a i v → drop i (set a i (48 + v)) ≡ digits n
digit_last n a i v h l = stored a i (48 + v) (omega (arith, l.ten, l.within)) ∙ (rw (lt-ltb v 10 (omega arith)) at l.whole)

-- the part of the array that is written
pub digit_part : (n : ℕ) (a : List ℕ) (i v : ℕ) → v ≤ 9 → Left n a i v → take (10 - i) (drop i (set a i (48 + v))) ≡ digits n
digit_part n a i v h l = take_all (10 - i) (drop i (set a i (48 + v))) (simp (length-drop, length-set) (omega (arith, l.ten))) ∙ digit_last n a i v h l
