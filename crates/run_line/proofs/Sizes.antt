-- How long what is printed for a line can be. Assumes nothing.
use Prim.Native.Nat.{ℕ, zero, suc, ◌+◌, ◌*◌, ◌/◌, ◌%◌, ◌≤◌, ◌<◌}
use mathlib.Core.Path.{◌≡◌, refl}
use mathlib.Core.Bool.{Bool, true, false}
use mathlib.Core.List.{List, [], ◌∷◌, ◌++◌}
use native.Mathlib.Omega.{arith}
use lib.Dec.{ltb, eqb}
use lib.ListN.{length, length-append}
use borrow.Author.Tests.{ltb-false}
use Rattle.std.specs.Prelude.{if◌then◌else◌}
use Rattle.model.specs.Answer.{Answer}
use Rattle.script.specs.declared.Word.{Word}
use Rattle.script.specs.declared.Word.TheVariants.{New, Join, Stab, Rect, Out, Drop, Find, Audit}
use Rattle.script.specs.Lines.{letters}
use Rattle.script.specs.Text.{digits_within, digits, numbers_text, step_text, notice_text, told_text, fields_text, answer_text, answered, unread}
use Rattle.put.proofs.Digits.{limit}
use Rattle.run_line.proofs.Short.{Short, told, refused}

-- digits
within : (k n : ℕ) → length (digits_within k n) ≤ k
within zero n = omega arith
within (suc k) n = go (ltb n 10) (within k (n / 10))
  where
    go : (b : Bool) → length (digits_within k (n / 10)) ≤ k → length (if b then (48 + n) ∷ [] else digits_within k (n / 10) ++ ((48 + n % 10) ∷ [])) ≤ suc k
    go true h = omega arith
    go false h = rw length-append (omega arith)

fewer : (f k n : ℕ) → n < limit (suc k) → length (digits_within f n) ≤ suc k
fewer zero k n h = omega arith
fewer (suc f) k n h = go (ltb n 10) refl k h (fewer f)
  where
    go : (b : Bool) → ltb n 10 ≡ b → (k : ℕ) → n < limit (suc k) → ((k n : ℕ) → n < limit (suc k) → length (digits_within f n) ≤ suc k)
        → length (if b then (48 + n) ∷ [] else digits_within f (n / 10) ++ ((48 + n % 10) ∷ [])) ≤ suc k
    go true e k l ih = omega arith
    go false e zero l ih = absurd (omega (arith, ltb-false n 10 e))
    go false e (suc k) l ih = rw length-append (omega (arith, ih k (n / 10) (omega arith)))

digits_ten : (n : ℕ) → length (digits n) ≤ 10
unfolding digits
digits_ten n = within 10 n

digits_five : (n : ℕ) → n ≤ 65536 → length (digits n) ≤ 5
unfolding digits
digits_five n h = fewer 10 4 n (omega arith)

-- fields
numbers_most : (vs : List ℕ) → length (numbers_text vs) ≤ 11 * length vs
numbers_most [] = omega arith
numbers_most (v ∷ vs) = rw length-append (omega (arith, digits_ten v, numbers_most vs))

told_most : (f : ℕ → List ℕ) → ((k : ℕ) → length (f k) ≤ 11) → (vs : List ℕ) → length (told_text f vs) ≤ 11 * length vs
told_most f h [] = omega arith
told_most f h (k ∷ vs) = rw length-append (omega (arith, h k, numbers_most vs))

step_most : (k : ℕ) → length (step_text k) ≤ 11
step_most k = go (eqb k 0) (eqb k 1)
  where
    go : (a b : Bool) → length {A = ℕ} (if a then 32 ∷ 97 ∷ 103 ∷ 97 ∷ 105 ∷ 110 ∷ [] else if b then 32 ∷ 108 ∷ 111 ∷ 111 ∷ 107 ∷ [] else 32 ∷ 100 ∷ 111 ∷ 110 ∷ 101 ∷ []) ≤ 11
    go true b = omega arith
    go false true = omega arith
    go false false = omega arith

notice_most : (k : ℕ) → length (notice_text k) ≤ 11
notice_most k = go (eqb k 1)
  where
    go : (a : Bool) → length {A = ℕ} (if a then 32 ∷ 110 ∷ 101 ∷ 119 ∷ [] else 32 ∷ 115 ∷ 97 ∷ 109 ∷ 101 ∷ []) ≤ 11
    go true = omega arith
    go false = omega arith

fields_most : (w : Word) (vs : List ℕ) → length (fields_text w vs) ≤ 11 * length vs
unfolding fields_text
fields_most New vs = numbers_most vs
fields_most Join vs = numbers_most vs
fields_most Stab vs = told_most step_text step_most vs
fields_most Rect vs = told_most notice_text notice_most vs
fields_most Out vs = numbers_most vs
fields_most Drop vs = numbers_most vs
fields_most Find vs = numbers_most vs
fields_most Audit vs = numbers_most vs

-- an answer: at most four values, and one where it is declined
answer_most : (w : Word) (a : Answer) → Short a → length (answer_text w a) ≤ 47
unfolding answer_text
answer_most w a (told vs h) = omega (arith, fields_most w vs)
answer_most w a (refused k vs h) = go (eqb k 0)
  where
    go : (b : Bool) → length (if b then (32 ∷ 111 ∷ 107 ∷ []) ++ fields_text w vs else (32 ∷ 110 ∷ 111 ∷ []) ++ numbers_text (k ∷ vs)) ≤ 47
    go true = omega (arith, fields_most w vs)
    go false = omega (arith, numbers_most (k ∷ vs))

letters_most : (w : Word) → length (letters w) ≤ 5
letters_most New = omega arith
letters_most Join = omega arith
letters_most Stab = omega arith
letters_most Rect = omega arith
letters_most Out = omega arith
letters_most Drop = omega arith
letters_most Find = omega arith
letters_most Audit = omega arith

-- a whole line
pub answered_most : (n : ℕ) (w : Word) (a : Answer) → n ≤ 65536 → Short a → length (answered n w a) ≤ 60
unfolding answered
answered_most n w a h s = simp length-append (omega (arith, digits_five n h, letters_most w, answer_most w a s))

pub unread_most : (n : ℕ) → n ≤ 65536 → length (unread n) ≤ 10
unfolding unread
unread_most n h = rw length-append (omega (arith, digits_five n h))
