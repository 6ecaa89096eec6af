-- Document 01, "The rehearsal program": the text of an answer.
use Rattle.std.specs.Prelude.{ℕ, zero, suc, ◌+◌, ◌/◌, ◌%◌, List, [], ◌∷◌, ◌++◌, ltb, eqb, if◌then◌else◌}
use Rattle.model.specs.Answer.{Answer}
use Rattle.script.specs.declared.Word.{Word}
use Rattle.script.specs.declared.Word.TheVariants.{New, Join, Stab, Rect, Out, Drop, Find, Audit}
use Rattle.script.specs.Lines.{letters}

-- the base-ten digits of a number that has at most k
abbrev pub digits_within : ℕ → ℕ → List ℕ
digits_within zero n = []
digits_within (suc k) n = if ltb n 10 then (48 + n) ∷ [] else digits_within k (n / 10) ++ ((48 + n % 10) ∷ [])

-- the digits of a 32-bit number: at most 10
unfoldable pub digits : ℕ → List ℕ
digits n = digits_within 10 n

-- numbers, each after a space
abbrev pub numbers_text : List ℕ → List ℕ
numbers_text [] = []
numbers_text (v ∷ vs) = 32 ∷ digits v ++ numbers_text vs

-- stabilize's reply: again, look, done
abbrev pub step_text : ℕ → List ℕ
step_text k =
    if eqb k 0 then 32 ∷ 97 ∷ 103 ∷ 97 ∷ 105 ∷ 110 ∷ []
    else if eqb k 1 then 32 ∷ 108 ∷ 111 ∷ 111 ∷ 107 ∷ []
    else 32 ∷ 100 ∷ 111 ∷ 110 ∷ 101 ∷ []

-- rectify's reply: new, same
abbrev pub notice_text : ℕ → List ℕ
notice_text k =
    if eqb k 1 then 32 ∷ 110 ∷ 101 ∷ 119 ∷ []
    else 32 ∷ 115 ∷ 97 ∷ 109 ∷ 101 ∷ []

-- values of which the first is told by a word
abbrev pub told_text : (ℕ → List ℕ) → List ℕ → List ℕ
told_text f [] = []
told_text f (k ∷ vs) = f k ++ numbers_text vs

-- the fields of an accepted call
unfoldable pub fields_text : Word → List ℕ → List ℕ
fields_text New vs = numbers_text vs
fields_text Join vs = numbers_text vs
fields_text Stab vs = told_text step_text vs
fields_text Rect vs = told_text notice_text vs
fields_text Out vs = numbers_text vs
fields_text Drop vs = numbers_text vs
fields_text Find vs = numbers_text vs
fields_text Audit vs = numbers_text vs

-- `ok` and fields, or `no` and the number (and member for 8)
unfoldable pub answer_text : Word → Answer → List ℕ
answer_text w a =
    if eqb a.number 0 then (32 ∷ 111 ∷ 107 ∷ []) ++ fields_text w a.values
    else (32 ∷ 110 ∷ 111 ∷ []) ++ numbers_text (a.number ∷ a.values)

-- the line of an answer to the word w: line number, the word, the answer
unfoldable pub answered : ℕ → Word → Answer → List ℕ
answered n w a = digits n ++ ((32 ∷ letters w) ++ (answer_text w a ++ (10 ∷ [])))

-- the line of an unreadable line: its number and `bad`
unfoldable pub unread : ℕ → List ℕ
unread n = digits n ++ (32 ∷ 98 ∷ 97 ∷ 100 ∷ 10 ∷ [])
