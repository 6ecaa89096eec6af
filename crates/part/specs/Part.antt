-- What a part of a line is, by the definitions of a session.
use Rattle.std.specs.Prelude.{ℕ, suc, List, [], ◌∷◌, length, filter, eqb, if◌then◌else◌, Option as Answer, Some, None}
use Rattle.std.proofs.Math.Option.{Option, some, none}
use Rattle.script.specs.Lines.{letters, value, is_number}
use Rattle.script.specs.declared.Word.{Word}
use Rattle.script.specs.declared.Word.TheVariants.{New, Join, Stab, Rect, Out, Drop, Find, Audit}

-- the place of the first byte c, or the length where there is none
abbrev pub reach : ℕ → List ℕ → ℕ
reach c [] = 0
reach c (b ∷ l) = if eqb b c then 0 else suc (reach c l)

-- the words with so many letters
abbrev pub words_of_length : ℕ → List Word
words_of_length n = filter (λ w. eqb (length (letters w)) n) (New ∷ Join ∷ Stab ∷ Rect ∷ Out ∷ Drop ∷ Find ∷ Audit ∷ [])

-- the word found, if any
abbrev pub maybe_word : Option Word → Answer Word
maybe_word none = None
maybe_word (some w) = Some w

-- the number that a part is
unfoldable pub number_of : List ℕ → Answer ℕ
number_of p = if is_number p then Some (value p) else None
