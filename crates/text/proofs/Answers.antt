-- The text of an answer, by the test that leads to it. Assumes nothing.
use mathlib.Core.Path.{◌≡◌}
use mathlib.Core.List.{[], ◌∷◌, ◌++◌}
use lib.ListN.{take}
use borrow.Author.Tests.{ne_eqb}
use Rattle.answers.specs.declared.Answer.{Answer}
use Rattle.answers.specs.Packed.{unpacked}
use Rattle.script.specs.Text.{numbers_text, fields_text, answer_text}
use Rattle.script.specs.declared.Word.{Word}

module _ (w : Word) (a : Answer) where
  pub answer_ok : a.number ≡ 0 → (32 ∷ 111 ∷ 107 ∷ []) ++ fields_text w (take a.count a.values) ≡ answer_text w (unpacked a)
  unfolding answer_text
  answer_ok h = rw h

  pub answer_no : (a.number ≡ 0 → ⊥) → (32 ∷ 110 ∷ 111 ∷ []) ++ numbers_text (a.number ∷ take a.count a.values) ≡ answer_text w (unpacked a)
  unfolding answer_text
  answer_no h = rw (ne_eqb a.number 0 h)
