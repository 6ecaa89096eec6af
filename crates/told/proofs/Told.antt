-- The fields of an accepted call, word by word. Assumes nothing.
use Rattle.std.proofs.Common.{◌≡◌, ℕ, List, [], ◌∷◌, length, refl, arith}
use Rattle.script.specs.Text.{numbers_text, fields_text}
use Rattle.script.specs.declared.Word.{Word}
use Rattle.script.specs.declared.Word.TheVariants.{New, Join, Stab, Rect, Out, Drop, Find, Audit}

pub no_fields : (w : Word) (vs : List ℕ) → length vs ≡ 0 → [] ≡ fields_text w vs
unfolding fields_text
no_fields New [] h = refl
no_fields Join [] h = refl
no_fields Stab [] h = refl
no_fields Rect [] h = refl
no_fields Out [] h = refl
no_fields Drop [] h = refl
no_fields Find [] h = refl
no_fields Audit [] h = refl
no_fields w (v ∷ vs) h = absurd (omega arith)

pub plain_fields : (w : Word) (vs : List ℕ) → (w ≡ Stab → ⊥) → (w ≡ Rect → ⊥) → numbers_text vs ≡ fields_text w vs
unfolding fields_text
plain_fields New vs a b = refl
plain_fields Join vs a b = refl
plain_fields Stab vs a b = absurd (a refl)
plain_fields Rect vs a b = absurd (b refl)
plain_fields Out vs a b = refl
plain_fields Drop vs a b = refl
plain_fields Find vs a b = refl
plain_fields Audit vs a b = refl
