-- The word with given bytes. Assumes nothing.
use Rattle.std.proofs.Common.{◌≡◌, ℕ, suc, Bool, List, [], ◌∷◌, length, filter, ◌&&◌, true, false, if◌then◌else◌, Some, find, eqb, sym, ap, refl}
use Rattle.std.proofs.lemmas.Bool.{eqb-false}
use Rattle.std.proofs.Math.Option.{some}
use Rattle.std.specs.Str.{bytes_eq}
use Rattle.model.specs.Lists.{same}
use Rattle.script.specs.Lines.{letters, word_among}
use Rattle.script.specs.declared.Word.{Word}
use Rattle.part.specs.Part.{maybe_word}

same_bytes : (a b : List ℕ) → bytes_eq a b ≡ same a b
same_bytes [] [] = refl
same_bytes [] (y ∷ b) = refl
same_bytes (x ∷ a) [] = refl
same_bytes (x ∷ a) (y ∷ b) = ap (λ t. eqb x y && t) (same_bytes a b)

pub word_found : (p : List ℕ) (ws : List Word) → find (λ w. bytes_eq p (letters w)) ws ≡ maybe_word (word_among ws p)
word_found p [] = refl
word_found p (w ∷ ws) =
    rw (same_bytes p (letters w), word_found p ws) (
    elim (same p (letters w)) as (λ t. (if t then Some w else maybe_word (word_among ws p)) ≡ maybe_word (if t then some w else word_among ws p)) [ true ↦ refl | false ↦ refl ]
    )

-- lists of different lengths are not the same
unlike : (a b : List ℕ) → (length a ≡ length b → ⊥) → same a b ≡ false
unlike [] [] h = absurd (h refl)
unlike [] (y ∷ b) h = refl
unlike (x ∷ a) [] h = refl
unlike (x ∷ a) (y ∷ b) h = rw (unlike a b (λ e. h (ap suc e))) (elim (eqb x y) as (λ t. (t && false) ≡ false) [ true ↦ refl | false ↦ refl ])

-- a part is no word of another length: so it is looked for among those of its own
pub of_its_length : (p : List ℕ) (ws : List Word) → word_among (filter (λ w. eqb (length (letters w)) (length p)) ws) p ≡ word_among ws p
of_its_length p [] = refl
of_its_length p (w ∷ ws) = go (filter (λ v. eqb (length (letters v)) (length p)) ws) (of_its_length p ws) (eqb (length (letters w)) (length p)) refl
  where
    go : (vs : List Word) → word_among vs p ≡ word_among ws p → (b : Bool) → eqb (length (letters w)) (length p) ≡ b
        → word_among (if b then w ∷ vs else vs) p ≡ (if same p (letters w) then some w else word_among ws p)
    go vs h true e = rw h refl
    go vs h false e = rw (unlike p (letters w) (λ q. eqb-false (length (letters w)) (length p) e (sym q))) h
