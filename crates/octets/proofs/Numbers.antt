-- Numbers read byte by byte, and the words that bytes say, one at a time. Assumes nothing.
use Prim.Native.Nat.{ℕ, suc, ◌+◌, ◌*◌, ◌≤◌, ◌<◌}
use mathlib.Core.Path.{◌≡◌, ap, ◌∙◌}
use mathlib.Core.List.{List, [], ◌∷◌}
use native.Mathlib.Numerals.{add-one}
use native.Mathlib.Omega.{arith}
use lib.ListN.{length, get_or, take, drop, length-drop}
use lib.Seq.{drop-cons, drop-drop}
use Rattle.model.specs.Image.{number_from, number_at}

pub byte_at : (bs : List ℕ) (at : ℕ) → at < length bs → number_at bs at 1 ≡ get_or bs at 0
byte_at bs at h = ap (λ (l : List ℕ). number_from 0 (take 1 l)) (drop-cons bs at 0 h) ∙ omega arith

pub two_at : (bs : List ℕ) (at : ℕ) → at + 2 ≤ length bs → number_at bs at 2 ≡ get_or bs at 0 * 256 + get_or bs (at + 1) 0
two_at bs at h =
    ap (λ (l : List ℕ). number_from 0 (take 2 l)) (drop-cons bs at 0 (omega arith))
    ∙ ap (λ (l : List ℕ). number_from (0 * 256 + get_or bs at 0) (take 1 l)) (drop-cons bs (suc at) 0 (omega arith))
    ∙ rw (add-one at) (omega arith)

four : (l : List ℕ) → 4 ≤ length l → number_at l 0 4 ≡ number_at l 0 2 * 65536 + number_at l 2 2
four [] h = absurd (omega arith)
four (a ∷ []) h = absurd (omega arith)
four (a ∷ b ∷ []) h = absurd (omega arith)
four (a ∷ b ∷ c ∷ []) h = absurd (omega arith)
four (a ∷ b ∷ c ∷ d ∷ l) h = omega arith

pub four_at : (bs : List ℕ) (at : ℕ) → at + 4 ≤ length bs → number_at bs at 4 ≡ number_at bs at 2 * 65536 + number_at bs (at + 2) 2
four_at bs at h = rw (← drop-drop 2 at bs) (four (drop at bs) (rw length-drop (omega arith)))
