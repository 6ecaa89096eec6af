-- The first byte c. Assumes nothing.
use Rattle.std.proofs.Common.{◌≡◌, ℕ, ◌≤◌, List, [], ◌∷◌, ◌==◌, length, take, position, unwrap_or, sym, ◌∙◌, refl, arith}
use Rattle.std.proofs.lemmas.Grind.{common_steps}
use Rattle.std.proofs.lemmas.List.{length-take-le}
use Rattle.part.specs.Part.{reach}

reach_within : (c : ℕ) (l : List ℕ) → reach c l ≤ length l
reach_within c [] = omega arith
reach_within c (b ∷ l) = grind (arith, reach_within c l)

reach_found : (c : ℕ) (l : List ℕ) → unwrap_or (position (λ b. b == c) l) (length l) ≡ reach c l
reach_found c [] = refl
reach_found c (b ∷ l) = grind (arith, common_steps, reach_found c l)

-- the place, or the length where there is none
pub reached : (c : ℕ) (l : List ℕ) (r : ℕ) → r ≡ unwrap_or (position (λ b. b == c) l) (length l) → (r ≡ reach c l) × (r ≤ length l) × (r ≡ length (take r l))
reached c l r e =
    let h : r ≡ reach c l = e ∙ reach_found c l in
    let w : r ≤ length l = rw h (reach_within c l) in
    (h, w, sym (length-take-le r l w))
