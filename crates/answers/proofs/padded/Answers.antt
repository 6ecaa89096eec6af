-- `padded`: what the array is after the copy. Assumes nothing.
use Rattle.std.proofs.Common.{ℕ, ◌≡◌, ◌≤◌, refl, List, [], ◌∷◌, ◌++◌, length, drop, arith}
use Rattle.answers.specs.Packed.{padded}
use Rattle.answers.proofs.padded.Goals as goal

-- up to four values, and as many zeros as are left
copied : (vs : List ℕ) → length vs ≤ 4 → vs ++ drop (length vs) (0 ∷ 0 ∷ 0 ∷ 0 ∷ []) ≡ padded vs
copied [] h = refl
copied (a ∷ []) h = refl
copied (a ∷ b ∷ []) h = refl
copied (a ∷ b ∷ c ∷ []) h = refl
copied (a ∷ b ∷ c ∷ d ∷ []) h = refl
copied (a ∷ b ∷ c ∷ d ∷ e ∷ vs) h = absurd (omega arith)

pub returns : goal.returns
returns c = let h = copied c.args.vs.now c.requires in rw c.copy_from_slice.ensures.after h
