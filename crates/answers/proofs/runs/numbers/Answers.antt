-- `runs::numbers`: a refusal's values, if it has any, stand where those of runs do. Assumes nothing.
use Rattle.std.proofs.Common.{ℕ, ◌≡◌, ◌≤◌, ◌/◌, refl, List, [], ◌∷◌, length, get_or, arith}
use Rattle.model.specs.Answer.{Answer as AnswerOf}
use Rattle.answers.specs.Packed.{padded}
use Rattle.answers.specs.Runs.{packed}
use Rattle.answers.specs.declared.runs.RunsAnswer.{RunsAnswer}
use Rattle.answers.proofs.runs.numbers.Goals as goal

abbrev Told : RunsAnswer → RunsAnswer → Type 0
Told a b = a ≡ b

-- up to four values, padded or not, are told alike
told : (n : ℕ) (vs : List ℕ) → length vs ≤ 4 → let p = padded vs in
    Told (record { number = n; runs = length vs / 2; start = get_or p 0 0 ∷ get_or p 2 0 ∷ []; end = get_or p 1 0 ∷ get_or p 3 0 ∷ [] }) (packed (record { number = n; values = vs }))
told n [] h = refl
told n (a ∷ []) h = refl
told n (a ∷ b ∷ []) h = refl
told n (a ∷ b ∷ c ∷ []) h = refl
told n (a ∷ b ∷ c ∷ d ∷ []) h = refl
told n (a ∷ b ∷ c ∷ d ∷ e ∷ vs) h = absurd (omega arith)

pub returns-in-Err : goal.returns-in-Err
returns-in-Err g c = rw (c.in-Err.is, c.numbers-a.ensures.packs) (told _ _ c.numbers-a.ensures.few)
