-- An answer in numbers: what it is of an answer of the model, and that nothing of up to four values is lost.
use Rattle.std.specs.Prelude.{ℕ, ◌≤◌, ◌≡◌, refl, List, [], ◌∷◌, ◌++◌, length, take, replicate}
use Rattle.std.proofs.Common.{ap, ◌∙◌, arith}
use Rattle.model.specs.Answer.{Answer as AnswerOf}
use Rattle.answers.specs.declared.Answer.{Answer}

-- four values, the unused ones 0
abbrev pub padded : List ℕ → List ℕ
padded vs = take 4 (vs ++ replicate 4 0)

-- the number, the values in document 01's order, and how many they are
abbrev pub packed : AnswerOf → Answer
packed a = record { number = a.number; values = padded a.values; count = length a.values }

-- the answer that numbers say: so many values
abbrev pub unpacked : Answer → AnswerOf
unpacked a = record { number = a.number; values = take a.count a.values }

-- the numbers say an answer, whole
pub record Says (n : Answer) (a : AnswerOf) : Type 0 where
  pub packs : n ≡ packed a
  pub few : length a.values ≤ 4

-- what numbers say is read back from them
pub says_whole : (n : Answer) (a : AnswerOf) → Says n a → unpacked n ≡ a
says_whole n a s = ap unpacked s.packs ∙ ap (λ (vs : List ℕ). record { number = a.number; values = vs }) (back a.values s.few)
  where
    -- up to four values are read back
    back : (vs : List ℕ) → length vs ≤ 4 → take (length vs) (padded vs) ≡ vs
    back [] h = refl
    back (a ∷ []) h = refl
    back (a ∷ b ∷ []) h = refl
    back (a ∷ b ∷ c ∷ []) h = refl
    back (a ∷ b ∷ c ∷ d ∷ []) h = refl
    back (a ∷ b ∷ c ∷ d ∷ e ∷ vs) h = absurd (omega arith)
