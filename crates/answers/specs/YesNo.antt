-- A question answered by yes or no: document 02's values, 1 or 0.
use Rattle.std.specs.Prelude.{ℕ, zero, suc, ◌≡◌, refl, Bool, true, false, List, [], ◌∷◌}
use Rattle.std.proofs.Common.{Result}
use Rattle.model.specs.Answer.{Answer}
use Rattle.answers.specs.ReadBack.{OneToOne, read_back_one_to_one}
use Rattle.answers.specs.Answered.{answered}
use Rattle.answers.specs.Refusal.{refused}
use Rattle.answers.specs.declared.refusal.Refusal.{Refusal}

abbrev pub values_of : Bool → List ℕ
values_of true = 1 ∷ []
values_of false = 0 ∷ []

-- the reply that values are
abbrev of_values : List ℕ → Bool
of_values [] = false
of_values (zero ∷ vs) = false
of_values (suc j ∷ vs) = true

pub values_one_to_one : OneToOne values_of
values_one_to_one = read_back_one_to_one of_values back
  where
    back : (a : Bool) → of_values (values_of a) ≡ a
    back true = refl
    back false = refl

abbrev pub answer_of : Result Bool Refusal → Answer
answer_of a = answered values_of refused a
