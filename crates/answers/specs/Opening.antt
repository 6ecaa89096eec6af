-- What the question for the next open minute answers: document 02's values for each case.
use Rattle.std.specs.Prelude.{ℕ, zero, suc, ◌≡◌, refl, List, [], ◌∷◌, get_or, Some, None}
use Rattle.std.proofs.Common.{Result}
use Rattle.model.specs.Answer.{Answer}
use Rattle.answers.specs.ReadBack.{OneToOne, read_back_one_to_one}
use Rattle.answers.specs.Answered.{answered}
use Rattle.answers.specs.Refusal.{refused}
use Rattle.answers.specs.declared.refusal.Refusal.{Refusal}
use Rattle.std.proofs.Common.{Option}

abbrev pub values_of : Option ℕ → List ℕ
values_of (Some m) = 1 ∷ m ∷ []
values_of None = 0 ∷ []

-- the reply that values are
abbrev of_values : List ℕ → Option ℕ
of_values [] = None
of_values (zero ∷ vs) = None
of_values (suc j ∷ vs) = Some (get_or vs 0 0)

pub values_one_to_one : OneToOne values_of
values_one_to_one = read_back_one_to_one of_values back
  where
    back : (a : Option ℕ) → of_values (values_of a) ≡ a
    back (Some m) = refl
    back None = refl

abbrev pub answer_of : Result (Option ℕ) Refusal → Answer
answer_of a = answered values_of refused a
