-- What a stabilize step answers: document 01's values for each case.
use Rattle.std.specs.Prelude.{ℕ, zero, suc, ◌≡◌, refl, List, [], ◌∷◌, get_or}
use Rattle.std.proofs.Common.{Result}
use Rattle.model.specs.Answer.{Answer}
use Rattle.answers.specs.ReadBack.{OneToOne, read_back_one_to_one}
use Rattle.answers.specs.Answered.{answered}
use Rattle.answers.specs.Refusal.{refused}
use Rattle.answers.specs.declared.refusal.Refusal.{Refusal}
use Rattle.answers.specs.declared.step.Step.{Step}
use Rattle.answers.specs.declared.step.Step.TheVariants.{Again, Look, Done}

abbrev pub values_of : Step → List ℕ
values_of Again = 0 ∷ []
values_of (Look c) = 1 ∷ c ∷ []
values_of (Done h) = 2 ∷ h ∷ []

-- the reply that values are
abbrev of_values : List ℕ → Step
of_values [] = Again
of_values (zero ∷ vs) = Again
of_values (suc zero ∷ vs) = Look (get_or vs 0 0)
of_values (suc (suc j) ∷ vs) = Done (get_or vs 0 0)

pub values_one_to_one : OneToOne values_of
values_one_to_one = read_back_one_to_one of_values back
  where
    back : (a : Step) → of_values (values_of a) ≡ a
    back Again = refl
    back (Look c) = refl
    back (Done h) = refl

abbrev pub answer_of : Result Step Refusal → Answer
answer_of a = answered values_of refused a
