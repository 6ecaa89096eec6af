-- How many: what join, loss, withdrawal, new, image reading and image writing answer, as documents 01 and 02 list it.
use Rattle.std.specs.Prelude.{ℕ, ◌≡◌, refl, List, [], ◌∷◌, get_or}
use Rattle.std.proofs.Common.{Result}
use Rattle.model.specs.Answer.{Answer}
use Rattle.answers.specs.ReadBack.{OneToOne, read_back_one_to_one}
use Rattle.answers.specs.Answered.{answered}
use Rattle.answers.specs.Refusal.{refused}
use Rattle.answers.specs.declared.refusal.Refusal.{Refusal}

abbrev pub values_of : ℕ → List ℕ
values_of n = n ∷ []

-- the reply that values are
abbrev of_values : List ℕ → ℕ
of_values vs = get_or vs 0 0

pub values_one_to_one : OneToOne values_of
values_one_to_one = read_back_one_to_one of_values back
  where
    back : (a : ℕ) → of_values (values_of a) ≡ a
    back n = refl

abbrev pub answer_of : Result ℕ Refusal → Answer
answer_of a = answered values_of refused a
