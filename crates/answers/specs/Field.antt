-- What reading one field of an image answers: document 02's values, in its order.
use Rattle.std.specs.Prelude.{ℕ, ◌≡◌, refl, List, [], ◌∷◌, get_or}
use Rattle.std.proofs.Common.{Result}
use Rattle.model.specs.Answer.{Answer}
use Rattle.answers.specs.ReadBack.{OneToOne, read_back_one_to_one}
use Rattle.answers.specs.Answered.{answered}
use Rattle.answers.specs.Refusal.{refused}
use Rattle.answers.specs.declared.refusal.Refusal.{Refusal}
use Rattle.answers.specs.declared.field.Field.{Field}

abbrev pub values_of : Field → List ℕ
values_of a = a.tag ∷ a.start ∷ a.size ∷ a.next ∷ []

-- the reply that values are
abbrev of_values : List ℕ → Field
of_values vs = record { tag = get_or vs 0 0; start = get_or vs 1 0; size = get_or vs 2 0; next = get_or vs 3 0 }

pub values_one_to_one : OneToOne values_of
values_one_to_one = read_back_one_to_one of_values back
  where
    back : (a : Field) → of_values (values_of a) ≡ a
    back a = refl

abbrev pub answer_of : Result Field Refusal → Answer
answer_of a = answered values_of refused a
