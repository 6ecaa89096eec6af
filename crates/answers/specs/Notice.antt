-- What a rectify step answers: document 01's values for each case.
use Rattle.std.specs.Prelude.{ℕ, zero, suc, ◌≡◌, refl, List, [], ◌∷◌}
use Rattle.std.proofs.Common.{Result}
use Rattle.model.specs.Answer.{Answer}
use Rattle.answers.specs.ReadBack.{OneToOne, read_back_one_to_one}
use Rattle.answers.specs.Answered.{answered}
use Rattle.answers.specs.Refusal.{refused}
use Rattle.answers.specs.declared.refusal.Refusal.{Refusal}
use Rattle.answers.specs.declared.notice.Notice.{Notice}
use Rattle.answers.specs.declared.notice.Notice.TheVariants.{New, Same}

abbrev pub values_of : Notice → List ℕ
values_of New = 1 ∷ []
values_of Same = 0 ∷ []

-- the reply that values are
abbrev of_values : List ℕ → Notice
of_values [] = Same
of_values (zero ∷ vs) = Same
of_values (suc j ∷ vs) = New

pub values_one_to_one : OneToOne values_of
values_one_to_one = read_back_one_to_one of_values back
  where
    back : (a : Notice) → of_values (values_of a) ≡ a
    back New = refl
    back Same = refl

abbrev pub answer_of : Result Notice Refusal → Answer
answer_of a = answered values_of refused a
