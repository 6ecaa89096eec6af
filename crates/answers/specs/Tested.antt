-- What the principal test answers: document 02's values, 1 or 0 and the pairs taken.
use Rattle.std.specs.Prelude.{ℕ, ◌≡◌, refl, List, [], ◌∷◌, get_or, ltb, Bool, true, false}
use Rattle.std.proofs.Common.{Result, ap}
use Rattle.model.specs.Answer.{Answer}
use Rattle.answers.specs.ReadBack.{OneToOne, read_back_one_to_one}
use Rattle.answers.specs.Answered.{answered}
use Rattle.answers.specs.Refusal.{refused}
use Rattle.answers.specs.declared.refusal.Refusal.{Refusal}
use Rattle.model.specs.Lists.{bit}
use Rattle.answers.specs.declared.tested.Tested.{Tested}

abbrev pub values_of : Tested → List ℕ
values_of a = bit a.principal ∷ a.pairs ∷ []

-- the reply that values are
abbrev of_values : List ℕ → Tested
of_values vs = record { principal = ltb 0 (get_or vs 0 0); pairs = get_or vs 1 0 }

pub values_one_to_one : OneToOne values_of
values_one_to_one = read_back_one_to_one of_values (λ a. ap (λ (b : Bool). record { principal = b; pairs = a.pairs }) (bit_back a.principal))
  where
    bit_back : (b : Bool) → ltb 0 (bit b) ≡ b
    bit_back true = refl
    bit_back false = refl

abbrev pub answer_of : Result Tested Refusal → Answer
answer_of a = answered values_of refused a
