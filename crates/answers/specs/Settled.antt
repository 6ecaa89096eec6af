-- What settle answers, with windows too: document 02's values, in its order.
use Rattle.std.specs.Prelude.{ℕ, ◌≡◌, refl, List, [], ◌∷◌, get_or}
use Rattle.std.proofs.Common.{Result}
use Rattle.model.specs.Answer.{Answer}
use Rattle.answers.specs.ReadBack.{OneToOne, read_back_one_to_one}
use Rattle.answers.specs.Answered.{answered}
use Rattle.answers.specs.Refusal.{refused}
use Rattle.answers.specs.declared.refusal.Refusal.{Refusal}
use Rattle.std.proofs.Common.{ap}
use Rattle.answers.specs.Verdict.{number_of, verdict_of, number_read_back}
use Rattle.answers.specs.declared.report.Verdict.{Verdict}
use Rattle.answers.specs.declared.settled.Settled.{Settled}
use Rattle.answers.specs.declared.settled.Ran.{Ran}

abbrev pub values_of : Settled → List ℕ
values_of a = a.rounds ∷ number_of a.verdict ∷ a.passed ∷ []

-- the reply that values are
abbrev of_values : List ℕ → Settled
of_values vs = record { rounds = get_or vs 0 0; verdict = verdict_of (get_or vs 1 0); passed = get_or vs 2 0 }

pub values_one_to_one : OneToOne values_of
values_one_to_one = read_back_one_to_one of_values back
  where
    back : (a : Settled) → of_values (values_of a) ≡ a
    back a = ap (λ (v : Verdict). record { rounds = a.rounds; verdict = v; passed = a.passed }) (number_read_back a.verdict)

abbrev pub answer_of : Result Settled Refusal → Answer
answer_of a = answered values_of refused a

-- the same, whatever number is given for the verdict
abbrev pub ran_values : Ran → List ℕ
ran_values a = a.rounds ∷ a.verdict ∷ a.passed ∷ []

abbrev of_ran_values : List ℕ → Ran
of_ran_values vs = record { rounds = get_or vs 0 0; verdict = get_or vs 1 0; passed = get_or vs 2 0 }

pub ran_one_to_one : OneToOne ran_values
ran_one_to_one = read_back_one_to_one of_ran_values back
  where
    back : (a : Ran) → of_ran_values (ran_values a) ≡ a
    back a = refl
