-- What a round answers: document 02's value, the verdict.
use Rattle.std.specs.Prelude.{ℕ, List, [], ◌∷◌, get_or}
use Rattle.std.proofs.Common.{Result}
use Rattle.model.specs.Answer.{Answer}
use Rattle.answers.specs.ReadBack.{OneToOne, read_back_one_to_one}
use Rattle.answers.specs.Answered.{answered}
use Rattle.answers.specs.Refusal.{refused}
use Rattle.answers.specs.declared.refusal.Refusal.{Refusal}
use Rattle.answers.specs.Verdict.{number_of, verdict_of, number_read_back}
use Rattle.answers.specs.declared.report.Verdict.{Verdict}

abbrev pub values_of : Verdict → List ℕ
values_of v = number_of v ∷ []

-- the reply that values are
abbrev of_values : List ℕ → Verdict
of_values vs = verdict_of (get_or vs 0 0)

pub values_one_to_one : OneToOne values_of
values_one_to_one = read_back_one_to_one of_values number_read_back

abbrev pub answer_of : Result Verdict Refusal → Answer
answer_of a = answered values_of refused a
