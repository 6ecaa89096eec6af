-- What an audit answers: document 01's values, in its order.
use Rattle.std.specs.Prelude.{ℕ, ◌≡◌, refl, List, [], ◌∷◌, get_or}
use Rattle.std.proofs.Common.{Result}
use Rattle.model.specs.Answer.{Answer}
use Rattle.answers.specs.ReadBack.{OneToOne, read_back_one_to_one}
use Rattle.answers.specs.Answered.{answered}
use Rattle.answers.specs.Refusal.{refused}
use Rattle.answers.specs.declared.refusal.Refusal.{Refusal}
use Rattle.std.proofs.Common.{ap}
use Rattle.answers.specs.Verdict.{number_of, verdict_of, number_read_back}
use Rattle.answers.specs.declared.report.Verdict.{Verdict}
use Rattle.answers.specs.declared.report.Report.{Report}
use Rattle.answers.specs.declared.report.Audited.{Audited}

abbrev pub values_of : Report → List ℕ
values_of a = a.members ∷ a.principals ∷ a.ring_members ∷ number_of a.verdict ∷ []

-- the reply that values are
abbrev of_values : List ℕ → Report
of_values vs = record { members = get_or vs 0 0; principals = get_or vs 1 0; ring_members = get_or vs 2 0; verdict = verdict_of (get_or vs 3 0) }

pub values_one_to_one : OneToOne values_of
values_one_to_one = read_back_one_to_one of_values back
  where
    back : (a : Report) → of_values (values_of a) ≡ a
    back a = ap (λ (v : Verdict). record { members = a.members; principals = a.principals; ring_members = a.ring_members; verdict = v }) (number_read_back a.verdict)

abbrev pub answer_of : Result Report Refusal → Answer
answer_of a = answered values_of refused a

-- the same, whatever number is given for the verdict
abbrev pub audited_values : Audited → List ℕ
audited_values a = a.members ∷ a.principals ∷ a.ring_members ∷ a.verdict ∷ []

abbrev of_audited_values : List ℕ → Audited
of_audited_values vs = record { members = get_or vs 0 0; principals = get_or vs 1 0; ring_members = get_or vs 2 0; verdict = get_or vs 3 0 }

pub audited_one_to_one : OneToOne audited_values
audited_one_to_one = read_back_one_to_one of_audited_values back
  where
    back : (a : Audited) → of_audited_values (audited_values a) ≡ a
    back a = refl
