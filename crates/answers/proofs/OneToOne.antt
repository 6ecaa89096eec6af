-- No two answers of a kind have the same number and values: so a contract, which states these, fixes the case that a caller gets. Where any number may decline
-- a call too.
use Rattle.std.proofs.Common.{ℕ, ◌<◌, ◌≡◌, refl, get_or, Ok, Err, Result, Bool, true, false, List, [], ◌∷◌, length, Option, Some, None, arith}
use Rattle.model.specs.Answer.{Answer, declined}
use Rattle.answers.specs.ReadBack.{OneToOne, read_back_one_to_one}
use Rattle.answers.specs.Answered.{answered, answered_one_to_one, numbered_one_to_one}
use Rattle.answers.specs.Refusal.{refused_one_to_one, refused_declines}
use Rattle.answers.specs.Count.{answer_of as count, values_of as count_of, values_one_to_one as count_values}
use Rattle.answers.specs.YesNo.{answer_of as yes_no, values_of as yes_no_of, values_one_to_one as yes_no_values}
use Rattle.answers.specs.Opening.{answer_of as opening, values_of as opening_of, values_one_to_one as opening_values}
use Rattle.answers.specs.Step.{answer_of as step, values_of as step_of, values_one_to_one as step_values}
use Rattle.answers.specs.Notice.{answer_of as notice, values_of as notice_of, values_one_to_one as notice_values}
use Rattle.answers.specs.Found.{answer_of as found, values_of as found_of, values_one_to_one as found_values, refused_by, refused_one_to_one as stuck_refused, stuck_declines}
use Rattle.answers.specs.Report.{answer_of as report, values_of as report_of, values_one_to_one as report_values, audited_values, audited_one_to_one}
use Rattle.answers.specs.RoundVerdict.{answer_of as round_verdict, values_of as round_verdict_of, values_one_to_one as round_verdict_values}
use Rattle.answers.specs.Settled.{answer_of as settled, values_of as settled_of, values_one_to_one as settled_values, ran_values, ran_one_to_one}
use Rattle.answers.specs.Tested.{answer_of as tested, values_of as tested_of, values_one_to_one as tested_values}
use Rattle.answers.specs.Field.{answer_of as field, values_of as field_of, values_one_to_one as field_values}
use Rattle.answers.specs.Runs.{answer_of as runs, values_of as runs_of, values_one_to_one as runs_values}
use Rattle.answers.specs.declared.found.Found.{Found}
use Rattle.answers.specs.declared.found.NotFound.TheVariants.{Stuck}
use Rattle.answers.specs.declared.step.Step.{Step}
use Rattle.answers.specs.declared.step.Step.TheVariants.{Again, Look, Done}
use Rattle.answers.specs.declared.notice.Notice.{Notice}
use Rattle.answers.specs.declared.notice.Notice.TheVariants.{New, Same}
use Rattle.answers.specs.declared.runs.Runs.{Runs}
use Rattle.answers.specs.declared.runs.Runs.TheVariants.{One, Two}

pub count_one_to_one : OneToOne count
count_one_to_one = answered_one_to_one count_values refused_one_to_one refused_declines

pub count_numbered : OneToOne (answered count_of declined)
count_numbered = numbered_one_to_one count_values (λ a. omega arith)

pub yes_no_one_to_one : OneToOne yes_no
yes_no_one_to_one = answered_one_to_one yes_no_values refused_one_to_one refused_declines

pub yes_no_numbered : OneToOne (answered yes_no_of declined)
yes_no_numbered = numbered_one_to_one yes_no_values some
  where
    some : (a : Bool) → 0 < length (yes_no_of a)
    some true = omega arith
    some false = omega arith

pub opening_one_to_one : OneToOne opening
opening_one_to_one = answered_one_to_one opening_values refused_one_to_one refused_declines

pub opening_numbered : OneToOne (answered opening_of declined)
opening_numbered = numbered_one_to_one opening_values some
  where
    some : (a : Option ℕ) → 0 < length (opening_of a)
    some (Some m) = omega arith
    some None = omega arith

pub step_one_to_one : OneToOne step
step_one_to_one = answered_one_to_one step_values refused_one_to_one refused_declines

pub step_numbered : OneToOne (answered step_of declined)
step_numbered = numbered_one_to_one step_values some
  where
    some : (a : Step) → 0 < length (step_of a)
    some Again = omega arith
    some (Look c) = omega arith
    some (Done h) = omega arith

pub notice_one_to_one : OneToOne notice
notice_one_to_one = answered_one_to_one notice_values refused_one_to_one refused_declines

pub notice_numbered : OneToOne (answered notice_of declined)
notice_numbered = numbered_one_to_one notice_values some
  where
    some : (a : Notice) → 0 < length (notice_of a)
    some New = omega arith
    some Same = omega arith

pub found_one_to_one : OneToOne found
found_one_to_one = answered_one_to_one found_values stuck_refused stuck_declines

pub found_numbered : OneToOne (answered found_of declined)
found_numbered = numbered_one_to_one found_values (λ a. omega arith)

-- why find found no owner, where any number may decline it: 8, with the member stood at, is told from all of them
pub data Unfound : Type 0 where
  StuckAt : (q : ℕ) → Unfound
  By : (k : ℕ) → Unfound

abbrev pub unfound : Unfound → Answer
unfound (StuckAt q) = refused_by (Stuck q)
unfound (By k) = declined k

pub found_or_stuck_numbered : OneToOne (answered found_of unfound)
found_or_stuck_numbered = read_back_one_to_one (λ (a : Answer). case_of a.number a.values) back
  where
    case_of : ℕ → List ℕ → Result Found Unfound
    case_of k [] = Err (By k)
    case_of k (q ∷ []) = Err (StuckAt q)
    case_of k (b ∷ q ∷ vs) = Ok (record { owner = b; at = q; moves = get_or vs 0 0; passed = get_or vs 1 0 })

    back : (a : Result Found Unfound) → case_of (answered found_of unfound a).number (answered found_of unfound a).values ≡ a
    back (Ok a) = refl
    back (Err (StuckAt q)) = refl
    back (Err (By k)) = refl

pub report_one_to_one : OneToOne report
report_one_to_one = answered_one_to_one report_values refused_one_to_one refused_declines

pub report_numbered : OneToOne (answered report_of declined)
report_numbered = numbered_one_to_one report_values (λ a. omega arith)

-- an audit with any number for its verdict
pub audited_numbered : OneToOne (answered audited_values declined)
audited_numbered = numbered_one_to_one audited_one_to_one (λ a. omega arith)

pub round_verdict_one_to_one : OneToOne round_verdict
round_verdict_one_to_one = answered_one_to_one round_verdict_values refused_one_to_one refused_declines

pub round_verdict_numbered : OneToOne (answered round_verdict_of declined)
round_verdict_numbered = numbered_one_to_one round_verdict_values (λ a. omega arith)

pub settled_one_to_one : OneToOne settled
settled_one_to_one = answered_one_to_one settled_values refused_one_to_one refused_declines

pub settled_numbered : OneToOne (answered settled_of declined)
settled_numbered = numbered_one_to_one settled_values (λ a. omega arith)

-- what settle ran, with any number for its verdict
pub ran_numbered : OneToOne (answered ran_values declined)
ran_numbered = numbered_one_to_one ran_one_to_one (λ a. omega arith)

pub tested_one_to_one : OneToOne tested
tested_one_to_one = answered_one_to_one tested_values refused_one_to_one refused_declines

pub tested_numbered : OneToOne (answered tested_of declined)
tested_numbered = numbered_one_to_one tested_values (λ a. omega arith)

pub field_one_to_one : OneToOne field
field_one_to_one = answered_one_to_one field_values refused_one_to_one refused_declines

pub field_numbered : OneToOne (answered field_of declined)
field_numbered = numbered_one_to_one field_values (λ a. omega arith)

pub runs_one_to_one : OneToOne runs
runs_one_to_one = answered_one_to_one runs_values refused_one_to_one refused_declines

pub runs_numbered : OneToOne (answered runs_of declined)
runs_numbered = numbered_one_to_one runs_values some
  where
    some : (a : Runs) → 0 < length (runs_of a)
    some (One u) = omega arith
    some (Two u v) = omega arith
