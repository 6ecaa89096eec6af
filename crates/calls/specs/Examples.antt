-- Document 01's session: what the calls answer by the model is what the cases of their kinds of answers say.
use Rattle.std.specs.Prelude.{ℕ, ◌+◌, ◌*◌, ◌≡◌, refl, List, [], ◌∷◌, replicate, Ok, Err}
use Rattle.model.specs.Identifier.{between, after, space}
use Rattle.model.specs.Table.{header_size, record_size, formed_member, formed, well_formed}
use Rattle.model.specs.Ring.{candidate_inside, sound, ideal_member, ideal, verdict}
use Rattle.model.specs.Answer.{Answer}
use Rattle.model.specs.Steps.{stabilize_from_successor, stabilize_from_predecessor, stabilize, stabilize_reply, next_step, renews}
use Rattle.model.specs.Refusals.{full, cuts_off, too_few_principals, no_new_table, join_refusal, member_refusal, leave_refusal, audit_refusal, new_refusal}
use Rattle.model.specs.Calls.{join_answer, join_words, stabilize_answer, stabilize_words, rectify_answer, rectify_words, fail_answer, fail_words, leave_answer, leave_words, lookup_answer, audit_answer, new_answer, new_words}
use Rattle.model.specs.Run.{Call, Join, Leave, Fail, Stabilize, Rectify, Lookup, Audit, call_answer, call_words}
use Rattle.answers.specs.Count.{answer_of as count_of}
use Rattle.answers.specs.declared.refusal.Refusal.TheVariants.{AlreadyMember, CutsOff, DeadFirstEntry}
use Rattle.answers.specs.Step.{answer_of as step_of}
use Rattle.answers.specs.declared.step.Step.TheVariants.{Again, Look, Done}
use Rattle.answers.specs.Notice.{answer_of as notice_of}
use Rattle.answers.specs.declared.notice.Notice.TheVariants.{New, Same}
use Rattle.answers.specs.Found.{answer_of as found_of}
use Rattle.answers.specs.declared.found.NotFound.TheVariants.{Stuck}
use Rattle.answers.specs.Report.{answer_of as report_of}
use Rattle.answers.specs.declared.report.Verdict.TheVariants.{Sound}

-- what each call of a list answers
abbrev pub answers : List Call → List ℕ → List Answer
answers [] ws = []
answers (c ∷ cs) ws = call_answer ws c ∷ answers cs (call_words ws c)

-- room for five members with r = 2, and the session's first line
abbrev room : List ℕ
room = replicate (header_size + 5 * record_size 2) 0

abbrev four : List ℕ
four = 10 ∷ 20 ∷ 30 ∷ 40 ∷ []

first_line : new_answer room 2 four ≡ count_of (Ok 4)
unfolding new_answer new_refusal no_new_table
first_line = refl

-- its other lines, each with its reply; then a notice that changes nothing, and a loss that leaves 40 without a live entry: a find from it and a join by it
abbrev pub lines : List Call
lines = Join 25 20 ∷ Stabilize 25 ∷ Rectify 30 25 ∷ Stabilize 20 ∷ Stabilize 20 ∷ Audit ∷ Join 30 20 ∷ Leave 10 ∷ Leave 20 ∷ Stabilize 40 ∷ Lookup 30 15
    ∷ Rectify 30 25 ∷ Fail 20 ∷ Lookup 40 15 ∷ Join 45 40 ∷ []

abbrev pub replies : List Answer
replies = count_of (Ok 5) ∷ step_of (Ok (Done 30)) ∷ notice_of (Ok New) ∷ step_of (Ok (Look 25)) ∷ step_of (Ok (Done 25))
    ∷ report_of (Ok (record { members = 5; principals = 4; ring_members = 5; verdict = Sound })) ∷ count_of (Err AlreadyMember) ∷ count_of (Ok 4) ∷ count_of (Err CutsOff)
    ∷ step_of (Ok Again) ∷ found_of (Ok (record { owner = 20; at = 40; moves = 1; passed = 0 })) ∷ notice_of (Ok Same) ∷ count_of (Ok 3) ∷ found_of (Err (Stuck 40))
    ∷ count_of (Err DeadFirstEntry) ∷ []

session : answers lines (new_words room 2 four) ≡ replies
unfolding between after formed_member formed well_formed candidate_inside sound ideal_member ideal verdict stabilize_from_successor stabilize_from_predecessor stabilize
    stabilize_reply next_step renews full cuts_off too_few_principals no_new_table join_refusal member_refusal leave_refusal audit_refusal new_refusal join_answer join_words
    stabilize_answer stabilize_words rectify_answer rectify_words fail_answer fail_words leave_answer leave_words lookup_answer audit_answer new_answer new_words call_answer
    call_words space
session = refl
