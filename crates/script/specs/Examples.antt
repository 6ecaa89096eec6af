-- Document 01, "The rehearsal program": its session, with line 7 as document 02's Req 04 and line 12 as its Req 06 has it, computed by the definitions.
use Rattle.std.specs.Prelude.{ℕ, ◌*◌, ◌≡◌, refl, List, [], ◌∷◌, ◌++◌, replicate}
use Rattle.model.specs.Identifier.{between, after, space}
use Rattle.model.specs.Table.{table_with, record_size, words_of, formed_member, formed, well_formed}
use Rattle.model.specs.Ring.{candidate_inside, sound, ideal_member, ideal, verdict}
use Rattle.model.specs.Steps.{stabilize_from_successor, stabilize_from_predecessor, stabilize, stabilize_reply, next_step, renews}
use Rattle.model.specs.Refusals.{full, cuts_off, too_few_principals, no_new_table, join_refusal, member_refusal, leave_refusal, audit_refusal, new_refusal}
use Rattle.model.specs.Calls.{join_answer, join_words, stabilize_answer, stabilize_words, rectify_answer, rectify_words, leave_answer, leave_words, lookup_answer, audit_answer, new_answer, new_words}
use Rattle.model.specs.Run.{call_answer, call_words}
use Rattle.script.specs.Lines.{is_number, word_of, numbers_of, meaning}
use Rattle.script.specs.Text.{digits, fields_text, answer_text, answered, unread}
use Rattle.script.specs.Session.{word_answer, word_words, line_text, line_words, session_text}

-- a table with no members and r = 1, and room for 256 with lists of 8
abbrev pub no_members : List ℕ
no_members = words_of (table_with 1 []) ++ replicate (256 * record_size 8) 0

abbrev pub input : List ℕ
input =
    110 ∷ 101 ∷ 119 ∷ 32 ∷ 50 ∷ 32 ∷ 49 ∷ 48 ∷ 32 ∷ 50 ∷ 48 ∷ 32 ∷ 51 ∷ 48 ∷ 32 ∷ 52 ∷ 48 ∷ 10 ∷
    106 ∷ 111 ∷ 105 ∷ 110 ∷ 32 ∷ 50 ∷ 53 ∷ 32 ∷ 50 ∷ 48 ∷ 10 ∷
    115 ∷ 116 ∷ 97 ∷ 98 ∷ 32 ∷ 50 ∷ 53 ∷ 10 ∷
    114 ∷ 101 ∷ 99 ∷ 116 ∷ 32 ∷ 51 ∷ 48 ∷ 32 ∷ 50 ∷ 53 ∷ 10 ∷
    115 ∷ 116 ∷ 97 ∷ 98 ∷ 32 ∷ 50 ∷ 48 ∷ 10 ∷
    115 ∷ 116 ∷ 97 ∷ 98 ∷ 32 ∷ 50 ∷ 48 ∷ 10 ∷
    97 ∷ 117 ∷ 100 ∷ 105 ∷ 116 ∷ 10 ∷
    106 ∷ 111 ∷ 105 ∷ 110 ∷ 32 ∷ 51 ∷ 48 ∷ 32 ∷ 50 ∷ 48 ∷ 10 ∷
    111 ∷ 117 ∷ 116 ∷ 32 ∷ 49 ∷ 48 ∷ 10 ∷
    111 ∷ 117 ∷ 116 ∷ 32 ∷ 50 ∷ 48 ∷ 10 ∷
    115 ∷ 116 ∷ 97 ∷ 98 ∷ 32 ∷ 52 ∷ 48 ∷ 10 ∷
    102 ∷ 105 ∷ 110 ∷ 100 ∷ 32 ∷ 51 ∷ 48 ∷ 32 ∷ 49 ∷ 53 ∷ 10 ∷ []

abbrev pub output : List ℕ
output =
    49 ∷ 32 ∷ 110 ∷ 101 ∷ 119 ∷ 32 ∷ 111 ∷ 107 ∷ 32 ∷ 52 ∷ 10 ∷
    50 ∷ 32 ∷ 106 ∷ 111 ∷ 105 ∷ 110 ∷ 32 ∷ 111 ∷ 107 ∷ 32 ∷ 53 ∷ 10 ∷
    51 ∷ 32 ∷ 115 ∷ 116 ∷ 97 ∷ 98 ∷ 32 ∷ 111 ∷ 107 ∷ 32 ∷ 100 ∷ 111 ∷ 110 ∷ 101 ∷ 32 ∷ 51 ∷ 48 ∷ 10 ∷
    52 ∷ 32 ∷ 114 ∷ 101 ∷ 99 ∷ 116 ∷ 32 ∷ 111 ∷ 107 ∷ 32 ∷ 110 ∷ 101 ∷ 119 ∷ 10 ∷
    53 ∷ 32 ∷ 115 ∷ 116 ∷ 97 ∷ 98 ∷ 32 ∷ 111 ∷ 107 ∷ 32 ∷ 108 ∷ 111 ∷ 111 ∷ 107 ∷ 32 ∷ 50 ∷ 53 ∷ 10 ∷
    54 ∷ 32 ∷ 115 ∷ 116 ∷ 97 ∷ 98 ∷ 32 ∷ 111 ∷ 107 ∷ 32 ∷ 100 ∷ 111 ∷ 110 ∷ 101 ∷ 32 ∷ 50 ∷ 53 ∷ 10 ∷
    55 ∷ 32 ∷ 97 ∷ 117 ∷ 100 ∷ 105 ∷ 116 ∷ 32 ∷ 111 ∷ 107 ∷ 32 ∷ 53 ∷ 32 ∷ 52 ∷ 32 ∷ 53 ∷ 32 ∷ 49 ∷ 10 ∷
    56 ∷ 32 ∷ 106 ∷ 111 ∷ 105 ∷ 110 ∷ 32 ∷ 110 ∷ 111 ∷ 32 ∷ 50 ∷ 10 ∷
    57 ∷ 32 ∷ 111 ∷ 117 ∷ 116 ∷ 32 ∷ 111 ∷ 107 ∷ 32 ∷ 52 ∷ 10 ∷
    49 ∷ 48 ∷ 32 ∷ 111 ∷ 117 ∷ 116 ∷ 32 ∷ 110 ∷ 111 ∷ 32 ∷ 54 ∷ 10 ∷
    49 ∷ 49 ∷ 32 ∷ 115 ∷ 116 ∷ 97 ∷ 98 ∷ 32 ∷ 111 ∷ 107 ∷ 32 ∷ 97 ∷ 103 ∷ 97 ∷ 105 ∷ 110 ∷ 10 ∷
    49 ∷ 50 ∷ 32 ∷ 102 ∷ 105 ∷ 110 ∷ 100 ∷ 32 ∷ 111 ∷ 107 ∷ 32 ∷ 50 ∷ 48 ∷ 32 ∷ 52 ∷ 48 ∷ 32 ∷ 49 ∷ 32 ∷ 48 ∷ 10 ∷ []

session : session_text input no_members ≡ output
unfolding session_text line_text line_words word_answer word_words answered unread answer_text fields_text digits meaning numbers_of word_of is_number between after
    formed_member formed well_formed candidate_inside sound ideal_member ideal verdict stabilize_from_successor stabilize_from_predecessor stabilize stabilize_reply
    next_step renews full cuts_off too_few_principals no_new_table join_refusal member_refusal leave_refusal audit_refusal new_refusal join_answer join_words stabilize_answer
    stabilize_words rectify_answer rectify_words leave_answer leave_words lookup_answer audit_answer new_answer new_words call_answer call_words space
session = refl
