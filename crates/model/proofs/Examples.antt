-- Worked examples, computed: document 01's table of them as one statement over a list of cases, then those of document 02's Req 01 to Req 09.
-- A yes is 1 and a no is 0; a number that stands alone is a call's refusal, 0 where it is accepted; other lists are a call's values.
use Rattle.std.specs.Prelude.{ℕ, zero, suc, ◌+◌, ◌*◌, ◌≡◌, refl, List, [], ◌∷◌, ◌++◌, map, length, replicate, take, drop, set}
use Rattle.model.specs.Lists.{bit}
use Rattle.model.specs.Identifier.{space, between, after}
use Rattle.model.specs.Table.{Member, idle, Table, table_with, size, record_of, table_of, members_in, ids, words_of, well_formed, formed, formed_member}
use Rattle.model.specs.Ring.{named, searched, passed_by, passed_by_all, sound, candidate_inside, ideal, ideal_member, verdict}
use Rattle.model.specs.Answer.{accepted, declined}
use Rattle.model.specs.Steps.{with_successors, with_predecessor, with_pending, with_steps, await_candidate, stabilize_from_successor, stabilize_from_predecessor, stabilize, stabilize_reply, next_step, renews, lookup}
use Rattle.model.specs.New.{new_table}
use Rattle.model.specs.Alike.{alike_member, alike}
use Rattle.model.specs.Image.{image_of, is_image}
use Rattle.model.specs.Held.{runs_of}
use Rattle.model.specs.Settle.{delivered, last_step, finished, after_turn, after_round, after_rounds, rounds_run, round_reply, settle_reply}
use Rattle.model.specs.Windows.{windows_in, in_window, first_open, next_open, open_minutes, rounds_at, settle_at_reply}
use Rattle.model.specs.Refusals.{full, new_refusal, no_new_table, join_refusal, member_refusal, leave_refusal, cuts_off, too_few_principals, held_refusal, settle_refusal, alike_refusal, right_window, bad_windows, bad_minutes, open_refusal, settle_at_refusal}
use Rattle.model.specs.Calls.{join_answer, join_words, stabilize_answer, stabilize_words, fail_answer, fail_words, new_answer, new_words, leave_answer, leave_words, held_answer, principal_answer, alike_answer, round_answer, round_words, settle_answer, settle_words, is_open_answer, next_open_answer, settle_at_answer, settle_at_words}
use Rattle.model.specs.Fold.{each_tells}
use Rattle.model.specs.Run.{Join, Leave, Fail, Stabilize, call_answer, call_words, run, granted_call, granted}
use Rattle.model.specs.Service.{Called, Round, Settle, SettleAt, service_answer, service_words, answers}

-- a case: what the definitions compute, and what document 01 says
pub record Case : Type 0 where
  pub computed : List ℕ
  pub expected : List ℕ

infix 6 ◌gives◌
abbrev pub ◌gives◌ : List ℕ → List ℕ → Case
c gives e = record { computed = c; expected = e }

-- a slice with a lone member, 50, whose list is l: no other identifier is a member's
abbrev pub lone : List ℕ → List ℕ
lone l = words_of (table_with (length l) (idle 50 50 l ∷ []))

-- what its stabilize step replies, 0 for "again", and then its list afterwards
abbrev pub stepped : List ℕ → List ℕ
stepped l = (stabilize_answer (lone l) 50).values ++ (named (members_in (stabilize_words (lone l) 50)) 50).successors

-- a slice of 40 words, and the table of (h) in it
abbrev pub blank : List ℕ
blank = replicate 40 0

abbrev pub table_h : List ℕ
table_h = new_words blank 2 (10 ∷ 20 ∷ 30 ∷ [])

-- document 01's examples, in order
abbrev pub cases : List Case
cases =
    -- (a) 25 is between 20 and 30
    (bit (between 20 25 30) ∷ [] gives 1 ∷ []) ∷
    -- (b) 5 is between 40 and 10, round the end
    (bit (between 40 5 10) ∷ [] gives 1 ∷ []) ∷
    -- (c) from 10 round to 10 again, 10 itself is not between
    (bit (between 10 10 10) ∷ [] gives 0 ∷ []) ∷
    -- (d) and all others are
    (bit (between 10 11 10) ∷ [] gives 1 ∷ []) ∷
    -- (e) an end is not between
    (bit (between 10 20 20) ∷ [] gives 0 ∷ []) ∷
    -- (f) r = 2, a dead head: the step replies "again", and the list 100, 4294967295 becomes 4294967295, 0
    (stepped (100 ∷ 4294967295 ∷ []) gives 0 ∷ 4294967295 ∷ 0 ∷ []) ∷
    -- (g) r = 1, the dead head 7: "again", and the list becomes 8
    (stepped (7 ∷ []) gives 0 ∷ 8 ∷ []) ∷
    -- (h) a new table with r = 2 and 10, 20, 30 is sound
    (bit (sound (new_table 2 (10 ∷ 20 ∷ 30 ∷ []))) ∷ [] gives 1 ∷ []) ∷
    -- (i) with 10, 20 it is 11
    ((new_answer blank 2 (10 ∷ 20 ∷ [])).number ∷ [] gives 11 ∷ []) ∷
    -- (j) from (h), withdrawing 10 is 7
    ((leave_answer table_h 10).number ∷ [] gives 7 ∷ []) ∷ []

pub worked : map (λ c. c.computed) cases ≡ map (λ c. c.expected) cases
unfolding between after sound candidate_inside stabilize stabilize_reply next_step stabilize_answer stabilize_words member_refusal new_answer new_words new_refusal
    no_new_table leave_answer leave_refusal cuts_off too_few_principals well_formed formed formed_member space
worked = refl

-- Req 01: keys on and beside the members of (h), which are 10, 20 and 30

abbrev pub keys_h : List ℕ
keys_h = 5 ∷ 10 ∷ 11 ∷ 20 ∷ 31 ∷ []

-- start and end of each run of positions
abbrev pub held_cases : List Case
held_cases =
    -- the lowest member has two: the key 31, above the last member, and the keys 5 and 10
    ((held_answer table_h 10 keys_h).values gives 4 ∷ 5 ∷ 0 ∷ 2 ∷ []) ∷
    -- 20 holds 11 and 20
    ((held_answer table_h 20 keys_h).values gives 2 ∷ 4 ∷ []) ∷
    -- 30 holds none
    ((held_answer table_h 30 keys_h).values gives 4 ∷ 4 ∷ []) ∷
    -- a lone member is the lowest too, and holds all in its second run
    ((held_answer (lone (7 ∷ [])) 50 keys_h).values gives 5 ∷ 5 ∷ 0 ∷ 5 ∷ []) ∷
    -- keys that do not rise are 12, but 3 of no member
    ((held_answer table_h 10 (5 ∷ 5 ∷ [])).number ∷ (held_answer table_h 15 (5 ∷ 5 ∷ [])).number ∷ [] gives 12 ∷ 3 ∷ []) ∷ []

pub held : map (λ c. c.computed) held_cases ≡ map (λ c. c.expected) held_cases
unfolding held_answer held_refusal runs_of new_words new_refusal no_new_table well_formed formed formed_member space
held = refl

-- Req 02: the table of (h) after 25 joined by 20; the lists of 10, 20, 25 and 30 are 20 30, 30 10, 30 10 and 10 20

abbrev pub joined_h : List ℕ
joined_h = join_words table_h 25 20

-- principal or not, and the pairs taken
abbrev pub principal_cases : List Case
principal_cases =
    -- 20 is one: all 8 pairs are taken
    ((principal_answer joined_h 20).values gives 1 ∷ 8 ∷ []) ∷
    -- 25 is none: the second pair of the first list, 20 30, skips it
    ((principal_answer joined_h 25).values gives 0 ∷ 2 ∷ []) ∷
    -- a lone member that its own list skips at the second pair of three
    ((principal_answer (lone (40 ∷ 60 ∷ 70 ∷ [])) 50).values gives 0 ∷ 2 ∷ []) ∷
    -- at the last of two
    ((principal_answer (lone (40 ∷ 60 ∷ [])) 50).values gives 0 ∷ 2 ∷ []) ∷
    -- and not at all
    ((principal_answer (lone (7 ∷ [])) 50).values gives 1 ∷ 1 ∷ []) ∷
    -- no member is 3, no table is 1
    ((principal_answer joined_h 35).number ∷ (principal_answer blank 35).number ∷ [] gives 3 ∷ 1 ∷ []) ∷ []

pub principal : map (λ c. c.computed) principal_cases ≡ map (λ c. c.expected) principal_cases
unfolding principal_answer member_refusal between join_words join_refusal full new_words new_refusal no_new_table well_formed formed formed_member space
principal = refl

-- Req 03: the table of (h) after 20 was lost; the lists of 10 and 30 are 20 30 and 10 20

abbrev pub lost_h : List ℕ
lost_h = fail_words table_h 20

-- the same without a word to spare
abbrev pub tight_h : List ℕ
tight_h = take (size (table_of lost_h)) lost_h

-- a join with room, and without
abbrev pub join_cases : List Case
join_cases =
    -- by 10, whose first entry is no member: 13, before 5
    ((join_answer lost_h 15 10).number ∷ (join_answer tight_h 15 10).number ∷ [] gives 13 ∷ 13 ∷ []) ∷
    -- 4 comes before 13
    ((join_answer lost_h 25 10).number ∷ (join_answer tight_h 25 10).number ∷ [] gives 4 ∷ 4 ∷ []) ∷
    -- by 30, whose second entry alone is no member: accepted, or 5
    ((join_answer lost_h 35 30).number ∷ (join_answer tight_h 35 30).number ∷ [] gives 0 ∷ 5 ∷ []) ∷
    -- 2 and 3 come before all of them
    ((join_answer lost_h 30 10).number ∷ (join_answer lost_h 15 20).number ∷ [] gives 2 ∷ 3 ∷ []) ∷
    -- 13 leaves the slice as it was
    (join_words lost_h 15 10 gives lost_h) ∷
    -- after one stabilize step of 10 its first entry is 30, and the join is accepted
    ((join_answer (stabilize_words lost_h 10) 15 10).values gives 3 ∷ []) ∷ []

pub join : map (λ c. c.computed) join_cases ≡ map (λ c. c.expected) join_cases
unfolding join_answer join_words join_refusal full fail_words stabilize_words stabilize next_step after member_refusal between new_words new_refusal no_new_table well_formed
    formed formed_member space
join = refl

-- Req 04: the ring of 10, 20, 30 and 40 with e for the second entry of 30, whose next two members up are 40 and 10, and p for the predecessor of 10

abbrev pub ring4 : ℕ → ℕ → Table
ring4 e p = table_with 2
    (idle 10 p (20 ∷ 30 ∷ []) ∷ idle 20 10 (30 ∷ 40 ∷ []) ∷ idle 30 20 (40 ∷ e ∷ []) ∷ idle 40 30 (10 ∷ 20 ∷ []) ∷ [])

-- two members, 10 and 20, with e for the second entry of 20: the next two members up from each are the other and itself
abbrev pub ring2 : ℕ → Table
ring2 e = table_with 2 (idle 10 20 (20 ∷ 10 ∷ []) ∷ idle 20 10 (10 ∷ e ∷ []) ∷ [])

-- verdicts; of tables that are too small to be sound also: ideal or not
abbrev pub verdict_cases : List Case
verdict_cases =
    -- whole lists, in order and round the end: a second entry that is not the second member up, alive or dead, or another predecessor makes it 1
    (verdict (ring4 10 40) ∷ verdict (ring4 20 40) ∷ verdict (ring4 50 40) ∷ verdict (ring4 10 30) ∷ [] gives 2 ∷ 1 ∷ 1 ∷ 1 ∷ []) ∷
    -- two members
    (bit (ideal (ring2 20)) ∷ bit (ideal (ring2 30)) ∷ verdict (ring2 20) ∷ [] gives 1 ∷ 0 ∷ 0 ∷ []) ∷
    -- one, whose next two up are twice itself
    (bit (ideal (table_of (lone (50 ∷ 50 ∷ [])))) ∷ bit (ideal (table_of (lone (50 ∷ 60 ∷ [])))) ∷ verdict (table_of (lone (50 ∷ 50 ∷ []))) ∷ [] gives 1 ∷ 0 ∷ 0 ∷ []) ∷
    -- none
    (bit (ideal (table_with 2 [])) ∷ verdict (table_with 2 []) ∷ [] gives 1 ∷ 0 ∷ []) ∷ []

pub verdicts : map (λ c. c.computed) verdict_cases ≡ map (λ c. c.expected) verdict_cases
unfolding verdict sound ideal ideal_member candidate_inside between
verdicts = refl

-- a new ring with lists of two
abbrev pub ring_of : List ℕ → List ℕ
ring_of xs = new_words blank 2 xs

-- withdrawals from a new ring
abbrev pub withdrawal_cases : List Case
withdrawal_cases =
    -- of five members one is granted it
    ((leave_answer (ring_of (10 ∷ 20 ∷ 30 ∷ 40 ∷ 50 ∷ [])) 20).values gives 4 ∷ []) ∷
    -- and then its neighbour is 6: two are r, one too many
    ((leave_answer (leave_words (ring_of (10 ∷ 20 ∷ 30 ∷ 40 ∷ 50 ∷ [])) 20) 30).number ∷ [] gives 6 ∷ []) ∷
    -- of four, one is granted it, and another, which would leave two, is 7
    ((leave_answer (leave_words (ring_of (10 ∷ 20 ∷ 30 ∷ 40 ∷ [])) 10) 30).number ∷ [] gives 7 ∷ []) ∷ []

pub withdrawals : map (λ c. c.computed) withdrawal_cases ≡ map (λ c. c.expected) withdrawal_cases
unfolding leave_answer leave_words leave_refusal cuts_off too_few_principals between new_words new_refusal no_new_table well_formed formed formed_member space
withdrawals = refl

-- the ring of 10, 20, 30 and 40, and a list in which its neighbours 10 and 20 go
abbrev pub list_cases : List Case
list_cases =
    -- the calls are made in order, each on what the last one left: the first to withdraw may, the other is declined
    (ids (members_in (run (Leave 10 ∷ Leave 20 ∷ []) (ring_of (10 ∷ 20 ∷ 30 ∷ 40 ∷ [])))) gives 20 ∷ 30 ∷ 40 ∷ []) ∷
    -- and judged so: a loss of 20 that is granted at first is not when 10 has withdrawn before it
    (bit (granted (Fail 20 ∷ []) (ring_of (10 ∷ 20 ∷ 30 ∷ 40 ∷ []))) ∷ [] gives 1 ∷ []) ∷
    (bit (granted (Leave 10 ∷ Fail 20 ∷ []) (ring_of (10 ∷ 20 ∷ 30 ∷ 40 ∷ []))) ∷ [] gives 0 ∷ []) ∷ []

pub lists : map (λ c. c.computed) list_cases ≡ map (λ c. c.expected) list_cases
unfolding run granted granted_call call_answer call_words fail_answer leave_answer leave_words member_refusal leave_refusal cuts_off too_few_principals between new_words
    new_refusal no_new_table well_formed formed formed_member space
lists = refl

-- Req 05: the ring of 10, 20, 30 and 40 after 25 joined by 20, which has the list of 20 and skips nobody; all but 25 are principals

abbrev pub joined25 : Table
joined25 = table_with 2
    (idle 10 40 (20 ∷ 30 ∷ []) ∷ idle 20 10 (30 ∷ 40 ∷ []) ∷ idle 25 20 (30 ∷ 40 ∷ []) ∷ idle 30 20 (40 ∷ 10 ∷ []) ∷ idle 40 30 (10 ∷ 20 ∷ []) ∷ [])

-- 10 has the candidate 30 pending, whose predecessor 20 is no member; lists of one
abbrev pub waiting30 : Table
waiting30 = table_with 1 (await_candidate 30 (idle 10 50 (50 ∷ [])) ∷ idle 30 20 (50 ∷ []) ∷ idle 50 30 (10 ∷ []) ∷ [])

-- 10 has the candidate 15 pending and the first entry 20, both no members
abbrev pub waiting15 : Table
waiting15 = table_with 2
    (await_candidate 15 (idle 10 50 (20 ∷ 30 ∷ [])) ∷ idle 30 10 (40 ∷ 50 ∷ []) ∷ idle 40 30 (50 ∷ 10 ∷ []) ∷ idle 50 40 (10 ∷ 30 ∷ []) ∷ [])

-- 10 has the candidate 30 pending, whose predecessor 20 lies nearer; lists of one
abbrev pub nearer20 : Table
nearer20 = table_with 1 (await_candidate 30 (idle 10 40 (40 ∷ [])) ∷ idle 20 10 (30 ∷ []) ∷ idle 30 20 (40 ∷ []) ∷ idle 40 30 (10 ∷ []) ∷ [])

-- the members' step counts
abbrev pub counts : List Member → List ℕ
counts ms = map (λ m. m.steps) ms

-- settle's reply: rounds run, verdict, entries passed over; a round's: the verdict
abbrev pub settle_cases : List Case
settle_cases =
    -- after a join 5 - 4 + 2 = 3 rounds, and verdict 2; each member takes three steps, and 20 one more, since it looks at 25 in the second
    (rounds_run 9 joined25 ∷ verdict (after_rounds 3 joined25) ∷ counts (after_rounds 3 joined25).members gives 3 ∷ 2 ∷ 3 ∷ 4 ∷ 3 ∷ 3 ∷ 3 ∷ []) ∷
    -- the limit reached
    (settle_reply 1 joined25 gives 1 ∷ 1 ∷ 0 ∷ []) ∷
    -- limit 0; no round for an ideal table; a single round
    (settle_reply 0 joined25 ++ settle_reply 9 (ring4 10 40) ++ round_reply joined25 gives 0 ∷ 1 ∷ 0 ∷ 0 ∷ 2 ∷ 0 ∷ 1 ∷ []) ∷
    -- 10 finishes its pending step and takes one more, 30 and 50 take one each; the notice of the first is delivered
    (counts (after_round waiting30).members ++ round_reply waiting30 gives 2 ∷ 1 ∷ 1 ∷ 2 ∷ []) ∷
    -- 10 clears its dead candidate, with a notice that is lost, then "again", then "done", the other three take one step each
    (counts (after_round waiting15).members ++ round_reply waiting15 gives 3 ∷ 1 ∷ 1 ∷ 1 ∷ 2 ∷ []) ∷
    -- 10 takes up 30, which was pending, looks at 20 and takes it up: r + 2 steps, as many as a round can have of a member
    (counts (after_round nearer20).members ++ round_reply nearer20 gives 3 ∷ 1 ∷ 1 ∷ 1 ∷ 2 ∷ []) ∷ []

pub settles : map (λ c. c.computed) settle_cases ≡ map (λ c. c.expected) settle_cases
unfolding verdict sound ideal ideal_member candidate_inside between after stabilize stabilize_from_successor stabilize_from_predecessor stabilize_reply next_step renews
    delivered last_step finished after_turn after_round space
settles = refl

-- 14 for two members, 1 for no table, and neither for a sound table that is not ideal
pub settle_refusals : settle_refusal (words_of (ring2 20)) ∷ settle_refusal blank ∷ settle_refusal (words_of joined25) ∷ [] ≡ 14 ∷ 1 ∷ 0 ∷ []
unfolding settle_refusal sound ideal ideal_member candidate_inside between well_formed formed formed_member space
settle_refusals = refl

-- Req 06: lists with dead entries before, between and after live ones: 10 passes over 15, 20 over 22 and 24, 30 over none

abbrev pub stale : List Member
stale = idle 10 30 (15 ∷ 20 ∷ 25 ∷ []) ∷ idle 20 10 (22 ∷ 24 ∷ 30 ∷ []) ∷ idle 30 20 (10 ∷ 12 ∷ 20 ∷ []) ∷ []

-- the entries passed over
abbrev pub passed_cases : List Case
passed_cases =
    -- by each member, by all, and of a list without a live entry all
    (map (passed_by stale) stale ++ passed_by_all stale ∷ (searched stale (15 ∷ 25 ∷ [])).passed ∷ [] gives 1 ∷ 2 ∷ 0 ∷ 3 ∷ 2 ∷ []) ∷
    -- find's fourth value: of the only member stood at
    ((lookup stale 10 20).values gives 20 ∷ 10 ∷ 0 ∷ 1 ∷ []) ∷
    -- of two, the first and the last one's in it
    ((lookup stale 10 25).values gives 30 ∷ 20 ∷ 1 ∷ 3 ∷ []) ∷
    ((lookup stale 30 15).values gives 20 ∷ 10 ∷ 1 ∷ 1 ∷ []) ∷
    ((lookup stale 20 5).values gives 10 ∷ 30 ∷ 1 ∷ 2 ∷ []) ∷
    -- 8 with its member alone
    ((lookup (members_in (lone (7 ∷ 8 ∷ []))) 50 9).number ∷ (lookup (members_in (lone (7 ∷ 8 ∷ []))) 50 9).values gives 8 ∷ 50 ∷ []) ∷ []

pub passes : map (λ c. c.computed) passed_cases ≡ map (λ c. c.expected) passed_cases
unfolding between
passes = refl

-- settle's third value is of the table as it began, with no round and with one: 10 passes over 20 at first, and over none then
pub settle_passes : settle_reply 0 waiting15 ++ settle_reply 9 waiting15 ≡ 0 ∷ 1 ∷ 1 ∷ 1 ∷ 2 ∷ 1 ∷ []
unfolding verdict sound ideal ideal_member candidate_inside between after stabilize stabilize_from_successor stabilize_from_predecessor stabilize_reply next_step renews
    delivered last_step finished after_turn after_round space
settle_passes = refl

-- Req 07: the step counts of the members 10, 20 and 30 of (h), and the words and bytes that have them

abbrev pub count_cases : List Case
count_cases =
    -- new and join give 0; a step of 20 counts for 20 alone, one of no member for nobody
    (counts (members_in joined_h) ++ counts (members_in (stabilize_words joined_h 20)) ++ counts (members_in (stabilize_words table_h 25)) gives 0 ∷ 0 ∷ 0 ∷ 0 ∷ 0 ∷ 1 ∷ 0 ∷ 0 ∷ 0 ∷ 0 ∷ 0 ∷ []) ∷
    -- records that move keep theirs; 20, which was lost and joins again, starts at 0
    (counts (members_in (run (Stabilize 20 ∷ Stabilize 30 ∷ Stabilize 30 ∷ Fail 20 ∷ Stabilize 10 ∷ []) table_h)) gives 1 ∷ 2 ∷ []) ∷
    (counts (members_in (run (Stabilize 20 ∷ Stabilize 30 ∷ Stabilize 30 ∷ Fail 20 ∷ Stabilize 10 ∷ Join 20 10 ∷ []) table_h)) gives 1 ∷ 0 ∷ 2 ∷ []) ∷
    -- a loss frees r + 5 words, the count among them
    (drop (size (table_of lost_h)) (take 24 (fail_words (stabilize_words table_h 30) 30)) gives replicate 7 0) ∷
    -- the largest word is the last
    (map next_step (0 ∷ 4294967294 ∷ 4294967295 ∷ []) gives 1 ∷ 4294967295 ∷ 4294967295 ∷ []) ∷
    -- a header with a step count is none
    (map (λ s. bit (well_formed (1 ∷ 0 ∷ s ∷ []))) (0 ∷ 1 ∷ 4294967295 ∷ []) gives 1 ∷ 0 ∷ 0 ∷ []) ∷
    -- two tables of the older layout, whose records had no count: read with one they are well-formed by chance
    (bit (well_formed (1 ∷ 1 ∷ 0 ∷ 5 ∷ 5 ∷ 0 ∷ 0 ∷ 5 ∷ 77 ∷ [])) ∷ bit (well_formed (1 ∷ 2 ∷ 0 ∷ 5 ∷ 9 ∷ 0 ∷ 0 ∷ 9 ∷ 9 ∷ 7 ∷ 0 ∷ 0 ∷ 0 ∷ 3 ∷ 4 ∷ [])) ∷ [] gives 1 ∷ 1 ∷ []) ∷
    -- a record and an image with the count 258
    (record_of (with_steps 258 (idle 5 6 (7 ∷ 8 ∷ []))) gives 5 ∷ 6 ∷ 0 ∷ 0 ∷ 7 ∷ 8 ∷ 258 ∷ []) ∷
    (image_of (table_with 1 (with_steps 258 (idle 5 6 (7 ∷ [])) ∷ []))
    gives 1 ∷ 0 ∷ 7 ∷ 1 ∷ 0 ∷ 1 ∷ 0 ∷ 0 ∷ 0 ∷ 0 ∷ 2 ∷ 0 ∷ 21 ∷ 0 ∷ 0 ∷ 0 ∷ 5 ∷ 0 ∷ 0 ∷ 0 ∷ 6 ∷ 0 ∷ 0 ∷ 0 ∷ 0 ∷ 0 ∷ 0 ∷ 0 ∷ 0 ∷ 7 ∷ 0 ∷ 0 ∷ 1 ∷ 2 ∷ 3 ∷ 0 ∷ 0 ∷ []) ∷
    -- a first field with a step count is no image's
    (map (λ s. bit (is_image (1 ∷ 0 ∷ 7 ∷ 1 ∷ 0 ∷ 0 ∷ 0 ∷ 0 ∷ 0 ∷ s ∷ 3 ∷ 0 ∷ 0 ∷ []))) (0 ∷ 1 ∷ []) gives 1 ∷ 0 ∷ []) ∷ []

pub step_counts : map (λ c. c.computed) count_cases ≡ map (λ c. c.expected) count_cases
unfolding run call_words join_words join_refusal full fail_words stabilize_words member_refusal stabilize stabilize_from_successor stabilize_from_predecessor next_step after
    between new_words new_refusal no_new_table is_image well_formed formed formed_member space
step_counts = refl

-- Req 08: a record, and the same with another identifier, predecessor, pending, candidate, first entry, last entry, step count

abbrev pub record20 : Member
record20 = await_candidate 25 (idle 20 10 (30 ∷ 40 ∷ []))

pub alike_records : map (λ m. bit (alike_member record20 m)) (record20 ∷ await_candidate 25 (idle 21 10 (30 ∷ 40 ∷ [])) ∷ with_predecessor 11 record20 ∷ with_pending 0 25 record20
    ∷ await_candidate 26 record20 ∷ with_successors (31 ∷ 40 ∷ []) record20 ∷ with_successors (30 ∷ 41 ∷ []) record20 ∷ with_steps 1 record20 ∷ [])
    ≡ 1 ∷ 0 ∷ 0 ∷ 0 ∷ 0 ∷ 0 ∷ 0 ∷ 1 ∷ []
unfolding alike_member
alike_records = refl

-- the table of (h) beside itself with the word k changed to x; words 10 to 16 are the record of 20

abbrev pub changed : ℕ → ℕ → List ℕ
changed k x = (alike_answer table_h (set table_h k x)).values

-- 20 has a candidate pending
abbrev pub waiting : ℕ → List ℕ
waiting c = set (set table_h 12 1) 13 c

-- two members and no room for a third, 1 with a candidate pending that is no member
abbrev pub hidden : ℕ → List ℕ
hidden c = words_of (table_with 1 (idle 0 1 (1 ∷ []) ∷ await_candidate c (idle 1 0 (0 ∷ [])) ∷ []))

-- yes or no
abbrev pub alike_cases : List Case
alike_cases =
    -- identifier, predecessor, pending, first and last entry are compared
    (changed 10 21 ++ changed 11 30 ++ changed 12 1 ++ changed 14 25 ++ changed 15 25 gives 0 ∷ 0 ∷ 0 ∷ 0 ∷ 0 ∷ []) ∷
    -- candidates too
    ((alike_answer (waiting 25) (waiting 25)).values ++ (alike_answer (waiting 25) (waiting 26)).values gives 1 ∷ 0 ∷ []) ∷
    -- the step count is not, nor is a word after the last record
    (changed 16 1 ++ changed 24 1 gives 1 ∷ 1 ∷ []) ∷
    -- other members, one member less, another r
    ((alike_answer table_h (ring_of (10 ∷ 20 ∷ 31 ∷ []))).values ++ (alike_answer table_h lost_h).values ++ (alike_answer table_h (new_words blank 1 (10 ∷ 20 ∷ 30 ∷ []))).values gives 0 ∷ 0 ∷ 0 ∷ []) ∷
    -- 1 for either
    ((alike_answer table_h blank).number ∷ (alike_answer blank table_h).number ∷ [] gives 1 ∷ 1 ∷ []) ∷
    -- slices of other lengths: yes, and yet a join is accepted on one and gets 5 on the other
    ((alike_answer lost_h tight_h).values ++ (join_answer lost_h 35 30).number ∷ (join_answer tight_h 35 30).number ∷ [] gives 1 ∷ 0 ∷ 5 ∷ []) ∷
    -- no, of two sound tables; the one step that reads the candidate replies the same, and forgets it, and alike says yes
    ((alike_answer (hidden 2) (hidden 3)).values ++ verdict (table_of (hidden 2)) ∷ verdict (table_of (hidden 3)) ∷ [] gives 0 ∷ 2 ∷ 2 ∷ []) ∷
    ((stabilize_answer (hidden 2) 1).values ++ (stabilize_answer (hidden 3) 1).values gives 2 ∷ 0 ∷ 2 ∷ 0 ∷ []) ∷
    ((alike_answer (stabilize_words (hidden 2) 1) (stabilize_words (hidden 3) 1)).values gives 1 ∷ []) ∷
    -- only 1 could let 2 or 3 join, and there is no room
    ((join_answer (hidden 2) 2 1).number ∷ (join_answer (hidden 3) 3 1).number ∷ [] gives 5 ∷ 5 ∷ []) ∷ []

pub finer_alike : map (λ c. c.computed) alike_cases ≡ map (λ c. c.expected) alike_cases
unfolding alike_answer alike_refusal alike alike_member join_answer join_refusal full fail_words stabilize_answer stabilize_words stabilize_reply member_refusal stabilize
    stabilize_from_successor stabilize_from_predecessor next_step between new_words new_refusal no_new_table verdict sound ideal ideal_member candidate_inside well_formed formed
    formed_member space
finer_alike = refl

-- what each call of a list tells, on the state that it is given: of numbers that are added up
pub each_tells_law : each_tells (λ s c. s + c) (λ s c. 10 * s + c) (1 ∷ 2 ∷ 3 ∷ []) 0 ≡ 1 ∷ 12 ∷ 33 ∷ []
each_tells_law = refl

-- and so what a list of calls answers, one by one
pub in_order : answers (Called (Join 25 20) ∷ Called (Join 25 20) ∷ Called (Stabilize 25) ∷ Called (Fail 25) ∷ Called (Stabilize 25) ∷ Settle 9 ∷ SettleAt (5 ∷ []) [] ∷ SettleAt (5 ∷ 6 ∷ []) (5 ∷ []) ∷ Round ∷ []) table_h
    ≡ accepted (4 ∷ []) ∷ declined 2 ∷ accepted (2 ∷ 30 ∷ []) ∷ accepted (3 ∷ []) ∷ declined 3 ∷ accepted (0 ∷ 2 ∷ 0 ∷ []) ∷ declined 15
    ∷ accepted (0 ∷ 2 ∷ 0 ∷ []) ∷ accepted (2 ∷ []) ∷ []
unfolding answers service_answer service_words call_answer call_words join_answer join_words join_refusal full fail_answer fail_words stabilize_answer stabilize_words
    stabilize_reply member_refusal stabilize stabilize_from_successor stabilize_from_predecessor next_step between after renews delivered last_step finished after_turn
    after_round settle_answer settle_words settle_at_answer settle_at_words settle_at_refusal bad_windows right_window bad_minutes in_window round_answer round_words settle_refusal new_words new_refusal no_new_table verdict sound ideal ideal_member candidate_inside
    well_formed formed formed_member space
in_order = refl

-- Req 09: a window from 100 to 160, and one that runs over the week's end, from 10000 to 60

abbrev pub nights : List ℕ
nights = 100 ∷ 160 ∷ 10000 ∷ 60 ∷ []

-- is each of the minutes open?
abbrev pub opens : List ℕ → List ℕ → List ℕ
opens vs [] = []
opens vs (m ∷ ms) = (is_open_answer vs m).values ++ opens vs ms

-- the window from 5 to 6, so many times
abbrev pub times : ℕ → List ℕ
times zero = []
times (suc k) = 5 ∷ 6 ∷ times k

abbrev pub window_cases : List Case
window_cases =
    -- a window holds its start and not its end
    (opens nights (99 ∷ 100 ∷ 159 ∷ 160 ∷ []) gives 0 ∷ 1 ∷ 1 ∷ 0 ∷ []) ∷
    -- and runs over the week's end
    (opens nights (9999 ∷ 10000 ∷ 10079 ∷ 0 ∷ 59 ∷ 60 ∷ []) gives 0 ∷ 1 ∷ 1 ∷ 1 ∷ 1 ∷ 0 ∷ []) ∷
    -- the next open minute of an open one is itself, of a closed one the next start
    ((next_open_answer nights 130).values ++ (next_open_answer nights 60).values gives 1 ∷ 130 ∷ 1 ∷ 100 ∷ []) ∷
    -- it may be round the end; windows that overlap or follow one another are no matter
    ((next_open_answer (20 ∷ 30 ∷ []) 10070).values ++ (next_open_answer (50 ∷ 70 ∷ 40 ∷ 60 ∷ 70 ∷ 80 ∷ []) 30).values gives 1 ∷ 20 ∷ 1 ∷ 40 ∷ []) ∷
    -- there is none without windows
    (opens [] (0 ∷ 10079 ∷ []) ++ (next_open_answer [] 7).values gives 0 ∷ 0 ∷ 0 ∷ []) ∷
    -- 15: equal ends, a minute over 10079 as start, as end or asked, a word without a partner, 17 windows; 16 of them are right
    (map (λ vs. open_refusal vs 7) ((5 ∷ 5 ∷ []) ∷ (10080 ∷ 5 ∷ []) ∷ (5 ∷ 10080 ∷ []) ∷ (5 ∷ 6 ∷ 7 ∷ []) ∷ times 17 ∷ times 16 ∷ []) ++ map (open_refusal nights) (10079 ∷ 10080 ∷ [])
    gives 15 ∷ 15 ∷ 15 ∷ 15 ∷ 15 ∷ 0 ∷ 0 ∷ 15 ∷ []) ∷ []

pub windows : map (λ c. c.computed) window_cases ≡ map (λ c. c.expected) window_cases
unfolding is_open_answer next_open_answer open_refusal bad_windows right_window in_window next_open first_open
windows = refl

-- settle with windows: its rounds, or its reply: rounds run, verdict, entries passed over. Of Req 05's tables joined25 takes three rounds, waiting15 one
abbrev pub settle_at_cases : List Case
settle_at_cases =
    -- a round at each open minute and none at a closed one; 10080 is minute 0 of the next week
    (rounds_at (windows_in nights) (99 ∷ 100 ∷ 160 ∷ 10080 ∷ []) joined25 ∷ [] gives 2 ∷ []) ∷
    -- it stops where the verdict is 2; the sum is of the table as it began
    (settle_at_reply (windows_in nights) (100 ∷ 101 ∷ 102 ∷ []) waiting15 ++ settle_at_reply (windows_in nights) (100 ∷ []) (ring4 10 40) gives 1 ∷ 2 ∷ 1 ∷ 0 ∷ 2 ∷ 0 ∷ []) ∷
    -- no minute; closed minutes, the second of them open if the remainder by 1440 decided
    (settle_at_reply (windows_in nights) [] waiting15 ++ rounds_at (windows_in nights) (60 ∷ 1540 ∷ []) waiting15 ∷ [] gives 0 ∷ 1 ∷ 1 ∷ 0 ∷ []) ∷
    -- open minutes of a list
    (open_minutes (windows_in nights) (60 ∷ 100 ∷ 10180 ∷ 10240 ∷ []) ∷ [] gives 2 ∷ []) ∷ []

pub settles_at : map (λ c. c.computed) settle_at_cases ≡ map (λ c. c.expected) settle_at_cases
unfolding in_window verdict sound ideal ideal_member candidate_inside between after stabilize stabilize_from_successor stabilize_from_predecessor stabilize_reply next_step
    renews delivered last_step finished after_turn after_round space
settles_at = refl

-- 1 before 15, 15 before 16, 16 before 14, and then 14; lists are judged whole, with closed minutes and on an ideal table too
pub settle_at_refusals : settle_at_refusal blank (5 ∷ []) (2 ∷ 1 ∷ []) ∷ settle_at_refusal (words_of (ring2 20)) (5 ∷ []) (2 ∷ 1 ∷ []) ∷ settle_at_refusal (words_of (ring2 20)) nights (2 ∷ 1 ∷ [])
    ∷ settle_at_refusal (words_of (ring2 20)) nights (1 ∷ 2 ∷ []) ∷ settle_at_refusal (words_of (ring4 10 40)) [] (1 ∷ 4294967295 ∷ []) ∷ settle_at_refusal (words_of (ring4 10 40)) [] (7 ∷ 7 ∷ [])
    ∷ settle_at_refusal (words_of joined25) [] (1 ∷ 4294967294 ∷ []) ∷ []
    ≡ 1 ∷ 15 ∷ 16 ∷ 14 ∷ 16 ∷ 16 ∷ 0 ∷ []
unfolding settle_at_refusal bad_windows right_window bad_minutes sound ideal ideal_member candidate_inside between well_formed formed formed_member space
settle_at_refusals = refl
