-- Each call's answer, and its buffers afterwards, for every input: what the calls' contracts cite.
use Rattle.std.specs.Prelude.{ℕ, List, [], ◌∷◌, ◌++◌, length, replicate}
use Rattle.model.specs.Lists.{option, bit, overlay}
use Rattle.model.specs.Table.{Table, table_of, members_in, words_of, record_size}
use Rattle.model.specs.Ring.{named}
use Rattle.model.specs.Answer.{Answer, accepted, answer, afterwards}
use Rattle.model.specs.Steps.{joined, stabilized, stabilize_reply, rectified, rectify_reply, without, lookup, audit_reply}
use Rattle.model.specs.New.{new_table}
use Rattle.model.specs.Findings.{Finding, findings}
use Rattle.model.specs.Alike.{alike}
use Rattle.model.specs.Image.{image_of, table_in}
use Rattle.model.specs.Held.{runs_of, bounds}
use Rattle.model.specs.Pairs.{principal_reply}
use Rattle.model.specs.Settle.{after_round, after_settle, round_reply, settle_reply}
use Rattle.model.specs.Windows.{windows_in, is_open, next_open, after_settle_at, settle_at_reply}
use Rattle.model.specs.Refusals.{join_refusal, member_refusal, leave_refusal, audit_refusal, findings_refusal, alike_refusal, new_refusal, write_refusal, read_refusal, held_refusal, settle_refusal, open_refusal, settle_at_refusal}

-- a slice with the table T in the place of its old table, and all later words as they were
abbrev pub written : Table → List ℕ → List ℕ
written T ws = overlay (words_of T) ws

-- a slice after a record was removed, which left the table T: the words of one record, just freed, are 0
abbrev pub written_freed : Table → List ℕ → List ℕ
written_freed T ws = overlay (words_of T ++ replicate (record_size T.r) 0) ws

-- Join

unfoldable pub join_answer : List ℕ → ℕ → ℕ → Answer
join_answer ws j p = answer (join_refusal ws j p) (accepted (length (joined j p (table_of ws)).members ∷ []))

unfoldable pub join_words : List ℕ → ℕ → ℕ → List ℕ
join_words ws j p = afterwards (join_refusal ws j p) (written (joined j p (table_of ws)) ws) ws

-- Stabilize

unfoldable pub stabilize_answer : List ℕ → ℕ → Answer
stabilize_answer ws n = answer (member_refusal ws n) (accepted (stabilize_reply (members_in ws) (named (members_in ws) n)))

unfoldable pub stabilize_words : List ℕ → ℕ → List ℕ
stabilize_words ws n = afterwards (member_refusal ws n) (written (stabilized n (table_of ws)) ws) ws

-- Rectify

unfoldable pub rectify_answer : List ℕ → ℕ → ℕ → Answer
rectify_answer ws n q = answer (member_refusal ws n) (accepted (rectify_reply (members_in ws) q (named (members_in ws) n)))

unfoldable pub rectify_words : List ℕ → ℕ → ℕ → List ℕ
rectify_words ws n q = afterwards (member_refusal ws n) (written (rectified n q (table_of ws)) ws) ws

-- Loss

unfoldable pub fail_answer : List ℕ → ℕ → Answer
fail_answer ws n = answer (member_refusal ws n) (accepted (length (without n (table_of ws)).members ∷ []))

unfoldable pub fail_words : List ℕ → ℕ → List ℕ
fail_words ws n = afterwards (member_refusal ws n) (written_freed (without n (table_of ws)) ws) ws

-- Withdrawal

unfoldable pub leave_answer : List ℕ → ℕ → Answer
leave_answer ws n = answer (leave_refusal ws n) (accepted (length (without n (table_of ws)).members ∷ []))

unfoldable pub leave_words : List ℕ → ℕ → List ℕ
leave_words ws n = afterwards (leave_refusal ws n) (written_freed (without n (table_of ws)) ws) ws

-- Find; it writes nothing

unfoldable pub lookup_answer : List ℕ → ℕ → ℕ → Answer
lookup_answer ws n k = answer (member_refusal ws n) (lookup (members_in ws) n k)

-- Audit; it writes nothing

unfoldable pub audit_answer : List ℕ → Answer
audit_answer ws = answer (audit_refusal ws) (accepted (audit_reply (table_of ws)))

-- New, over the words of a lent slice

unfoldable pub new_answer : List ℕ → ℕ → List ℕ → Answer
new_answer ws r xs = answer (new_refusal (length ws) r xs) (accepted (length xs ∷ []))

unfoldable pub new_words : List ℕ → ℕ → List ℕ → List ℕ
new_words ws r xs = afterwards (new_refusal (length ws) r xs) (written (new_table r xs) ws) ws

-- Findings, over a lent list of them

unfoldable pub findings_answer : List ℕ → List Finding → Answer
findings_answer ws fs = answer (findings_refusal ws (length fs)) (accepted (audit_reply (table_of ws)))

unfoldable pub findings_after : List ℕ → List Finding → List Finding
findings_after ws fs = afterwards (findings_refusal ws (length fs)) (overlay (findings (members_in ws)) fs) fs

-- Alike: 1 is yes, 0 is no

unfoldable pub alike_answer : List ℕ → List ℕ → Answer
alike_answer us vs = answer (alike_refusal us vs) (accepted (bit (alike (table_of us) (table_of vs)) ∷ []))

-- Image writing, over lent bytes

unfoldable pub write_answer : List ℕ → List ℕ → Answer
write_answer ws bs = answer (write_refusal ws (length bs)) (accepted (length (image_of (table_of ws)) ∷ []))

unfoldable pub write_bytes : List ℕ → List ℕ → List ℕ
write_bytes ws bs = afterwards (write_refusal ws (length bs)) (overlay (image_of (table_of ws)) bs) bs

-- Image reading, over the words of a lent slice

unfoldable pub read_answer : List ℕ → List ℕ → Answer
read_answer ws bs = answer (read_refusal (length ws) bs) (accepted (length (table_in bs).members ∷ []))

unfoldable pub read_words : List ℕ → List ℕ → List ℕ
read_words ws bs = afterwards (read_refusal (length ws) bs) (written (table_in bs) ws) ws

-- The keys that a member holds; it writes nothing

unfoldable pub held_answer : List ℕ → ℕ → List ℕ → Answer
held_answer ws n ks = answer (held_refusal ws n ks) (accepted (bounds (runs_of (members_in ws) n ks)))

-- The principal test; it writes nothing

unfoldable pub principal_answer : List ℕ → ℕ → Answer
principal_answer ws n = answer (member_refusal ws n) (accepted (principal_reply (members_in ws) n))

-- One round

unfoldable pub round_answer : List ℕ → Answer
round_answer ws = answer (settle_refusal ws) (accepted (round_reply (table_of ws)))

unfoldable pub round_words : List ℕ → List ℕ
round_words ws = afterwards (settle_refusal ws) (written (after_round (table_of ws)) ws) ws

-- Settle, with at most so many rounds

unfoldable pub settle_answer : List ℕ → ℕ → Answer
settle_answer ws limit = answer (settle_refusal ws) (accepted (settle_reply limit (table_of ws)))

unfoldable pub settle_words : List ℕ → ℕ → List ℕ
settle_words ws limit = afterwards (settle_refusal ws) (written (after_settle limit (table_of ws)) ws) ws

-- Is a minute of the week open: 1 is yes, 0 is no; it writes nothing

unfoldable pub is_open_answer : List ℕ → ℕ → Answer
is_open_answer vs m = answer (open_refusal vs m) (accepted (bit (is_open (windows_in vs) m) ∷ []))

-- The next open minute: 1 and the minute, or 0 for none; it writes nothing

unfoldable pub next_open_answer : List ℕ → ℕ → Answer
next_open_answer vs m = answer (open_refusal vs m) (accepted (option (next_open (windows_in vs) m) (0 ∷ []) (λ x. 1 ∷ x ∷ [])))

-- Settle with windows, at the minutes of a list

unfoldable pub settle_at_answer : List ℕ → List ℕ → List ℕ → Answer
settle_at_answer ws vs ts = answer (settle_at_refusal ws vs ts) (accepted (settle_at_reply (windows_in vs) ts (table_of ws)))

unfoldable pub settle_at_words : List ℕ → List ℕ → List ℕ → List ℕ
settle_at_words ws vs ts = afterwards (settle_at_refusal ws vs ts) (written (after_settle_at (windows_in vs) ts (table_of ws)) ws) ws
