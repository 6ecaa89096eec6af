-- The seven calls of a list as one type, and the table that a list of them leads to.
use Rattle.std.specs.Prelude.{ℕ, Bool, true, false, not, ◌||◌, List, [], ◌∷◌, eqb}
use Rattle.model.specs.Fold.{after_all, each_meets}
use Rattle.model.specs.Answer.{Answer}
use Rattle.model.specs.Calls.{join_answer, join_words, stabilize_answer, stabilize_words, rectify_answer, rectify_words, fail_answer, fail_words, leave_answer, leave_words, lookup_answer, audit_answer}

-- a call; document 01's withdrawal is Leave, its loss Fail, its find Lookup
pub data Call : Type 0 where
  Join : (j p : ℕ) → Call
  Leave : (n : ℕ) → Call
  Fail : (n : ℕ) → Call
  Stabilize : (n : ℕ) → Call
  Rectify : (n q : ℕ) → Call
  Lookup : (n k : ℕ) → Call
  Audit : Call

-- the identifiers and the key that a call is given
abbrev pub numbers_of : Call → List ℕ
numbers_of (Join j p) = j ∷ p ∷ []
numbers_of (Leave n) = n ∷ []
numbers_of (Fail n) = n ∷ []
numbers_of (Stabilize n) = n ∷ []
numbers_of (Rectify n q) = n ∷ q ∷ []
numbers_of (Lookup n k) = n ∷ k ∷ []
numbers_of Audit = []

-- what a call answers on a slice
unfoldable pub call_answer : List ℕ → Call → Answer
call_answer ws (Join j p) = join_answer ws j p
call_answer ws (Leave n) = leave_answer ws n
call_answer ws (Fail n) = fail_answer ws n
call_answer ws (Stabilize n) = stabilize_answer ws n
call_answer ws (Rectify n q) = rectify_answer ws n q
call_answer ws (Lookup n k) = lookup_answer ws n k
call_answer ws Audit = audit_answer ws

-- the slice after a call
unfoldable pub call_words : List ℕ → Call → List ℕ
call_words ws (Join j p) = join_words ws j p
call_words ws (Leave n) = leave_words ws n
call_words ws (Fail n) = fail_words ws n
call_words ws (Stabilize n) = stabilize_words ws n
call_words ws (Rectify n q) = rectify_words ws n q
call_words ws (Lookup n k) = ws
call_words ws Audit = ws

-- the slice after a list of calls, each on what the last one left
unfoldable pub run : List Call → List ℕ → List ℕ
run cs ws = after_all call_words cs ws

-- a call is accepted if no number declines it
abbrev pub accepts : List ℕ → Call → Bool
accepts ws c = eqb (call_answer ws c).number 0

-- a loss, if accepted, is one that a withdrawal in its place would be granted
unfoldable pub granted_call : List ℕ → Call → Bool
granted_call ws (Join j p) = true
granted_call ws (Leave n) = true
granted_call ws (Fail n) = not (accepts ws (Fail n)) || accepts ws (Leave n)
granted_call ws (Stabilize n) = true
granted_call ws (Rectify n q) = true
granted_call ws (Lookup n k) = true
granted_call ws Audit = true

-- each loss of a list is such a one at its moment
unfoldable pub granted : List Call → List ℕ → Bool
granted cs ws = each_meets call_words granted_call cs ws

-- a call by which a member goes: an accepted withdrawal or loss
unfoldable pub goes : List ℕ → Call → Bool
goes ws (Join j p) = false
goes ws (Leave n) = accepts ws (Leave n)
goes ws (Fail n) = accepts ws (Fail n)
goes ws (Stabilize n) = false
goes ws (Rectify n q) = false
goes ws (Lookup n k) = false
goes ws Audit = false
