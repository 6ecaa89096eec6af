-- Lists in which document 02's rounds and settles, with windows too, stand among the seven calls, and the table that such a list leads to.
use Rattle.std.specs.Prelude.{ℕ, Bool, true, false, not, List, []}
use Rattle.model.specs.Fold.{after_all, each_tells, each_meets}
use Rattle.model.specs.Answer.{Answer}
use Rattle.model.specs.Calls.{round_answer, round_words, settle_answer, settle_words, settle_at_answer, settle_at_words}
use Rattle.model.specs.Run.{Call, numbers_of, call_answer, call_words, granted_call, goes}

-- one of the seven calls, a round, settle with a limit, or settle with windows at the minutes of a list
pub data Service : Type 0 where
  Called : (c : Call) → Service
  Round : Service
  Settle : (limit : ℕ) → Service
  SettleAt : (windows minutes : List ℕ) → Service

-- the identifiers and the key that it is given
abbrev pub identifiers_of : Service → List ℕ
identifiers_of (Called c) = numbers_of c
identifiers_of Round = []
identifiers_of (Settle limit) = []
identifiers_of (SettleAt vs ts) = []

-- what it answers on a slice
unfoldable pub service_answer : List ℕ → Service → Answer
service_answer ws (Called c) = call_answer ws c
service_answer ws Round = round_answer ws
service_answer ws (Settle limit) = settle_answer ws limit
service_answer ws (SettleAt vs ts) = settle_at_answer ws vs ts

-- the slice after it
unfoldable pub service_words : List ℕ → Service → List ℕ
service_words ws (Called c) = call_words ws c
service_words ws Round = round_words ws
service_words ws (Settle limit) = settle_words ws limit
service_words ws (SettleAt vs ts) = settle_at_words ws vs ts

-- the slice after a list of them, each on what the last one left
unfoldable pub served : List Service → List ℕ → List ℕ
served ss ws = after_all service_words ss ws

-- what a list of them answers, one by one, each on what the last one left
unfoldable pub answers : List Service → List ℕ → List Answer
answers ss ws = each_tells service_words service_answer ss ws

-- a loss, if accepted, is one that a withdrawal in its place would be granted
unfoldable pub granted_service : List ℕ → Service → Bool
granted_service ws (Called c) = granted_call ws c
granted_service ws Round = true
granted_service ws (Settle limit) = true
granted_service ws (SettleAt vs ts) = true

-- each loss of a list is such a one at its moment
unfoldable pub granted_all : List Service → List ℕ → Bool
granted_all ss ws = each_meets service_words granted_service ss ws

-- by a call a member goes; by a round or a settle none does
unfoldable pub goes_service : List ℕ → Service → Bool
goes_service ws (Called c) = goes ws c
goes_service ws Round = false
goes_service ws (Settle limit) = false
goes_service ws (SettleAt vs ts) = false

-- by a list of them no member goes
unfoldable pub none_goes : List Service → List ℕ → Bool
none_goes ss ws = each_meets service_words (λ us s. not (goes_service us s)) ss ws
