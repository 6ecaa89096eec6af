-- Step counts, stated (document 02, Req 07): which calls change a member's count, and by how much. With model this is all that its reader must believe; CountsProof proves it.
use Rattle.std.specs.Prelude.{ℕ, zero, suc, ◌+◌, ◌*◌, ◌≤◌, ◌<◌, ◌≡◌, Bool, true, ◌&&◌, List, [], ◌∷◌, ltb, eqb, length, get_or, if◌then◌else◌}
use Rattle.model.specs.Lists.{bit}
use Rattle.model.specs.Table.{Table, word_limit, table_of, members_in, ids, formed, well_formed}
use Rattle.model.specs.Ring.{live, named, is_pending, sound}
use Rattle.model.specs.Steps.{stabilized}
use Rattle.model.specs.Settle.{is_done, finished, after_turn, after_round, rounds_run}
use Rattle.model.specs.Windows.{windows_in, rounds_at}
use Rattle.model.specs.Refusals.{join_refusal, new_refusal}
use Rattle.model.specs.Calls.{join_words, stabilize_words, new_words, round_words, settle_answer, settle_words}
use Rattle.model.specs.Fold.{each_meets}
use Rattle.model.specs.Run.{Call, Join, Leave, Fail, Stabilize, Rectify, Lookup, Audit, call_words, run, accepts}
use Rattle.model.specs.Service.{Service, Called, Round, Settle, SettleAt, service_answer, service_words, served}

-- the step count of the member n in a slice
abbrev pub steps_of : List ℕ → ℕ → ℕ
steps_of ws n = (named (members_in ws) n).steps

-- so many steps as a count has them: the largest word stands for itself and for any more
unfoldable pub counted : ℕ → ℕ
counted s = if ltb s word_limit then s else 4294967295

-- The stabilize steps that n takes

-- until one replies "done", where k bounds them: those of until_done
abbrev pub steps_until : ℕ → ℕ → Table → ℕ
steps_until zero n T = 0
steps_until (suc k) n T = if is_done n T then 1 else suc (steps_until k n (stabilized n T))

-- in a turn of its own: one if it is pending, and then until "done"
unfoldable pub steps_in_turn : ℕ → Table → ℕ
steps_in_turn n T = bit (is_pending (named T.members n)) + steps_until (suc T.r) n (finished n T)

-- in the turns of the members xs, in order: in its own alone
abbrev pub steps_in_turns : ℕ → List ℕ → Table → ℕ
steps_in_turns n [] T = 0
steps_in_turns n (x ∷ xs) T = (if eqb x n then steps_in_turn n T else 0) + steps_in_turns n xs (after_turn x T)

-- in a round, and in k of them
unfoldable pub steps_in_round : ℕ → Table → ℕ
steps_in_round n T = steps_in_turns n (ids T.members) T

abbrev pub steps_in_rounds : ℕ → ℕ → Table → ℕ
steps_in_rounds n zero T = 0
steps_in_rounds n (suc k) T = steps_in_round n T + steps_in_rounds n k (after_round T)

-- by one of the seven calls, if it is accepted: one by a stabilize step of n, none by any other
abbrev pub steps_by_call : ℕ → Call → ℕ
steps_by_call n (Join j p) = 0
steps_by_call n (Leave m) = 0
steps_by_call n (Fail m) = 0
steps_by_call n (Stabilize m) = bit (eqb m n)
steps_by_call n (Rectify m q) = 0
steps_by_call n (Lookup m k) = 0
steps_by_call n Audit = 0

-- by a call, a round or a settle, with windows too, if it is accepted
abbrev pub steps_by : ℕ → Table → Service → ℕ
steps_by n T (Called c) = steps_by_call n c
steps_by n T Round = steps_in_round n T
steps_by n T (Settle limit) = steps_in_rounds n (rounds_run limit T) T
steps_by n T (SettleAt vs ts) = steps_in_rounds n (rounds_at (windows_in vs) ts T) T

-- Lists of calls, of any kind: next is the slice after one
module _ {C : Type 0} (next : List ℕ → C → List ℕ) where
  -- the steps that all of a list make, each on what the last one left; made: those of one
  abbrev pub steps_of_all : (List ℕ → C → ℕ) → List C → List ℕ → ℕ
  steps_of_all made [] ws = 0
  steps_of_all made (c ∷ cs) ws = made ws c + steps_of_all made cs (next ws c)

  -- n is a member where the list begins, and after each of its calls
  abbrev pub stays_member : ℕ → List C → List ℕ → Bool
  stays_member n cs ws = live (members_in ws) n && each_meets next (λ us c. live (members_in (next us c)) n) cs ws

-- the steps of n in a list of the seven calls, and in one with rounds and settles, with windows too, among them; a refused one makes none
abbrev pub steps_in_calls : ℕ → List Call → List ℕ → ℕ
steps_in_calls n cs ws = steps_of_all call_words (λ us c. if accepts us c then steps_by_call n c else 0) cs ws

abbrev pub steps_in : ℕ → List Service → List ℕ → ℕ
steps_in n ss ws = steps_of_all service_words (λ us s. if eqb (service_answer us s).number 0 then steps_by n (table_of us) s else 0) ss ws

-- What they do to its count

-- while n stays a member, a list of the seven calls adds to its count the accepted stabilize steps of n, up to the largest word; the count is a word, as in
-- every slice
abbrev pub CallsCount : Type 0
CallsCount = (n : ℕ) (cs : List Call) (ws : List ℕ) → stays_member call_words n cs ws ≡ true → steps_of ws n < word_limit → steps_of (run cs ws) n ≡ counted (steps_of ws n + steps_in_calls n cs ws)

-- and so does one with rounds and settles among them
abbrev pub CountsOwnSteps : Type 0
CountsOwnSteps = (n : ℕ) (ss : List Service) (ws : List ℕ) → stays_member service_words n ss ws ≡ true → steps_of ws n < word_limit → steps_of (served ss ws) n ≡ counted (steps_of ws n + steps_in n ss ws)

-- a stabilize step of m, accepted or refused, leaves the count of every other
abbrev pub OthersStay : Type 0
OthersStay = (m n : ℕ) (ws : List ℕ) → (m ≡ n → ⊥) → steps_of (stabilize_words ws m) n ≡ steps_of ws n

-- k rounds are at least k and at most k times r + 2 steps of every member
abbrev pub RoundsAreSteps : Type 0
RoundsAreSteps = (T : Table) → formed T ≡ true → (n : ℕ) → live T.members n ≡ true → (k : ℕ) → (k ≤ steps_in_rounds n k T) × (steps_in_rounds n k T ≤ k * (T.r + 2))

-- from ws to us the count of n grows by so many, at least and at most, up to the largest word
pub record Adds (n least most : ℕ) (ws us : List ℕ) : Type 0 where
  pub steps : ℕ
  pub low : least ≤ steps
  pub high : steps ≤ most
  pub sum : steps_of us n ≡ counted (steps_of ws n + steps)

-- so a round adds at least 1 and at most r + 2, and settle at least as many as it reports rounds, and at most r + 2 times that
abbrev pub RoundAdds : Type 0
RoundAdds = (ws : List ℕ) → well_formed ws ≡ true → sound (table_of ws) ≡ true → (n : ℕ) → live (members_in ws) n ≡ true → Adds n 1 ((table_of ws).r + 2) ws (round_words ws)

abbrev pub SettleAdds : Type 0
SettleAdds = (ws : List ℕ) → well_formed ws ≡ true → sound (table_of ws) ≡ true → (n : ℕ) → live (members_in ws) n ≡ true → (limit : ℕ)
    → Adds n (get_or (settle_answer ws limit).values 0 0) (get_or (settle_answer ws limit).values 0 0 * ((table_of ws).r + 2)) ws (settle_words ws limit)

-- a shelf that joins starts at 0, and so does every member of a new table
abbrev pub JoinStarts : Type 0
JoinStarts = (ws : List ℕ) (j p : ℕ) → join_refusal ws j p ≡ 0 → steps_of (join_words ws j p) j ≡ 0

abbrev pub NewStarts : Type 0
NewStarts = (ws : List ℕ) (r : ℕ) (xs : List ℕ) → new_refusal (length ws) r xs ≡ 0 → (n : ℕ) → steps_of (new_words ws r xs) n ≡ 0

-- two readings of n's count, before and after a list: equal exactly if n took no step, and else they differ by its steps, unless the second is the largest word
pub record Tells (n : ℕ) (ss : List Service) (ws : List ℕ) : Type 0 where
  pub equal_none : steps_of (served ss ws) n ≡ steps_of ws n → steps_in n ss ws ≡ 0
  pub none_equal : steps_in n ss ws ≡ 0 → steps_of (served ss ws) n ≡ steps_of ws n
  pub differ : steps_of (served ss ws) n < 4294967295 → steps_of (served ss ws) n ≡ steps_of ws n + steps_in n ss ws

-- so they tell, where n stays a member and the first is below the largest word
abbrev pub TwoReadingsTell : Type 0
TwoReadingsTell = (n : ℕ) (ss : List Service) (ws : List ℕ) → stays_member service_words n ss ws ≡ true → steps_of ws n < 4294967295 → Tells n ss ws

-- a turn is at least 1 step of its member, and at most r + 2
abbrev pub TurnSteps : ℕ → Type 0
TurnSteps n = (T : Table) → (1 ≤ steps_in_turn n T) × (steps_in_turn n T ≤ T.r + 2)

-- what two readings s and t tell, where n took k steps between them
abbrev pub ReadingsTell : Type 0
ReadingsTell = (n : ℕ) (ss : List Service) (ws : List ℕ) (s k t : ℕ) → s < 4294967295 → t ≡ counted (s + k) → (t ≡ s → k ≡ 0) × (k ≡ 0 → t ≡ s) × (t < 4294967295 → t ≡ s + k)
