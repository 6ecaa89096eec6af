-- Settle's bound, stated (document 02, Req 05): how many rounds make every sound table ideal. With model this is all that its reader must believe; BoundProof proves it.
use Rattle.std.specs.Prelude.{ℕ, zero, suc, ◌+◌, ◌-◌, ◌*◌, ◌≤◌, ◌<◌, ◌≡◌, Bool, true, false, List, [], ◌∷◌, length, get_or, drop}
use Rattle.model.specs.Lists.{every}
use Rattle.model.specs.Table.{Table, size, table_of, members_in, formed, well_formed}
use Rattle.model.specs.Ring.{live, principals, sound, verdict, passed_by_all}
use Rattle.model.specs.Answer.{Answer, accepted}
use Rattle.model.specs.Steps.{uncounted, stabilized}
use Rattle.model.specs.Settle.{is_done, last_step, finished, after_turn}
use Rattle.model.specs.Calls.{round_answer, round_words, settle_answer, settle_words, settle_at_answer}
use Rattle.model.specs.Service.{Service, Called, Round, Settle, SettleAt, service_words, served}

-- members - principals + r: the rounds that are enough, by the audit's own numbers
abbrev pub enough : List ℕ → ℕ
enough ws = (length (members_in ws) - principals (members_in ws)) + (table_of ws).r

-- the slice after k rounds
abbrev pub rounds : ℕ → List ℕ → List ℕ
rounds zero ws = ws
rounds (suc k) ws = rounds k (round_words ws)

-- a slice at rest: its table is sound and ideal, and a round changes nothing of it but step counts, and no word after it
pub record AtRest (ws : List ℕ) : Type 0 where
  pub verdict_2 : verdict (table_of ws) ≡ 2
  pub replies_2 : round_answer ws ≡ accepted (2 ∷ [])
  pub counts_only : uncounted (table_of (round_words ws)) ≡ uncounted (table_of ws)
  pub rest_stays : drop (size (table_of ws)) (round_words ws) ≡ drop (size (table_of ws)) ws

-- from every sound table so many rounds, and any more, lead to rest
abbrev pub SettlesAfter : (List ℕ → ℕ) → Type 0
SettlesAfter bound = (ws : List ℕ) → well_formed ws ≡ true → sound (table_of ws) ≡ true → (k : ℕ) → bound ws ≤ k → AtRest (rounds k ws)

-- members - 1; 255, since no table has more than 256 members; and document 02's number, 2 × s × s + r + 1 for s members
abbrev pub one_less : List ℕ → ℕ
one_less ws = length (members_in ws) - 1

abbrev pub most_rounds : List ℕ → ℕ
most_rounds ws = 255

abbrev pub document02 : List ℕ → ℕ
document02 ws = 2 * length (members_in ws) * length (members_in ws) + (table_of ws).r + 1

-- of a sound table the first is no more than the second
abbrev pub EnoughIsFew : Type 0
EnoughIsFew = (ws : List ℕ) → sound (table_of ws) ≡ true → enough ws ≤ one_less ws

-- from ws the answer a and the slice us are those of a settle that ends: it reports verdict 2, after at most `enough` rounds, and what all members of the table as
-- it began pass over; and 2 is the verdict then
pub record Ends (ws : List ℕ) (a : Answer) (us : List ℕ) : Type 0 where
  pub rounds_run_law : ℕ
  pub few : rounds_run_law ≤ enough ws
  pub reports : a ≡ accepted (rounds_run_law ∷ 2 ∷ passed_by_all (members_in ws) ∷ [])
  pub leaves_2 : verdict (table_of us) ≡ 2

-- so it does on every sound table, with so high a limit
abbrev pub SettleEnds : (List ℕ → ℕ) → Type 0
SettleEnds bound = (ws : List ℕ) → well_formed ws ≡ true → sound (table_of ws) ≡ true → (limit : ℕ) → bound ws ≤ limit → Ends ws (settle_answer ws limit) (settle_words ws limit)

-- whatever the limit: us is the slice that as many rounds leave as a reports, and a reports its verdict; each round was run on another verdict than 2, and where
-- they are fewer than the limit, it is 2
pub record Leaves (ws : List ℕ) (limit : ℕ) (a : Answer) (us : List ℕ) : Type 0 where
  pub rounds_run_law : ℕ
  pub few : rounds_run_law ≤ limit
  pub leaves : us ≡ rounds rounds_run_law ws
  pub reports : a ≡ accepted (rounds_run_law ∷ verdict (table_of us) ∷ passed_by_all (members_in ws) ∷ [])
  pub none_ideal : (j : ℕ) → j < rounds_run_law → verdict (table_of (rounds j ws)) ≡ 2 → ⊥
  pub early_ideal : rounds_run_law < limit → verdict (table_of us) ≡ 2

abbrev pub SettleLeaves : Type 0
SettleLeaves = (ws : List ℕ) → well_formed ws ≡ true → sound (table_of ws) ≡ true → (limit : ℕ) → Leaves ws limit (settle_answer ws limit) (settle_words ws limit)

-- rounds and settles, with windows too, one after the other: how many rounds each of them runs, settle as many as it reports; and all of them together
abbrev pub is_upkeep : Service → Bool
is_upkeep (Called c) = false
is_upkeep Round = true
is_upkeep (Settle limit) = true
is_upkeep (SettleAt vs ts) = true

abbrev pub rounds_by : List ℕ → Service → ℕ
rounds_by ws (Called c) = 0
rounds_by ws Round = 1
rounds_by ws (Settle limit) = get_or (settle_answer ws limit).values 0 0
rounds_by ws (SettleAt vs ts) = get_or (settle_at_answer ws vs ts).values 0 0

abbrev pub rounds_in : List Service → List ℕ → ℕ
rounds_in [] ws = 0
rounds_in (s ∷ ss) ws = rounds_by ws s + rounds_in ss (service_words ws s)

-- from every sound table rounds and settles that run so many rounds together, or more, lead to rest
abbrev pub UpkeepSettles : (List ℕ → ℕ) → Type 0
UpkeepSettles bound = (ss : List Service) (ws : List ℕ) → well_formed ws ≡ true → sound (table_of ws) ≡ true → every is_upkeep ss ≡ true → bound ws ≤ rounds_in ss ws → AtRest (served ss ws)

-- T' is T after stabilize steps of n until one replies "done", and its notice delivered: as until_done says, but with no number that bounds the steps
pub data UntilDone (n : ℕ) : Table → Table → Type 0 where
  last : {T : Table} → is_done n T ≡ true → UntilDone n T (last_step n T)
  more : {T T' : Table} → is_done n T ≡ false → UntilDone n (stabilized n T) T' → UntilDone n T T'

-- so a turn ends on every sound table: the bound in its definition is never what ends it
abbrev pub StepsEnd : Type 0
StepsEnd = (T : Table) → formed T ≡ true → sound T ≡ true → (n : ℕ) → live T.members n ≡ true → UntilDone n (finished n T) (after_turn n T)
