-- Document 02, Req 05: a member's turn, a round of turns, and rounds until the table is ideal; all made of the steps of Steps.
use Rattle.std.specs.Prelude.{ℕ, zero, suc, Bool, List, [], ◌∷◌, eqb, get_or, if◌then◌else◌}
use Rattle.model.specs.Table.{Table, ids}
use Rattle.model.specs.Ring.{live, named, is_pending, verdict, passed_by_all}
use Rattle.model.specs.Steps.{stabilize_reply, stabilized, rectified}

-- the notice of n is delivered to h, which rectifies; a notice to a non-member is lost
unfoldable pub delivered : ℕ → ℕ → Table → Table
delivered n h T = if live T.members h then rectified h n T else T

-- what the next stabilize step of n replies
abbrev pub next_reply : ℕ → Table → List ℕ
next_reply n T = stabilize_reply T.members (named T.members n)

-- it replies "done"
abbrev pub is_done : ℕ → Table → Bool
is_done n T = eqb (get_or (next_reply n T) 0 0) 2

-- a stabilize step of n that replies "done" and h, and its notice delivered to h
unfoldable pub last_step : ℕ → Table → Table
last_step n T = delivered n (get_or (next_reply n T) 1 0) (stabilized n T)

-- a pending step of n, which always replies "done", is finished and its notice delivered
unfoldable pub finished : ℕ → Table → Table
finished n T = if is_pending (named T.members n) then last_step n T else T

-- stabilize steps of n until one replies "done", and its notice delivered. The number k, which document 02 does not have, bounds the
-- steps: r + 1 never end them on a sound table (`steps_end`: theory, BoundProof)
abbrev pub until_done : ℕ → ℕ → Table → Table
until_done zero n T = T
until_done (suc k) n T = if is_done n T then last_step n T else until_done k n (stabilized n T)

-- the table after a turn of n: first a pending step finished, then steps until "done"
unfoldable pub after_turn : ℕ → Table → Table
after_turn n T = until_done (suc T.r) n (finished n T)

-- after turns of the members ns, in order
abbrev pub after_turns : List ℕ → Table → Table
after_turns [] T = T
after_turns (n ∷ ns) T = after_turns ns (after_turn n T)

-- after a round: the turn of each member, by rising identifier
unfoldable pub after_round : Table → Table
after_round T = after_turns (ids T.members) T

-- after k rounds
abbrev pub after_rounds : ℕ → Table → Table
after_rounds zero T = T
after_rounds (suc k) T = after_rounds k (after_round T)

-- how many rounds settle runs: the verdict is looked at before each, and 2 ends it, or so many rounds run
abbrev pub rounds_run : ℕ → Table → ℕ
rounds_run zero T = 0
rounds_run (suc limit) T = if eqb (verdict T) 2 then 0 else suc (rounds_run limit (after_round T))

-- the table after settle
abbrev pub after_settle : ℕ → Table → Table
after_settle limit T = after_rounds (rounds_run limit T) T

-- a round replies the verdict after it
abbrev pub round_reply : Table → List ℕ
round_reply T = verdict (after_round T) ∷ []

-- what is replied where so many rounds were run: their number, the verdict, and the entries passed over by all members of the table as it began
-- (document 02, Req 06)
abbrev pub ran_reply : ℕ → Table → List ℕ
ran_reply k T = k ∷ verdict (after_rounds k T) ∷ passed_by_all T.members ∷ []

abbrev pub settle_reply : ℕ → Table → List ℕ
settle_reply limit T = ran_reply (rounds_run limit T) T
