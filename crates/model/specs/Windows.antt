-- Document 02, Req 09: service hours, as windows of the week, and how many rounds settle runs at the open minutes of a list.
use Rattle.std.specs.Prelude.{ℕ, zero, suc, ◌%◌, Bool, true, false, ◌&&◌, ◌||◌, List, [], ◌∷◌, ltb, leb, eqb, if◌then◌else◌}
use Rattle.std.proofs.Math.Option.{Option, some, none}
use Rattle.model.specs.Lists.{any, count}
use Rattle.model.specs.Table.{Table}
use Rattle.model.specs.Ring.{verdict}
use Rattle.model.specs.Settle.{after_round, after_rounds, ran_reply}

-- how many minutes a week has: a minute of the week is any number below it
abbrev pub week : ℕ
week = 10080

-- a window, between two minutes of the week: it holds its start and not its end
pub record Window : Type 0 where
  pub start : ℕ
  pub end : ℕ

-- the window from one minute to another
abbrev pub window : ℕ → ℕ → Window
window s e = record { start = s; end = e }

-- the windows that words say, start and end by turns; a last word without a partner says none
abbrev pub windows_in : List ℕ → List Window
windows_in [] = []
windows_in (s ∷ []) = []
windows_in (s ∷ e ∷ vs) = window s e ∷ windows_in vs

-- each word has its partner
abbrev pub paired : List ℕ → Bool
paired [] = true
paired (s ∷ []) = false
paired (s ∷ e ∷ vs) = paired vs

-- the window holds the minute m of the week; where its end is below its start, it runs over the week's end
unfoldable pub in_window : ℕ → Window → Bool
in_window m w = if ltb w.end w.start then leb w.start m || ltb m w.end else leb w.start m && ltb m w.end

-- a minute of the week is open if some window holds it
abbrev pub is_open : List Window → ℕ → Bool
is_open hs m = any (in_window m) hs

-- the minute of the week, of a minute counted from a week's start
abbrev pub of_week : ℕ → ℕ
of_week t = t % week

-- the first open one of the k minutes from t on, as a minute of the week, or none
unfoldable pub first_open : List Window → ℕ → ℕ → Option ℕ
first_open hs zero t = none
first_open hs (suc k) t = if is_open hs (of_week t) then some (of_week t) else first_open hs k (suc t)

-- the first open minute at or after the minute m of the week, going round once, or none. That one time round is enough is a theorem
-- (`none_without_windows`: theory, WindowsProof)
unfoldable pub next_open : List Window → ℕ → Option ℕ
next_open hs m = first_open hs week m

-- how many minutes of a list are open
abbrev pub open_minutes : List Window → List ℕ → ℕ
open_minutes hs ts = count (λ t. is_open hs (of_week t)) ts

-- how many rounds settle with windows runs: in list order one at each open minute and none at a closed one; the verdict is looked at before
-- each round, and 2 ends it
abbrev pub rounds_at : List Window → List ℕ → Table → ℕ
rounds_at hs [] T = 0
rounds_at hs (t ∷ ts) T =
    if is_open hs (of_week t)
    then (if eqb (verdict T) 2 then 0 else suc (rounds_at hs ts (after_round T)))
    else rounds_at hs ts T

-- the table after settle with windows, and its reply: that of settle, with these rounds
abbrev pub after_settle_at : List Window → List ℕ → Table → Table
after_settle_at hs ts T = after_rounds (rounds_at hs ts T) T

abbrev pub settle_at_reply : List Window → List ℕ → Table → List ℕ
settle_at_reply hs ts T = ran_reply (rounds_at hs ts T) T
