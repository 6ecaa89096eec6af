-- Service hours, stated (document 02, Req 09): the next open minute is the first, and settle with windows is made of rounds and ends. With model and Bound this is
-- all that its reader must believe; WindowsProof proves it.
use Rattle.std.specs.Prelude.{ℕ, ◌+◌, ◌≤◌, ◌<◌, ◌≡◌, true, false, not, ◌&&◌, List, [], ◌∷◌, eqb, if◌then◌else◌}
use Rattle.model.specs.Table.{table_of, well_formed}
use Rattle.model.specs.Ring.{sound, verdict}
use Rattle.model.specs.Answer.{accepted}
use Rattle.model.specs.Windows.{Window, week, windows_in, is_open, of_week, open_minutes}
use Rattle.model.specs.Refusals.{bad_windows, bad_minutes}
use Rattle.model.specs.Calls.{round_words, settle_answer, settle_words, is_open_answer, next_open_answer, settle_at_answer, settle_at_words}
use Rattle.model.specs.Fold.{after_all}
use Rattle.theory.specs.Bound.{enough, Ends, Leaves}

-- Minutes

-- x is the first open minute at or after the minute m of the week, going round: so many minutes ahead, less than a week, it is x, which is open, and no minute
-- from m up to then is
pub record FirstOpen (vs : List ℕ) (m x : ℕ) : Type 0 where
  pub ahead : ℕ
  pub within_a_week : ahead < week
  pub is_there : x ≡ of_week (m + ahead)
  pub open_there : is_open_answer vs x ≡ accepted (1 ∷ [])
  pub none_before : (j : ℕ) → j < ahead → is_open_answer vs (of_week (m + j)) ≡ accepted (0 ∷ [])

-- it is what the call replies
abbrev pub NextIsFirst : Type 0
NextIsFirst = (vs : List ℕ) (m x : ℕ) → next_open_answer vs m ≡ accepted (1 ∷ x ∷ []) → FirstOpen vs m x

-- and none is replied exactly when there is no window: one time round is enough
abbrev pub NoneWithoutWindows : Type 0
NoneWithoutWindows = (vs : List ℕ) (m : ℕ) → bad_windows vs ≡ false → m < week
    → (next_open_answer vs m ≡ accepted (0 ∷ []) → windows_in vs ≡ []) × (windows_in vs ≡ [] → next_open_answer vs m ≡ accepted (0 ∷ []))

-- Settle with windows

-- it answers and leaves what settle does whose limit is the number of open minutes in the list, on every slice
abbrev pub SettleAtIsSettle : Type 0
SettleAtIsSettle = (ws vs ts : List ℕ) → bad_windows vs ≡ false → bad_minutes ts ≡ false
    → (settle_at_answer ws vs ts ≡ settle_answer ws (open_minutes (windows_in vs) ts)) × (settle_at_words ws vs ts ≡ settle_words ws (open_minutes (windows_in vs) ts))

-- on a sound table with right windows and minutes
abbrev pub OnSound : (List ℕ → List ℕ → List ℕ → Type 0) → Type 0
OnSound P = (ws vs ts : List ℕ) → well_formed ws ≡ true → sound (table_of ws) ≡ true → bad_windows vs ≡ false → bad_minutes ts ≡ false → P ws vs ts

-- the slice after a minute of the list, by single rounds: one round where it is open and the verdict is not 2, else none
abbrev pub after_minute : List Window → List ℕ → ℕ → List ℕ
after_minute hs us t = if is_open hs (of_week t) && not (eqb (verdict (table_of us)) 2) then round_words us else us

-- it leaves what single rounds at the open minutes of the list leave, up to the first at which the verdict is 2: minute by minute
abbrev pub SettleAtIsRounds : Type 0
SettleAtIsRounds = OnSound (λ ws vs ts. settle_at_words ws vs ts ≡ after_all (after_minute (windows_in vs)) ts ws)

-- and by their number, which it reports: before each of them the verdict was another than 2, and where they are fewer than the open minutes it is 2
abbrev pub SettleAtLeaves : Type 0
SettleAtLeaves = OnSound (λ ws vs ts. Leaves ws (open_minutes (windows_in vs) ts) (settle_at_answer ws vs ts) (settle_at_words ws vs ts))

-- with at least members - principals + r open minutes in the list it reports 2
abbrev pub SettleAtEnds : Type 0
SettleAtEnds = OnSound (λ ws vs ts. enough ws ≤ open_minutes (windows_in vs) ts → Ends ws (settle_at_answer ws vs ts) (settle_at_words ws vs ts))
