-- Windows of the week: one window, those that words say, a search for the first open minute, the two questions; and settle with windows as settle whose limit is
-- the open minutes. Assumes nothing.
use Rattle.std.specs.Prelude.{◌≡◌, ◌⊎◌, Bool, not, ◌&&◌, List, [], ◌∷◌, ltb, leb, eqb, length, if◌then◌else◌}
use Rattle.std.proofs.Math.Path.{refl, ap}
use Rattle.std.proofs.Common.{sym, ap₂, ◌∙◌, inl, inr}
use Rattle.std.proofs.Math.Bool.{true, false}
use Rattle.std.proofs.Math.Option.{Option, some, none}
use Prim.Native.Nat.{ℕ, zero, suc, ◌+◌, ◌≤◌, ◌<◌}
use native.Mathlib.Omega.{arith}
use borrow.Author.Tests.{ltb-true, leb-true, eqb-false, not-true, not-false, lt-ltb, le-ltb, le-leb, lt-leb}
use Rattle.model.specs.Lists.{option, every, bit}
use Rattle.model.specs.Table.{Table, table_of}
use Rattle.model.specs.Ring.{verdict}
use Rattle.model.specs.Answer.{Answer, accepted, declined, answer, afterwards}
use Rattle.model.specs.Settle.{after_round, rounds_run, after_rounds, ran_reply}
use Rattle.model.specs.Windows.{Window, week, windows_in, paired, in_window, is_open, of_week, first_open, next_open, open_minutes, rounds_at}
use Rattle.model.specs.Refusals.{right_window, bad_windows, bad_minutes, settle_at_refusal}
use Rattle.model.specs.Calls.{written, is_open_answer, next_open_answer, settle_answer, settle_words, settle_at_answer, settle_at_words}
use Rattle.laws.specs.Lists.{and-true}
use Rattle.laws.specs.Order.{less?}
use Rattle.laws.specs.Accepted.{open_accepts, settle_at_left, settle_at_accepted}

-- One window

pub record RightWindow (w : Window) : Type 0 where
  pub ends_differ : w.start ≡ w.end → ⊥
  pub start_low : w.start < week
  pub end_low : w.end < week

pub right_window_law : (w : Window) → right_window w ≡ true → RightWindow w
unfolding right_window
right_window_law w h =
    let a = and-true (not (eqb w.start w.end) && ltb w.start week) (ltb w.end week) h in
    let b = and-true (not (eqb w.start w.end)) (ltb w.start week) a.0 in
    record { ends_differ = eqb-false _ _ (not-true _ b.0); start_low = ltb-true _ _ b.1; end_low = ltb-true _ _ a.1 }

-- the minute is in the window, or it is not: by comparisons
pub data Within (m s e : ℕ) : Type 0 where
  inside : s ≤ m → m < e → s ≤ e → Within m s e
  late : e < s → s ≤ m → Within m s e
  early : e < s → m < e → Within m s e

pub data Shut (m s e : ℕ) : Type 0 where
  before : s ≤ e → m < s → Shut m s e
  behind : s ≤ e → e ≤ m → Shut m s e
  amid : e < s → e ≤ m → m < s → Shut m s e

module _ (m : ℕ) (w : Window) where
  pub within_open : Within m w.start w.end → in_window m w ≡ true
  unfolding in_window
  within_open (inside a b c) = rw (le-ltb w.end w.start c, le-leb w.start m a, lt-ltb m w.end b)
  within_open (late a b) = rw (lt-ltb w.end w.start a, le-leb w.start m b)
  within_open (early a b) = let d : m < w.start = omega arith in rw (lt-ltb w.end w.start a, lt-leb w.start m d, lt-ltb m w.end b)

  pub shut_closed : Shut m w.start w.end → in_window m w ≡ false
  unfolding in_window
  shut_closed (before a b) = rw (le-ltb w.end w.start a, lt-leb w.start m b)
  shut_closed (behind a b) = let d : w.start ≤ m = omega arith in rw (le-ltb w.end w.start a, le-leb w.start m d, le-ltb m w.end b)
  shut_closed (amid a b c) = rw (lt-ltb w.end w.start a, lt-leb w.start m c, le-ltb m w.end b)

  pub within? : Within m w.start w.end ⊎ Shut m w.start w.end
  within? = go (less? w.end w.start) (less? m w.start) (less? m w.end)
    where
      go : (w.end < w.start) ⊎ (w.start ≤ w.end) → (m < w.start) ⊎ (w.start ≤ m) → (m < w.end) ⊎ (w.end ≤ m) → Within m w.start w.end ⊎ Shut m w.start w.end
      go (inl a) (inl b) (inl c) = inl (early a c)
      go (inl a) (inl b) (inr c) = inr (amid a c b)
      go (inl a) (inr b) c = inl (late a b)
      go (inr a) (inl b) c = inr (before a b)
      go (inr a) (inr b) (inl c) = inl (inside b c a)
      go (inr a) (inr b) (inr c) = inr (behind a c)

-- a right window is not empty: it holds its start
module _ {w : Window} (r : RightWindow w) where
  pub not_empty : w.start ≤ w.end → w.start < w.end
  not_empty h = go (less? w.start w.end)
    where
      go : (w.start < w.end) ⊎ (w.end ≤ w.start) → w.start < w.end
      go (inl k) = k
      go (inr k) = absurd (r.ends_differ (omega arith))

  pub start_open : in_window w.start w ≡ true
  start_open = within_open w.start w (go (less? w.end w.start))
    where
      go : (w.end < w.start) ⊎ (w.start ≤ w.end) → Within w.start w.start w.end
      go (inl k) = late k (omega arith)
      go (inr k) = inside (omega arith) (not_empty k) k

-- The windows that words say, where 15 does not apply

pub record RightWindows (vs : List ℕ) : Type 0 where
  pub pairs : paired vs ≡ true
  pub few : length (windows_in vs) ≤ 16
  pub each : every right_window (windows_in vs) ≡ true

pub right_windows : (vs : List ℕ) → bad_windows vs ≡ false → RightWindows vs
unfolding bad_windows
right_windows vs b =
    let a = and-true (paired vs && leb (length (windows_in vs)) 16) (every right_window (windows_in vs)) (not-false _ b) in
    let c = and-true (paired vs) (leb (length (windows_in vs)) 16) a.0 in
    record { pairs = c.0; few = leb-true (length (windows_in vs)) 16 c.1; each = a.1 }

-- Searches

-- i minutes after t it is open, and no minute from t up to then is
pub record OpenAhead (hs : List Window) (t i : ℕ) : Type 0 where
  pub open_there : is_open hs (of_week (t + i)) ≡ true
  pub none_before : (j : ℕ) → j < i → is_open hs (of_week (t + j)) ≡ false

module _ (hs : List Window) where
  -- the same minute, said in another way
  told_of : (b : Bool) {x y : ℕ} → x ≡ y → is_open hs (of_week x) ≡ b → is_open hs (of_week y) ≡ b
  told_of b e h = ap (λ (k : ℕ). is_open hs (of_week k)) (sym e) ∙ h

  -- what a search of k minutes finds: the first open minute that is so near, and none where all are closed
  pub finds : (k t i : ℕ) → i < k → OpenAhead hs t i → first_open hs k t ≡ some (of_week (t + i))
  unfolding first_open
  finds zero t i h a = absurd (omega arith)
  finds (suc k) t zero h a =
      let e : t + 0 ≡ t = omega arith in
      rw (told_of true e a.open_there) (ap (λ (x : ℕ). some (of_week x)) (sym e))
  finds (suc k) t (suc i) h a =
      let z : t + 0 ≡ t = omega arith in
      let e : suc t + i ≡ t + suc i = omega arith in
      rw (told_of false z (a.none_before 0 (omega arith)))
      (finds k (suc t) i (omega arith) (record {
        open_there = told_of true (sym e) a.open_there;
        none_before = λ j l. told_of false {x = t + suc j} (omega arith) (a.none_before (suc j) (omega arith));
      }) ∙ ap (λ (x : ℕ). some (of_week x)) e)

  pub finds_none : (k t : ℕ) → ((j : ℕ) → j < k → is_open hs (of_week (t + j)) ≡ false) → first_open hs k t ≡ none
  unfolding first_open
  finds_none zero t h = refl
  finds_none (suc k) t h =
      let z : t + 0 ≡ t = omega arith in
      rw (told_of false z (h 0 (omega arith))) (finds_none k (suc t) (λ j l. told_of false {x = t + suc j} (omega arith) (h (suc j) (omega arith))))

  -- and so it is one of the two
  pub search_ends : (k t : ℕ) → ((i : ℕ) × (i < k) × OpenAhead hs t i) ⊎ ((j : ℕ) → j < k → is_open hs (of_week (t + j)) ≡ false)
  search_ends zero t = inr (λ j l. absurd (omega arith))
  search_ends (suc k) t = go (is_open hs (of_week t)) refl (search_ends k (suc t))
    where
      from : {n : ℕ} → is_open hs (of_week t) ≡ false → ((j : ℕ) → j < n → is_open hs (of_week (suc t + j)) ≡ false) → (j : ℕ) → j < suc n → is_open hs (of_week (t + j)) ≡ false
      from e h zero l = told_of false {x = t} (omega arith) e
      from e h (suc j) l = told_of false {x = suc t + j} (omega arith) (h j (omega arith))

      go : (b : Bool) → is_open hs (of_week t) ≡ b → ((i : ℕ) × (i < k) × OpenAhead hs (suc t) i) ⊎ ((j : ℕ) → j < k → is_open hs (of_week (suc t + j)) ≡ false)
          → ((i : ℕ) × (i < suc k) × OpenAhead hs t i) ⊎ ((j : ℕ) → j < suc k → is_open hs (of_week (t + j)) ≡ false)
      go true e r = inl (0, omega arith, record { open_there = told_of true {x = t} (omega arith) e; none_before = λ j l. absurd (omega arith) })
      go false e (inl (i, l, a)) = inl (suc i, omega arith, record { open_there = told_of true {x = suc t + i} (omega arith) a.open_there; none_before = from e a.none_before })
      go false e (inr h) = inr (from e h)

-- The two questions, of right windows and a minute of the week

module _ (hs : List Window) (m : ℕ) where
  pub next_found : (i : ℕ) → i < week → OpenAhead hs m i → next_open hs m ≡ some (of_week (m + i))
  unfolding next_open
  next_found i h a = finds hs week m i h a

  pub next_none : ((j : ℕ) → j < week → is_open hs (of_week (m + j)) ≡ false) → next_open hs m ≡ none
  unfolding next_open
  next_none h = finds_none hs week m h

module _ (vs : List ℕ) (b : bad_windows vs ≡ false) (m : ℕ) (h : m < week) where
  pub tells_open : (t : Bool) → is_open (windows_in vs) m ≡ t → is_open_answer vs m ≡ accepted (bit t ∷ [])
  unfolding is_open_answer
  tells_open t e = rw (open_accepts vs m b h, e)

  pub tells_next : (o : Option ℕ) → next_open (windows_in vs) m ≡ o → next_open_answer vs m ≡ accepted (option o (0 ∷ []) (λ x. 1 ∷ x ∷ []))
  unfolding next_open_answer
  tells_next o e = rw (open_accepts vs m b h, e)

-- Rounds: settle with windows runs as many as settle whose limit is the number of open minutes

pub rounds_at_law : (hs : List Window) (ts : List ℕ) (T : Table) → rounds_at hs ts T ≡ rounds_run (open_minutes hs ts) T
rounds_at_law hs [] T = refl
rounds_at_law hs (t ∷ ts) T = go (is_open hs (of_week t)) (rounds_at_law hs ts T) (rounds_at_law hs ts (after_round T))
  where
    go : (b : Bool) → rounds_at hs ts T ≡ rounds_run (open_minutes hs ts) T → rounds_at hs ts (after_round T) ≡ rounds_run (open_minutes hs ts) (after_round T)
        → (if b then (if eqb (verdict T) 2 then 0 else suc (rounds_at hs ts (after_round T))) else rounds_at hs ts T) ≡ rounds_run (bit b + open_minutes hs ts) T
    go true e f = let q : 1 + open_minutes hs ts ≡ suc (open_minutes hs ts) = omega arith in rw (q, f)
    go false e f = let q : 0 + open_minutes hs ts ≡ open_minutes hs ts = omega arith in rw (q, e)

-- so it answers and leaves what that settle does, on every slice, where 15 and 16 do not apply
pub as_settle : (ws vs ts : List ℕ) → bad_windows vs ≡ false → bad_minutes ts ≡ false
    → (settle_at_answer ws vs ts ≡ settle_answer ws (open_minutes (windows_in vs) ts)) × (settle_at_words ws vs ts ≡ settle_words ws (open_minutes (windows_in vs) ts))
unfolding settle_at_answer settle_at_words settle_answer settle_words
as_settle ws vs ts b m =
    let e = settle_at_left ws vs ts b m in
    let j = rounds_at_law (windows_in vs) ts (table_of ws) in (
      ap₂ (λ (k n : ℕ). answer k (accepted (ran_reply n (table_of ws)))) e j,
      ap₂ (λ (k n : ℕ). afterwards k (written (after_rounds n (table_of ws)) ws) ws) e j,
    )

declines : (ws vs ts : List ℕ) (P : Answer → List ℕ → Type 0) (k : ℕ) → settle_at_refusal ws vs ts ≡ suc k → P (declined (suc k)) ws → P (settle_at_answer ws vs ts) (settle_at_words ws vs ts)
unfolding settle_at_answer settle_at_words
declines ws vs ts P k e h = rw e h

-- what holds of that settle's answer and slice, and of each refusal with the slice as it was, holds of settle with windows
pub settle_at_has : (P : Answer → List ℕ → Type 0) (ws vs ts : List ℕ) → P (settle_answer ws (open_minutes (windows_in vs) ts)) (settle_words ws (open_minutes (windows_in vs) ts))
    → ((k : ℕ) → P (declined (suc k)) ws) → P (settle_at_answer ws vs ts) (settle_at_words ws vs ts)
settle_at_has P ws vs ts h refused = go (settle_at_refusal ws vs ts) refl
  where
    go : (k : ℕ) → settle_at_refusal ws vs ts ≡ k → P (settle_at_answer ws vs ts) (settle_at_words ws vs ts)
    go zero e =
        let a = settle_at_accepted ws vs ts e in
        let q = as_settle ws vs ts a.1 a.2 in
        rw (q.0, q.1) h
    go (suc k) e = declines ws vs ts P k e (refused k)
