-- The proof of what Windows states: a search of a week meets every minute of it, so also a window's start; and settle with windows is settle (laws, Windows).
use Rattle.std.specs.Prelude.{◌≡◌, refl, ◌⊎◌, Bool, true, false, not, ◌&&◌, ◌||◌, List, [], ◌∷◌, ℕ, suc, ◌+◌, ◌-◌, ◌≤◌, ◌<◌, leb, eqb, get_or, if◌then◌else◌}
use Rattle.std.proofs.Common.{sym, ap, subst, ◌∙◌, inl, inr, true≢false, arith, eqb-true, leb-false}
use Rattle.std.proofs.Math.Option.{some, none}
use Rattle.model.specs.Lists.{option, every, bit}
use Rattle.model.specs.Table.{Table, table_of}
use Rattle.model.specs.Ring.{verdict}
use Rattle.model.specs.Answer.{Answer, accepted, answer}
use Rattle.model.specs.Settle.{rounds_run}
use Rattle.model.specs.Windows.{Window, week, windows_in, in_window, is_open, of_week, next_open, open_minutes}
use Rattle.model.specs.Refusals.{right_window, bad_windows, open_refusal}
use Rattle.model.specs.Calls.{round_words, is_open_answer, next_open_answer}
use Rattle.model.specs.Fold.{after_all}
use Rattle.laws.specs.Lists.{and-true, or-false}
use Rattle.laws.specs.Order.{less?}
use Rattle.laws.specs.Windows.{right_window_law, start_open, right_windows, OpenAhead, next_found, next_none, tells_open, tells_next, search_ends, as_settle}
use Rattle.theory.specs.Windows.{FirstOpen, NextIsFirst, NoneWithoutWindows, SettleAtIsSettle, after_minute, SettleAtIsRounds, SettleAtLeaves, SettleAtEnds}
use Rattle.theory.specs.Bound.{rounds}
use Rattle.theory.specs.Runs.{Good}
use Rattle.theory.proofs.BoundProof.{round_slice, round_table, settle_rounds, settle_leaves, settle_ends}

-- an accepted reply says that the windows are right, and the minute one of the week
asked : (vs : List ℕ) (m v : ℕ) (l : List ℕ) → next_open_answer vs m ≡ accepted (v ∷ l) → (bad_windows vs ≡ false) × (m < week)
unfolding next_open_answer open_refusal
asked vs m v l e = go (bad_windows vs || leb week m) refl e
  where
    go : (t : Bool) → (bad_windows vs || leb week m) ≡ t → answer (if t then 15 else 0) (accepted (option (next_open (windows_in vs) m) (0 ∷ []) (λ x. 1 ∷ x ∷ []))) ≡ accepted (v ∷ l) → (bad_windows vs ≡ false) × (m < week)
    go true q f = absurd (omega (arith, ap (λ (a : Answer). a.number) f))
    go false q f = let o = or-false (bad_windows vs) (leb week m) q in (o.0, leb-false week m o.1)

-- A week has every minute

-- the minutes from one minute of the week to another, going round
way : (m x : ℕ) → m < week → x < week → (j : ℕ) × (j < week) × (of_week (m + j) ≡ x)
way m x h k = go (less? x m)
  where
    go : (x < m) ⊎ (m ≤ x) → (j : ℕ) × (j < week) × (of_week (m + j) ≡ x)
    go (inl l) = (x + week - m, omega arith, omega arith)
    go (inr l) = (x - m, omega arith, omega arith)

-- so with a window some minute of the week is open
some_open : (ws : List Window) (w : Window) → every right_window (w ∷ ws) ≡ true → (m : ℕ) → m < week → ((j : ℕ) → j < week → is_open (w ∷ ws) (of_week (m + j)) ≡ false) → ⊥
some_open ws w e m h closed =
    let r = right_window_law w (and-true (right_window w) _ e).0 in
    let d = way m w.start h r.start_low in
    true≢false (sym (opened (in_window w.start w) (start_open r)) ∙ (ap (is_open (w ∷ ws)) (sym d.2) ∙ closed d.0 d.1))
  where
    opened : (b : Bool) → b ≡ true → (b || is_open ws w.start) ≡ true
    opened b q = rw q

-- The theorems on minutes

pub next_is_first : NextIsFirst
next_is_first vs m x e = go (search_ends (windows_in vs) week m)
  where
    a : (bad_windows vs ≡ false) × (m < week)
    a = asked vs m 1 (x ∷ []) e

    go : ((i : ℕ) × (i < week) × OpenAhead (windows_in vs) m i) ⊎ ((j : ℕ) → j < week → is_open (windows_in vs) (of_week (m + j)) ≡ false) → FirstOpen vs m x
    go (inl (i, l, o)) =
        let q : x ≡ of_week (m + i) = ap (λ (y : Answer). get_or y.values 1 0) (sym e ∙ tells_next vs a.0 m a.1 (some (of_week (m + i))) (next_found (windows_in vs) m i l o)) in
        record {
          ahead = i;
          within_a_week = l;
          is_there = q;
          open_there = subst (λ (y : ℕ). is_open_answer vs y ≡ accepted (1 ∷ [])) (sym q) (tells_open vs a.0 (of_week (m + i)) (omega arith) true o.open_there);
          none_before = λ j k. tells_open vs a.0 (of_week (m + j)) (omega arith) false (o.none_before j k);
        }
    go (inr h) = absurd (omega (arith, ap (λ (y : Answer). get_or y.values 0 0) (sym e ∙ tells_next vs a.0 m a.1 none (next_none (windows_in vs) m h))))

pub none_without_windows : NoneWithoutWindows
none_without_windows vs m b h = (λ e. only (windows_in vs) refl e, λ e. tells_next vs b m h none (rw e (next_none [] m (λ j l. refl))))
  where
    only : (ws : List Window) → windows_in vs ≡ ws → next_open_answer vs m ≡ accepted (0 ∷ []) → windows_in vs ≡ []
    only [] q e = q
    only (w ∷ ws) q e = go (search_ends (w ∷ ws) week m)
      where
        go : ((i : ℕ) × (i < week) × OpenAhead (w ∷ ws) m i) ⊎ ((j : ℕ) → j < week → is_open (w ∷ ws) (of_week (m + j)) ≡ false) → windows_in vs ≡ []
        go (inl (i, l, o)) = absurd (omega (arith, ap (λ (y : Answer). get_or y.values 0 0) (sym e ∙ tells_next vs b m h (some (of_week (m + i))) (rw q (next_found (w ∷ ws) m i l o)))))
        go (inr c) = absurd (some_open ws w (rw q at (right_windows vs b).each) m h c)

-- Settle with windows

pub settle_at_is_settle : SettleAtIsSettle
settle_at_is_settle = as_settle

pub settle_at_leaves : SettleAtLeaves
settle_at_leaves ws vs ts wf so b m = let q = as_settle ws vs ts b m in rw (q.0, q.1) (settle_leaves ws wf so (open_minutes (windows_in vs) ts))

pub settle_at_ends : SettleAtEnds
settle_at_ends ws vs ts wf so b m h = let q = as_settle ws vs ts b m in rw (q.0, q.1) (settle_ends ws wf so (open_minutes (windows_in vs) ts) h)

module _ (hs : List Window) where
  -- once the verdict is 2, no minute changes anything
  stays : (ts us : List ℕ) → verdict (table_of us) ≡ 2 → after_all (after_minute hs) ts us ≡ us
  stays [] us v = refl
  stays (t ∷ ts) us v = ap (after_all (after_minute hs) ts) (none_run (is_open hs (of_week t))) ∙ stays ts us v
    where
      none_run : (b : Bool) → (if b && not (eqb (verdict (table_of us)) 2) then round_words us else us) ≡ us
      none_run true = rw v
      none_run false = refl

  minutes_are : (ts us : List ℕ) → Good us → rounds (rounds_run (open_minutes hs ts) (table_of us)) us ≡ after_all (after_minute hs) ts us
  minutes_are [] us g = refl
  minutes_are (t ∷ ts) us g = go (is_open hs (of_week t)) (eqb (verdict (table_of us)) 2) refl (minutes_are ts us g) (minutes_are ts (round_words us) (round_slice us g))
    where
      go : (b v : Bool) → eqb (verdict (table_of us)) 2 ≡ v → rounds (rounds_run (open_minutes hs ts) (table_of us)) us ≡ after_all (after_minute hs) ts us
          → rounds (rounds_run (open_minutes hs ts) (table_of (round_words us))) (round_words us) ≡ after_all (after_minute hs) ts (round_words us)
          → rounds (rounds_run (bit b + open_minutes hs ts) (table_of us)) us ≡ after_all (after_minute hs) ts (if b && not (eqb (verdict (table_of us)) 2) then round_words us else us)
      go false v e here there = let q : 0 + open_minutes hs ts ≡ open_minutes hs ts = omega arith in rw q here
      go true true e here there = let q : 1 + open_minutes hs ts ≡ suc (open_minutes hs ts) = omega arith in rw (q, e) (sym (stays ts us (eqb-true _ 2 e)))
      go true false e here there = let q : 1 + open_minutes hs ts ≡ suc (open_minutes hs ts) = omega arith in rw (q, e) (ap (λ (T : Table). rounds (rounds_run (open_minutes hs ts) T) (round_words us)) (sym (round_table us g)) ∙ there)

pub settle_at_rounds : SettleAtIsRounds
settle_at_rounds ws vs ts wf so b m =
    let g : Good ws = record { is_well_formed = wf; is_sound = so } in
    (as_settle ws vs ts b m).1 ∙ settle_rounds ws g (open_minutes (windows_in vs) ts) ∙ minutes_are (windows_in vs) ts ws g
