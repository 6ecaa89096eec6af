-- How far ahead one right window is open first, and the least distance over windows: the first open minute, going round. Assumes nothing.
use Prim.Native.Nat.{ℕ, ◌+◌, ◌-◌, ◌≤◌, ◌<◌}
use mathlib.Core.Path.{◌≡◌, refl, ◌∙◌}
use mathlib.Core.Logic.{◌⊎◌, inl, inr}
use mathlib.Core.Bool.{Bool, true, false}
use mathlib.Core.List.{List, [], ◌∷◌}
use native.Mathlib.Omega.{arith}
use borrow.Author.Tests.{le-leb, lt-leb, lt-ltb, le-ltb}
use Rattle.model.specs.Lists.{every, any}
use Rattle.model.specs.Windows.{Window, week, in_window, is_open, of_week}
use Rattle.model.specs.Refusals.{right_window}
use Rattle.laws.specs.Lists.{In, here, there, in_cons, in_nil, every_in, in_any}
use Rattle.laws.specs.Order.{less?}
use Rattle.laws.specs.Windows.{RightWindow, right_window_law, Within, Shut, before, behind, amid, within_open, shut_closed, within?, not_empty, start_open, OpenAhead}
use Rattle.hours.specs.Ahead.{ahead_of, lesser_of}

-- One window

-- d minutes after m the window is open first
record Opens (w : Window) (m d : ℕ) : Type 0 where
  is_open : in_window (of_week (m + d)) w ≡ true
  none_before : (j : ℕ) → j < d → in_window (of_week (m + j)) w ≡ false

module _ (w : Window) (r : RightWindow w) (m : ℕ) (l : m < week) where
  ahead_held : in_window m w ≡ true → ahead_of m w ≡ 0
  unfolding ahead_of
  ahead_held e = rw e

  ahead_up : in_window m w ≡ false → m ≤ w.start → ahead_of m w ≡ w.start - m
  unfolding ahead_of
  ahead_up e h = rw (e, le-leb m w.start h)

  ahead_round : in_window m w ≡ false → w.start < m → ahead_of m w ≡ w.start + week - m
  unfolding ahead_of
  ahead_round e h = rw (e, lt-leb m w.start h)

  opens_at : (t : ℕ) → of_week t ≡ w.start → in_window (of_week t) w ≡ true
  opens_at t e = rw e (start_open r)

  opens : Opens w m (ahead_of m w)
  opens = go (within? m w)
    where
      go : Within m w.start w.end ⊎ Shut m w.start w.end → Opens w m (ahead_of m w)
      go (inl h) =
          let o = within_open m w h in
          let e : of_week (m + 0) ≡ m = omega arith in
          rw (ahead_held o) (record { is_open = rw e o; none_before = λ j k. absurd (omega arith) })
      go (inr (before a b)) =
          rw (ahead_up (shut_closed m w (before a b)) (omega arith)) (record {
            is_open = opens_at (m + (w.start - m)) (omega arith);
            none_before = λ j k. shut_closed (of_week (m + j)) w (before a (omega arith));
          })
      go (inr (behind a b)) =
          let n = not_empty r a in
          rw (ahead_round (shut_closed m w (behind a b)) (omega arith)) (record {
            is_open = opens_at (m + (w.start + week - m)) (omega arith);
            none_before = λ j k. sub j k (less? (m + j) week);
          })
        where
          sub : (j : ℕ) → j < w.start + week - m → (m + j < week) ⊎ (week ≤ m + j) → in_window (of_week (m + j)) w ≡ false
          sub j k (inl h) = shut_closed (of_week (m + j)) w (behind a (omega arith))
          sub j k (inr h) = shut_closed (of_week (m + j)) w (before a (omega arith))
      go (inr (amid a b d)) =
          rw (ahead_up (shut_closed m w (amid a b d)) (omega arith)) (record {
            is_open = opens_at (m + (w.start - m)) (omega arith);
            none_before = λ j k. shut_closed (of_week (m + j)) w (amid a (omega arith) (omega arith));
          })

-- All windows

-- d minutes after m it is open first; a week's minutes where it never is
pub data FirstAhead (ws : List Window) (m d : ℕ) : Type 0 where
  sometime : d < week → OpenAhead ws m d → FirstAhead ws m d
  never : d ≡ week → ((j : ℕ) → j < week → is_open ws (of_week (m + j)) ≡ false) → FirstAhead ws m d

-- a, or how far ahead the nearest of the windows is, where that is less
abbrev pub least : ℕ → List Window → ℕ → ℕ
least a [] m = a
least a (w ∷ ws) m = least (lesser_of a (ahead_of m w)) ws m

module _ (m : ℕ) where
  lesser_is : (a d : ℕ) → (lesser_of a d ≤ a) × (lesser_of a d ≤ d) × ((lesser_of a d ≡ a) ⊎ (lesser_of a d ≡ d))
  lesser_is a d = go (less? d a)
    where
      go : (d < a) ⊎ (a ≤ d) → (lesser_of a d ≤ a) × (lesser_of a d ≤ d) × ((lesser_of a d ≡ a) ⊎ (lesser_of a d ≡ d))
      go (inl h) = rw (lt-ltb d a h) (omega arith, omega arith, inr refl)
      go (inr h) = rw (le-ltb d a h) (omega arith, omega arith, inl refl)

  least_first : (a : ℕ) (ws : List Window) → least a ws m ≤ a
  least_first a [] = omega arith
  least_first a (w ∷ ws) = omega (arith, least_first (lesser_of a (ahead_of m w)) ws, (lesser_is a (ahead_of m w)).0)

  least_each : {w : Window} (a : ℕ) (ws : List Window) → In w ws → least a ws m ≤ ahead_of m w
  least_each a [] i = absurd (in_nil i)
  least_each {w} a (v ∷ ws) i = go (in_cons i) (least_each (lesser_of a (ahead_of m v)) ws)
    where
      go : (w ≡ v) ⊎ In w ws → (In w ws → least a (v ∷ ws) m ≤ ahead_of m w) → least a (v ∷ ws) m ≤ ahead_of m w
      go (inl e) ih = rw e (omega (arith, least_first (lesser_of a (ahead_of m v)) ws, (lesser_is a (ahead_of m v)).1))
      go (inr k) ih = ih k

  abbrev Some : ℕ → List Window → Type 0
  Some d ws = (w : Window) × In w ws × (d ≡ ahead_of m w)

  least_some : (a : ℕ) (ws : List Window) → (least a ws m ≡ a) ⊎ Some (least a ws m) ws
  least_some a [] = inl refl
  least_some a (v ∷ ws) = go (least_some (lesser_of a (ahead_of m v)) ws) (lesser_is a (ahead_of m v)).2
    where
      go : (least a (v ∷ ws) m ≡ lesser_of a (ahead_of m v)) ⊎ Some (least a (v ∷ ws) m) ws → (lesser_of a (ahead_of m v) ≡ a) ⊎ (lesser_of a (ahead_of m v) ≡ ahead_of m v)
          → (least a (v ∷ ws) m ≡ a) ⊎ Some (least a (v ∷ ws) m) (v ∷ ws)
      go (inl e) (inl f) = inl (e ∙ f)
      go (inl e) (inr f) = inr (v, here refl, e ∙ f)
      go (inr (w, i, e)) f = inr (w, there i, e)

none_any : {A : Type 0} (f : A → Bool) (l : List A) → ((x : A) → In x l → f x ≡ false) → any f l ≡ false
none_any f [] h = refl
none_any f (x ∷ l) h = rw (h x (here refl)) (none_any f l (λ y i. h y (there i)))

pub first_ahead : (ws : List Window) (m : ℕ) → every right_window ws ≡ true → m < week → FirstAhead ws m (least week ws m)
first_ahead ws m r l = go (less? (least week ws m) week) (least_some m week ws)
  where
    one : (w : Window) → In w ws → Opens w m (ahead_of m w)
    one w i = opens w (right_window_law w (every_in right_window r i)) m l

    before_it : (j : ℕ) → j < least week ws m → is_open ws (of_week (m + j)) ≡ false
    before_it j h = none_any (in_window (of_week (m + j))) ws (λ w i. (one w i).none_before j (omega (arith, least_each m week ws i)))

    go : (least week ws m < week) ⊎ (week ≤ least week ws m) → (least week ws m ≡ week) ⊎ Some m (least week ws m) ws → FirstAhead ws m (least week ws m)
    go (inl h) (inl e) = absurd (omega arith)
    go (inl h) (inr (w, i, e)) = sometime h (record { open_there = rw e (in_any (in_window (of_week (m + ahead_of m w))) i (one w i).is_open); none_before = before_it })
    go (inr h) s = never (omega (arith, least_first m week ws)) (λ j k. before_it j (omega arith))
