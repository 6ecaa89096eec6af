-- The words of windows by pairs: what is left to judge and to look through from place i on, and how many windows so many words say. Assumes nothing.
use Rattle.std.proofs.Common.{◌≡◌, ℕ, suc, ◌+◌, ◌*◌, ◌/◌, ◌%◌, ◌<◌, ◌≤◌, Bool, true, false, not, ◌&&◌, ◌||◌, eqb, leb, ◌⊎◌, List, [], ◌∷◌, length, get_or, drop, sym, refl, ap, ◌∙◌, inl, inr, true≢false, arith, add-one, drop-cons, ne_eqb, le-leb}
use mathlib.Core.Bool.{or-false, not-not, false≢true}
use borrow.Author.Tests.{lt-leb}
use Rattle.std.specs.List.{fold, list_all}
use Rattle.std.specs.Simd.{first_chunks}
use Rattle.model.specs.Lists.{every}
use Rattle.model.specs.Windows.{Window, window, windows_in, paired, in_window, is_open}
use Rattle.model.specs.Refusals.{right_window, bad_windows}
use Rattle.laws.specs.Order.{less?}

-- each word has its partner, and each window is right; that they are not too many is apart
abbrev pub right_words : List ℕ → Bool
right_words vs = paired vs && every right_window (windows_in vs)

-- How many windows

few : (vs : List ℕ) → 2 * length (windows_in vs) ≤ length vs
few [] = omega arith
few (s ∷ []) = omega arith
few (s ∷ e ∷ vs) = omega (arith, few vs)

all : (vs : List ℕ) → paired vs ≡ true → 2 * length (windows_in vs) ≡ length vs
all [] h = refl
all (s ∷ []) h = absurd (false≢true h)
all (s ∷ e ∷ vs) h = omega (arith, all vs h)

module _ (vs : List ℕ) where
  pub few_rights : length vs ≤ 32 → bad_windows vs ≡ not (right_words vs)
  unfolding bad_windows
  few_rights h = rw (le-leb (length (windows_in vs)) 16 (omega (arith, few vs))) (go (paired vs))
    where
      go : (b : Bool) → not (b && true && every right_window (windows_in vs)) ≡ not (b && every right_window (windows_in vs))
      go true = refl
      go false = refl

  pub many_bad : 32 < length vs → bad_windows vs ≡ true
  unfolding bad_windows
  many_bad h = go (paired vs) refl
    where
      go : (b : Bool) → paired vs ≡ b → not (b && leb (length (windows_in vs)) 16 && every right_window (windows_in vs)) ≡ true
      go true e = rw (lt-leb (length (windows_in vs)) 16 (omega (arith, all vs e)))
      go false e = refl

pub few_words : (vs : List ℕ) → bad_windows vs ≡ false → length vs ≤ 32
few_words vs b = go (less? 32 (length vs))
  where
    go : (32 < length vs) ⊎ (length vs ≤ 32) → length vs ≤ 32
    go (inl h) = absurd (true≢false (sym (many_bad vs h) ∙ b))
    go (inr h) = h

-- By pairs: what std's methods make of the words two at a time

half_on : (s e : ℕ) (vs : List ℕ) → length (s ∷ e ∷ vs) / 2 ≡ suc (length vs / 2)
half_on s e vs = omega arith

every_pair : (f : Window → Bool) (vs : List ℕ) → every f (windows_in vs) ≡ list_all (λ p. f (window (get_or p 0 0) (get_or p 1 0))) (first_chunks 2 (length vs / 2) vs)
every_pair f [] = refl
every_pair f (s ∷ []) = refl
every_pair f (s ∷ e ∷ vs) = rw (half_on s e vs) (ap (λ (b : Bool). f (window s e) && b) (every_pair f vs))

pub open_pairs : (vs : List ℕ) (m : ℕ) (b : Bool)
    → fold (λ (found : Bool) (p : List ℕ). found || in_window m (window (get_or p 0 0) (get_or p 1 0))) b (first_chunks 2 (length vs / 2) vs) ≡ (b || is_open (windows_in vs) m)
open_pairs [] m b = sym (or-false b)
open_pairs (s ∷ []) m b = sym (or-false b)
open_pairs (s ∷ e ∷ vs) m b = rw (half_on s e vs) (open_pairs vs m (b || in_window m (window s e)) ∙ go b)
  where
    go : (b : Bool) → (b || in_window m (window s e) || is_open (windows_in vs) m) ≡ (b || (in_window m (window s e) || is_open (windows_in vs) m))
    go true = refl
    go false = refl

pub paired_even : (vs : List ℕ) → paired vs ≡ eqb (length vs % 2) 0
paired_even [] = refl
paired_even (s ∷ []) = refl
paired_even (s ∷ e ∷ vs) = let m : suc (suc (length vs)) % 2 ≡ length vs % 2 = omega arith in rw m (paired_even vs)

module _ (vs : List ℕ) where
  pub right_pairs : length vs ≤ 32 → length vs % 2 ≡ 0 → list_all (λ p. right_window (window (get_or p 0 0) (get_or p 1 0))) (first_chunks 2 (length vs / 2) vs) ≡ not (bad_windows vs)
  right_pairs h e = rw (few_rights vs h, not-not, paired_even vs, e) (sym (every_pair right_window vs))

  pub many_wrong : 32 < length vs → false ≡ not (bad_windows vs)
  many_wrong h = rw (many_bad vs h)

  pub odd_wrong : (length vs % 2 ≡ 0 → ⊥) → false ≡ not (bad_windows vs)
  unfolding bad_windows
  odd_wrong n = rw (paired_even vs, ne_eqb (length vs % 2) 0 n)

-- the windows that pairs say
abbrev pub said : List (List ℕ) → List Window
said [] = []
said (p ∷ ps) = window (get_or p 0 0) (get_or p 1 0) ∷ said ps

pub said_pairs : (vs : List ℕ) → said (first_chunks 2 (length vs / 2) vs) ≡ windows_in vs
said_pairs [] = refl
said_pairs (s ∷ []) = refl
said_pairs (s ∷ e ∷ vs) = rw (half_on s e vs) (ap (λ (l : List Window). window s e ∷ l) (said_pairs vs))

-- the next pair of those that are left
pub said_next : (ps : List (List ℕ)) (i : ℕ) (p : List ℕ) → i < length ps → said (drop i ps) ≡ window (get_or (get_or ps i p) 0 0) (get_or (get_or ps i p) 1 0) ∷ said (drop (i + 1) ps)
said_next ps i p h = rw (add-one, drop-cons ps i p h)
