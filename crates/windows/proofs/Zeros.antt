-- The words of windows in an array of 32, and zeros after them: these say windows that hold nothing. Assumes nothing.
use Rattle.std.proofs.Common.{◌≡◌, ℕ, zero, suc, ◌-◌, ◌≤◌, Bool, true, false, ◌||◌, List, [], ◌∷◌, ◌++◌, length, replicate, refl, ap, arith, length-append}
use mathlib.Core.Bool.{false≢true}
use lib.ListN.{length-replicate}
use Rattle.model.specs.Windows.{window, windows_in, paired, in_window, is_open}
use Rattle.model.specs.Refusals.{bad_windows}
use Rattle.laws.specs.Windows.{behind, shut_closed, right_windows}

module _ (ws : List ℕ) (few : length ws ≤ 32) where
  pub padded_length : length (ws ++ replicate (32 - length ws) 0) ≡ 32
  padded_length = simp (length-append, length-replicate) (omega arith)

-- zeros hold nothing
zeros_hold : (k m : ℕ) → is_open (windows_in (replicate k 0)) m ≡ false
zeros_hold zero m = refl
zeros_hold (suc zero) m = refl
zeros_hold (suc (suc k)) m = rw (shut_closed m (window 0 0) (behind (omega arith) (omega arith))) (zeros_hold k m)

paired_hold : (ws : List ℕ) (k m : ℕ) → paired ws ≡ true → is_open (windows_in (ws ++ replicate k 0)) m ≡ is_open (windows_in ws) m
paired_hold [] k m h = zeros_hold k m
paired_hold (s ∷ []) k m h = absurd (false≢true h)
paired_hold (s ∷ e ∷ ws) k m h = ap (λ (b : Bool). in_window m (window s e) || b) (paired_hold ws k m h)

-- so they open no minute
pub padding_opens : (ws : List ℕ) (k m : ℕ) → bad_windows ws ≡ false → is_open (windows_in (ws ++ replicate k 0)) m ≡ is_open (windows_in ws) m
padding_opens ws k m b = paired_hold ws k m (right_windows ws b).pairs
