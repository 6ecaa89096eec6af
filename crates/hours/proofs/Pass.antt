-- A pass over the windows, pair by pair: at its start all are left, and at its end none. Assumes nothing.
use Rattle.std.proofs.Common.{◌≡◌, ℕ, ◌/◌, ◌≤◌, Bool, ◌&&◌, ◌||◌, List, length, drop, drop_of_length-le, ap, ◌∙◌, sym}
use mathlib.Core.Bool.{and-true, or-false}
use Rattle.std.specs.Simd.{first_chunks}
use Rattle.model.specs.Lists.{every}
use Rattle.model.specs.Windows.{windows_in, is_open}
use Rattle.model.specs.Refusals.{right_window}
use Rattle.windows.proofs.Words.{said, said_pairs}
use Rattle.hours.proofs.Least.{least}

pub all_left : (vs : List ℕ) (ps : List (List ℕ)) → ps ≡ first_chunks 2 (length vs / 2) vs → said ps ≡ windows_in vs
all_left vs ps e = ap said e ∙ said_pairs vs

module _ (ps : List (List ℕ)) (i : ℕ) (h : length ps ≤ i) where
  pub right_end : (right : Bool) {all : Bool} → (right && every right_window (said (drop i ps))) ≡ all → all ≡ right
  right_end right e = sym (rw (drop_of_length-le ps h, and-true) at e)

  pub open_end : (found : Bool) (m : ℕ) {all : Bool} → (found || is_open (said (drop i ps)) m) ≡ all → all ≡ found
  open_end found m e = sym (rw (drop_of_length-le ps h, or-false) at e)

  pub least_end : (a m : ℕ) {all : ℕ} → least a (said (drop i ps)) m ≡ all → all ≡ a
  least_end a m e = sym (rw (drop_of_length-le ps h) at e)
