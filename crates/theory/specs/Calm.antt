-- A turn of n on a sound table: its steps end with "done", never by the bound; and it leaves n calm, with a live successor that n has met and nothing
-- pending. So n stays, through the turns of others.
use Rattle.std.specs.Prelude.{◌≡◌, ℕ, suc, ◌≤◌}
use Rattle.std.proofs.Math.Bool.{false}
use Rattle.model.specs.Table.{Table, ids}
use Rattle.model.specs.Ring.{named, successor, is_pending}
use Rattle.model.specs.Settle.{until_done}
use Rattle.laws.specs.Order.{Inside}
use Rattle.laws.specs.Lists.{In}
use Rattle.theory.specs.Bound.{UntilDone}
use Rattle.theory.specs.Keep.{Kept}

-- a member's successor and its predecessor, by name
abbrev pub succ_of : Table → ℕ → ℕ
succ_of T n = successor (named T.members n)

abbrev pub pred_of : Table → ℕ → ℕ
pred_of T n = (named T.members n).predecessor

-- z is met by n: its predecessor is n, or a member between n and z
pub data Met (T : Table) (n z : ℕ) : Type 0 where
  by_own : pred_of T z ≡ n → Met T n z
  by_nearer : In (pred_of T z) (ids T.members) → Inside n (pred_of T z) z → Met T n z

pub record Calm (T : Table) (n : ℕ) : Type 0 where
  pub quiet : is_pending (named T.members n) ≡ false
  pub lives : In (succ_of T n) (ids T.members)
  pub met : Met T n (succ_of T n)

-- with n a member of a sound table a bound of r + 1 steps or more is never what ends its steps
abbrev pub StepsEnough : ℕ → Type 0
StepsEnough n = (f : ℕ) (T : Table) → Kept T → In n (ids T.members) → suc T.r ≤ f → UntilDone n T (until_done f n T)
