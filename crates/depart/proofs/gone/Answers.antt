-- `gone` meets its contract: the member count that the table says afterwards. Assumes nothing.
use Prim.Native.Nat.{ℕ}
use mathlib.Core.Path.{ap}
use mathlib.Core.List.{List}
use lib.ListN.{get_or}
use Rattle.depart.proofs.gone.Goals as goal

pub returns : goal.returns
returns c = (ap (λ (l : List ℕ). get_or l 1 0) c.remove_at.ensures, c.remove_at.ensures)
