-- `mark_list` meets its contract. The loop's invariant: what is marked, and what the rest of the list skips, is what was marked and what the
-- whole list skips. Assumes nothing.
use Prim.Native.Nat.{suc}
use mathlib.Core.Path.{◌≡◌}
use lib.ListN.{length, drop}
use Rattle.model.specs.Table.{members_in, ids}
use Rattle.table.specs.Rank.{rank}
use Rattle.principal.proofs.Pairs.{Rest}
use Rattle.principal.proofs.mark_list.Given as goal

abbrev pub invariant-loop-b : goal.invariant-loop-b
invariant-loop-b l = (length l.reach ≡ 256) × (l.lo ≡ rank (ids (members_in l.t)) (suc l.q)) × Rest l.t l.initial.reach l.k l.reach l.q (drop l.b-index l.b-items)
