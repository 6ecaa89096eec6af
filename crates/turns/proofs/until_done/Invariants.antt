-- The loop's invariant: the steps that are left lead from the present table where all lead from the first. Assumes nothing.
use Prim.Native.Nat.{suc, ◌-◌}
use lib.ListN.{get_or}
use Rattle.turns.proofs.Turns.{Until}
use Rattle.turns.proofs.until_done.Given as goal

abbrev pub invariant-loop-taken : goal.invariant-loop-taken
invariant-loop-taken l = Until l.n (suc (get_or l.initial.t 0 0)) l.initial.t (l._taken-end - l._taken) l.t
