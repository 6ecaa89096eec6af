-- `run` meets its contract. The invariant is that the session is on its way. Assumes nothing.
use lib.ListN.{length}
use Rattle.rehearsal.proofs.Going.{Going}
use Rattle.rehearsal.proofs.run.Given as goal

abbrev pub invariant-loop-p : goal.invariant-loop-p
invariant-loop-p l = Going l.s l.initial.t l.initial.out l.t l.out l.p l.n

abbrev pub decreases-loop-p : goal.decreases-loop-p
decreases-loop-p l = length l.p
