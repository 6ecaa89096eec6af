-- The loop's invariant: the turns that are left lead from the present table where all lead from the first. Assumes nothing.
use Rattle.turns.proofs.Turns.{Round}
use Rattle.turns.proofs.run_round.Given as goal

abbrev pub invariant-loop-k : goal.invariant-loop-k
invariant-loop-k l = Round l.initial.t l.k l.t
