-- The loop's invariant: what is left to run from the present table is what all that is run leads to. Assumes nothing.
use Prim.Native.Nat.{◌-◌}
use Rattle.model.specs.Settle.{rounds_run}
use Rattle.answers.specs.Verdict.{number_of}
use Rattle.settle.proofs.Laws.{Settling}
use Rattle.settle.proofs.rounds_of.Given as goal

abbrev pub invariant-loop-rounds : goal.invariant-loop-rounds
invariant-loop-rounds l = Settling (rounds_run l.limit) (rounds_run (l.limit - l.rounds)) l.initial.t l.rounds (number_of l.verdict) l.t
