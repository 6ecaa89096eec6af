-- The loop's invariant: what is left to run, by the minutes that are left, is what all that is run leads to; and there are no more rounds than minutes passed.
-- Assumes nothing.
use Prim.Native.Nat.{◌≤◌}
use lib.ListN.{drop}
use Rattle.model.specs.Windows.{windows_in, rounds_at}
use Rattle.answers.specs.Verdict.{number_of}
use Rattle.settle.proofs.Laws.{Settling}
use Rattle.settle.proofs.rounds_at.Given as goal

abbrev pub invariant-loop-minute : goal.invariant-loop-minute
invariant-loop-minute l = record {
  few : l.rounds ≤ l.minute-index;
  runs : Settling (rounds_at (windows_in l.ws) l.ts) (rounds_at (windows_in l.ws) (drop l.minute-index l.ts)) l.initial.t l.rounds (number_of l.told) l.t;
}
