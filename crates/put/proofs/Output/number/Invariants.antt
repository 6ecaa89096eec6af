-- `number` meets its contract. The invariant: the digits of v, before those in the array, are the number's. Assumes nothing.
use Rattle.put.proofs.Digits.{Left}
use Rattle.put.proofs.Output.number.Given as goal

abbrev pub invariant-loop-v : goal.invariant-loop-v
invariant-loop-v l = Left l.n l.a l.i l.v

abbrev pub decreases-loop-v : goal.decreases-loop-v
decreases-loop-v l = l.v
