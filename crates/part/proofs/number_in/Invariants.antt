-- The invariant of `number_in`: the digits before the place make v.
use Rattle.part.proofs.Digits.{Reading}
use Rattle.part.proofs.number_in.Given as goal

abbrev pub invariant-loop-b : goal.invariant-loop-b
invariant-loop-b l = Reading l.p l.b-index l.v
