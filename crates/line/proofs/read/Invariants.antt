-- The invariant of `read`: the numbers of the parts so far are kept. Assumes nothing.
use Rattle.std.proofs.Common.{length, drop}
use Rattle.script.specs.Lines.{parts}
use Rattle.line.proofs.Parts.{Kept}
use Rattle.line.proofs.read.Given as goal

abbrev pub invariant-loop-p : goal.invariant-loop-p
invariant-loop-p l = Kept (drop 1 (parts l.l)) (length l.yielded) l.n l.xs
