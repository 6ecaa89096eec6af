-- The invariant of `numbers`: the numbers up to the place are written. Assumes nothing.
use lib.ListN.{take}
use Rattle.script.specs.Text.{numbers_text}
use Rattle.put.specs.Wrote.{Wrote}
use Rattle.put.proofs.Output.numbers.Given as goal

abbrev pub invariant-loop-v : goal.invariant-loop-v
invariant-loop-v l = Wrote (numbers_text (take l.v-index l.vs)) l.initial.self l.self
