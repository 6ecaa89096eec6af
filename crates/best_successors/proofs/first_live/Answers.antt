-- `first_live` meets its contract. The loop's invariant: the search of the entries left is what is left of the whole. Assumes nothing.
use mathlib.Core.Path.{sym, ◌∙◌}
use native.Mathlib.Omega.{arith}
use borrow.Author.Rules.{rules}
use Rattle.best_successors.proofs.Laws.{first_here, first_on, first_end}
use Rattle.best_successors.proofs.first_live.Goals as goal

pub returns-then-is_some : goal.returns-then-is_some
returns-then-is_some c = let a = c.args in let l = c.loop-passed in first_here a.t.now a.l.now l.passed l.invariant (search rules) c.place-place.ensures (sym c.is_some.ensures ∙ c.if-is_some.true)

pub loop-passed-preserved : goal.loop-passed-preserved
loop-passed-preserved c = let a = c.args in let l = c.loop-passed in first_on a.t.now a.l.now l.passed l.invariant (search rules) c.place-place.ensures (sym c.is_some.ensures ∙ c.if-is_some.false)

pub returns : goal.returns
returns c = let a = c.args in let l = c.loop-passed in first_end a.t.now a.l.now l.passed l.invariant (omega arith) (omega arith)
