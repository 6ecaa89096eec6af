-- `between` meets its contract: each exit is one case of the definition. Assumes nothing.
use Rattle.std.proofs.Common.{le-ltb, lt-ltb}
use Rattle.model.specs.Identifier.{between}
use Rattle.ident.proofs.between.Goals as goal

pub returns-then-a-n : goal.returns-then-a-n
unfolding between
returns-then-a-n c = simp (lt-ltb _ _ c.if-a-b.true, lt-ltb _ _ c.if-a-n.true)

pub returns-else-a-n : goal.returns-else-a-n
unfolding between
returns-else-a-n c = simp (lt-ltb _ _ c.if-a-b.true, le-ltb _ _ c.if-a-n.false)

pub returns-then-a-n-2 : goal.returns-then-a-n-2
unfolding between
returns-then-a-n-2 c = simp (le-ltb _ _ c.if-a-b.false, lt-ltb _ _ c.if-a-n-2.true)

pub returns-else-a-n-2 : goal.returns-else-a-n-2
unfolding between
returns-else-a-n-2 c = simp (le-ltb _ _ c.if-a-b.false, le-ltb _ _ c.if-a-n-2.false)
