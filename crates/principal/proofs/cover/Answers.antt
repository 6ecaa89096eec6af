-- `cover` meets its contract: each end is a law of a range. Assumes nothing.
use native.Mathlib.Omega.{arith}
use Rattle.principal.proofs.Reaches.{known_range, new_range}
use Rattle.principal.proofs.cover.Goals as goal

pub returns-then-end-reach : goal.returns-then-end-reach
returns-then-end-reach c = let a = c.args in known_range a.reach.now a.lo a.hi (omega arith) c.if-end-reach.true

pub returns : goal.returns
returns c = let a = c.args in new_range a.reach.now a.lo a.hi (omega arith) c.if-end-reach.false
