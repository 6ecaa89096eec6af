-- After k iterations the findings of the first k members are written over the records that were passed. Assumes nothing.
use Rattle.std.proofs.Common.{◌≡◌}
use Rattle.model.specs.Table.{members_in}
use Rattle.findings.specs.Filled.{filled}
use Rattle.findings.proofs.fill.Given as goal

abbrev pub invariant-loop-k : goal.invariant-loop-k
invariant-loop-k l = l.out ≡ filled (members_in l.t) l.k l.fn.out
