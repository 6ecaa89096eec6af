-- `get_run` meets its contract. Assumes nothing.
use Rattle.std.proofs.Common.{◌∙◌, arith}
use Rattle.octets.proofs.Placed.{number_turn}
use Rattle.octets.proofs.get_run.Goals as goal

pub loop-i-preserved : goal.loop-i-preserved
loop-i-preserved c =
    let k = c.loop-i in
    let a = c.args in
    rw c.number4.ensures (number_turn a.at k.i a.n a.bs.now k.t (omega arith) (omega arith) ∙ k.invariant)
