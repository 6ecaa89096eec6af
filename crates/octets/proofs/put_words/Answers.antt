-- `put_words` meets its contract. Assumes nothing.
use Rattle.std.proofs.Common.{◌∙◌, arith}
use Rattle.octets.proofs.Placed.{word_turn}
use Rattle.octets.proofs.put_words.Goals as goal

pub loop-i-preserved : goal.loop-i-preserved
loop-i-preserved c =
    let k = c.loop-i in
    let a = c.args in
    rw c.put4.ensures (word_turn a.at k.i a.ws.now k.out (omega arith) (omega arith) ∙ k.invariant)
