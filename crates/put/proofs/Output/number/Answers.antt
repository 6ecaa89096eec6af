-- `number` meets its contract. The invariant: the digits of v, before those in the array, are the number's. Assumes nothing.
use mathlib.Core.Path.{refl}
use native.Mathlib.Omega.{arith}
use lib.ListN.{length-set}
use Rattle.put.proofs.Digits.{begins, digit_more, digit_part}
use Rattle.put.proofs.Output.number.Goals as goal

pub loop-v-init : goal.loop-v-init
loop-v-init c = begins c.args.n _ refl (omega arith)

pub overflow_sub-i : goal.overflow_sub-i
overflow_sub-i c = let k = c.loop-v in (digit_more c.args.n k.a k.i k.v c.loop-v-test.true k.invariant).0

pub loop-v-preserved : goal.loop-v-preserved
loop-v-preserved c = let k = c.loop-v in (digit_more c.args.n k.a k.i k.v c.loop-v-test.true k.invariant).1

pub slice_bounds-bytes-end : goal.slice_bounds-bytes-end
slice_bounds-bytes-end c = simp length-set (omega (arith, c.loop-v.invariant.ten))

pub bytes-requires : goal.bytes-requires
bytes-requires c =
    let k = c.loop-v in
    rw (digit_part c.args.n k.a k.i k.v c.loop-v-test.false k.invariant) c.requires

pub returns : goal.returns
returns c =
    let k = c.loop-v in
    rw (digit_part c.args.n k.a k.i k.v c.loop-v-test.false k.invariant) at c.bytes.ensures
