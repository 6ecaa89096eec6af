-- `marks` meets its contract. The loop's invariant: marked are the places among the numbers so far. Assumes nothing.
use Prim.Native.Nat.{◌<◌}
use native.Mathlib.Omega.{arith}
use borrow.Author.Rules.{rules}
use lib.ListN.{take, length-set, get_or-replicate}
use Rattle.ring.proofs.Rings.{marked, not_marked}
use Rattle.ring.proofs.marks.Goals as goal
use Rattle.ring.proofs.marks.Goals.{then-j-none, else-j-none}

pub loop-j-init : goal.loop-j-init
loop-j-init c = (search rules, λ j h. let b : j < c.args.n = h in get_or-replicate 256 j 0 0 (omega arith))

pub loop-j-preserved : goal.loop-j-preserved
loop-j-preserved c =
    let l = c.loop-j in
    let n = c.args.n in
    let ys = take n c.args.a.now in
    elim c.if-j-none.branch [
      | then-j-none w ↦ rw w.m-is (simp length-set l.invariant.0, marked ys l.m l.j-index n c.loop-j-test.true l.invariant.1 (omega arith) w.if-j-none.true)
      | else-j-none w ↦ rw w.m-is (l.invariant.0, not_marked ys l.m l.j-index n c.loop-j-test.true l.invariant.1 w.if-j-none.false)
    ]
