-- `fill_bits` meets its contract. The loop's invariant: the numbers so far are right, `top` is the largest reach so far, and the reaches
-- from there on are as they were. Assumes nothing.
use Prim.Native.Nat.{◌+◌}
use mathlib.Core.Path.{sym, ap, ◌∙◌}
use native.Mathlib.Omega.{arith}
use lib.ListN.{length-set}
use Rattle.model.specs.Lists.{bit}
use Rattle.places.proofs.Arrays.{each_stored, bit_from}
use Rattle.principal.proofs.Reaches.{Top, top_more, not_covered, unread_stored}
use Rattle.principal.proofs.fill_bits.Goals as goal

pub loop-k-preserved : goal.loop-k-preserved
loop-k-preserved c =
    let reaches = (c.mark_skipped.new.reach) in
    let l = c.loop-k in
    let higher : Top reaches (l.k + 1) c.max-top.result =
    top_more reaches l.k l.top c.max-top.result (omega (arith, c.mark_skipped.ensures.0)) l.invariant.1 (rw (l.invariant.3 l.k (omega arith)) at c.max-top.ensures) in
    let e = not_covered reaches l.k c.max-top.result higher in (
      simp length-set l.invariant.0,
      higher,
      each_stored _ _ l.k l.a _ (omega arith) l.invariant.2 (c.from.ensures ∙ bit_from _ ∙ ap bit (e ∙ sym (c.mark_skipped.ensures.1.at l.k c.loop-k-test.true))),
      unread_stored reaches l.k l.a _ l.invariant.3,
    )
