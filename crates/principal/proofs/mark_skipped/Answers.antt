-- `mark_skipped` meets its contract. The loop's invariant: what is marked and what the lists left skip is all that is skipped. Assumes nothing.
use mathlib.Core.Path.{ap, ◌∙◌}
use native.Mathlib.Omega.{arith}
use lib.ListN.{length}
use Rattle.principal.proofs.Pairs.{all_left, list_marked, none_left}
use Rattle.principal.proofs.mark_skipped.Goals as goal

pub loop-k-init : goal.loop-k-init
loop-k-init c = (ap length c.requires.reach_value, rw c.requires.reach_value (all_left c.args.t.now))

pub loop-k-preserved : goal.loop-k-preserved
loop-k-preserved c =
    let l = c.loop-k in
    (c.mark_list.ensures.size ∙ l.invariant.0, λ j h. list_marked c.args.t.now _ _ l.k c.loop-k-test.true c.mark_list.ensures j h ∙ l.invariant.1 j h)

pub returns : goal.returns
returns c =
    let l = c.loop-k in
    (l.invariant.0, none_left c.args.t.now l.reach l.k (omega arith) l.invariant.1)
