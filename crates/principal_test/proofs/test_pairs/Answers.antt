-- `test_pairs` meets its contract. The loop's invariant: the reply of the lists left, after the pairs taken, is the whole reply. Assumes nothing.
use Rattle.std.proofs.Common.{◌∙◌, arith, add-one}
use Rattle.principal_test.proofs.Laws.{no_pairs, ends_here, goes_on}
use Rattle.principal_test.proofs.test_pairs.Goals as goal

pub returns-then-before-r : goal.returns-then-before-r
returns-then-before-r c =
    let l = c.loop-k in
    ends_here c.args.t.now c.requires c.args.x l.taken _ _ c.loop-k-test.true c.pairs_before-before.ensures c.if-before-r.true ∙ l.invariant.replied

pub loop-k-preserved : goal.loop-k-preserved
loop-k-preserved c =
    let l = c.loop-k in
    let on = goes_on c.args.t.now c.requires c.args.x l.taken l.k c.pairs_before-before.result c.loop-k-test.true c.pairs_before-before.ensures c.if-before-r.false in record {
      few = omega (arith, l.invariant.few, c.requires.r_high);
      replied = rw add-one (on ∙ l.invariant.replied);
    }

pub returns : goal.returns
returns c = let l = c.loop-k in no_pairs c.args.t.now c.args.x l.taken _ c.loop-k-test.false ∙ l.invariant.replied
