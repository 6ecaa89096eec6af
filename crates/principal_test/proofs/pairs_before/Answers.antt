-- `pairs_before` meets its contract. The loop's invariant: the pairs counted and those of the rest of the list are those of the whole list.
-- Assumes nothing.
use Rattle.std.proofs.Common.{sym, ◌∙◌, arith}
use Rattle.principal_test.proofs.Laws.{count_none, count_here, count_on, count_all, part_length}
use Rattle.principal_test.proofs.pairs_before.Goals as goal

pub loop-i-init : goal.loop-i-init
loop-i-init c = count_none c.args.t.now c.requires.formed_words c.args.k c.offset-at.result c.requires.k_bound c.offset-at.ensures.0 c.args.x

pub returns-then-between : goal.returns-then-between
returns-then-between c =
    let l = c.loop-i in
    let n = part_length c.args.t.now c.requires.formed_words c.args.k c.offset-at.result c.requires.k_bound c.offset-at.ensures.0 in
    count_here c.args.t.now c.requires.formed_words c.args.k c.offset-at.result c.requires.k_bound c.offset-at.ensures.0 c.args.x l.a l.i l.invariant
    (omega (arith, n, c.loop-i-test.true)) (sym c.between.ensures ∙ c.if-between.true)

pub loop-i-preserved : goal.loop-i-preserved
loop-i-preserved c =
    let l = c.loop-i in
    let n = part_length c.args.t.now c.requires.formed_words c.args.k c.offset-at.result c.requires.k_bound c.offset-at.ensures.0 in
    count_on c.args.t.now c.requires.formed_words c.args.k c.offset-at.result c.requires.k_bound c.offset-at.ensures.0 c.args.x l.a l.i l.invariant
    (omega (arith, n, c.loop-i-test.true)) (sym c.between.ensures ∙ c.if-between.false)

pub returns : goal.returns
returns c =
    let l = c.loop-i in
    let n = part_length c.args.t.now c.requires.formed_words c.args.k c.offset-at.result c.requires.k_bound c.offset-at.ensures.0 in
    count_all c.args.t.now c.requires.formed_words c.args.k c.offset-at.result c.requires.k_bound c.offset-at.ensures.0 c.args.x l.a l.i l.invariant
    (omega (arith, n, l.auto.i-end)) (omega (arith, n, c.loop-i-test.false))
