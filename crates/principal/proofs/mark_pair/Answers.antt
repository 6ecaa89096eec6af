-- `mark_pair` meets its contract: one range up, or two round the end. Assumes nothing.
use Rattle.principal.proofs.Pairs.{pair_up, pair_round}
use Rattle.principal.proofs.mark_pair.Goals as goal

pub returns-then-q-b : goal.returns-then-q-b
returns-then-q-b c =
    let a = c.args in
    pair_up a.t.now c.requires.formed_words a.q a.lo a.b a.hi c.requires.lo_value.0 c.requires.lo_value.1 _ _ c.if-q-b.true c.cover.ensures

pub returns : goal.returns
returns c =
    let a = c.args in
    pair_round a.t.now c.requires.formed_words a.q a.lo a.b a.hi c.requires.lo_value.0 c.requires.lo_value.1 _ _ _ c.if-q-b.false c.cover-2.ensures c.cover-3.ensures
