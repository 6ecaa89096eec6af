-- `member_ideal` meets its contract: the predecessor first, then the whole list, a part of the table. Assumes nothing.
use native.Mathlib.Omega.{arith}
use lib.ListN.{length-take, length-drop}
use Rattle.table.proofs.Members.{record_fits, list_at}
use Rattle.ideal.proofs.Laws.{wrong_below, by_list}
use Rattle.ideal.proofs.member_ideal.Goals as goal

pub returns-then-t-at : goal.returns-then-t-at
returns-then-t-at c = wrong_below c.args.t.now c.args.k c.offset-at.result c.requires.k_bound c.offset-at.ensures.0 c.id_below.result c.id_below.ensures c.if-t-at.true

pub returns : goal.returns
returns c =
    let ws = c.args.t.now in
    let fits = record_fits ws c.args.k c.offset-at.result c.requires.k_bound c.offset-at.ensures.0 c.requires.formed_words in
    by_list ws c.args.k c.offset-at.result c.requires.k_bound c.offset-at.ensures.0 c.id_below.result c.id_below.ensures _ c.names_next.result c.if-t-at.false
    (list_at ws c.args.k c.offset-at.result c.requires.k_bound c.offset-at.ensures.0) (simp (length-take, length-drop) (omega arith)) c.names_next.ensures
