-- `place_above` meets its contract. Assumes nothing.
use native.Mathlib.Omega.{arith}
use borrow.Author.Rules.{rules}
use Rattle.ideal.proofs.Laws.{up_next, up_round}
use Rattle.ideal.proofs.place_above.Goals as goal

pub returns-then-next-n : goal.returns-then-next-n
returns-then-next-n c = (search rules, up_next c.args.t.now c.requires.formed_words c.args.k c.requires.k_bound c.if-next-n.true)

pub returns : goal.returns
returns c = (omega arith, up_round c.args.t.now c.requires.formed_words c.args.k c.requires.k_bound c.if-next-n.false)
