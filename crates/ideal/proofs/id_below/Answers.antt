-- `id_below` meets its contract. Assumes nothing.
use mathlib.Core.Path.{◌∙◌}
use Rattle.ideal.proofs.Laws.{down_next, down_round}
use Rattle.ideal.proofs.id_below.Goals as goal

pub returns-then-k-lt1 : goal.returns-then-k-lt1
returns-then-k-lt1 c = c.id_at.ensures ∙ down_round c.args.t.now c.requires.formed_words c.args.k c.requires.k_bound c.if-k-lt1.true

pub returns : goal.returns
returns c = c.id_at-2.ensures ∙ down_next c.args.t.now c.requires.formed_words c.args.k c.requires.k_bound c.if-k-lt1.false
