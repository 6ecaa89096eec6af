-- `rank_past` meets its contract. Assumes nothing.
use mathlib.Core.Path.{sym, ◌∙◌}
use Rattle.principal.proofs.Pairs.{here_past, else_past}
use Rattle.principal.proofs.rank_past.Goals as goal

pub returns-then-stands_at : goal.returns-then-stands_at
returns-then-stands_at c = here_past c.args.t.now c.requires.formed_words c.args.k c.args.b (sym c.stands_at.ensures ∙ c.if-stands_at.true)

pub returns : goal.returns
returns c = else_past c.args.t.now c.requires.formed_words c.args.k c.args.b c.requires.k_value.0 (sym c.stands_at.ensures ∙ c.if-stands_at.false)
