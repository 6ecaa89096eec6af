-- `count_principals` meets its contract. Assumes nothing.
use mathlib.Core.Path.{◌∙◌}
use borrow.Author.Rules.{rules}
use Rattle.principal.proofs.Pairs.{counted_principals}
use Rattle.principal.proofs.count_principals.Goals as goal

pub returns : goal.returns
returns c = (c.count_of.ensures.0 ∙ counted_principals c.args.t.now _ c.fill_bits.ensures.1, search rules)
