-- `place_above` meets its contract. Assumes nothing.
use Rattle.laws.specs.Places.{above_inside, above_round}
use borrow.Author.Rules.{rules}
use Rattle.rising.proofs.place_above.Goals as goal

pub returns-then-next-xs : goal.returns-then-next-xs
returns-then-next-xs c = (c.if-next-xs.true, above_inside c.args.xs.now c.requires.0 c.args.i c.requires.1 c.if-next-xs.true)

pub returns : goal.returns
returns c = (search rules, above_round c.args.xs.now c.requires.0 c.args.i c.requires.1 c.if-next-xs.false)
