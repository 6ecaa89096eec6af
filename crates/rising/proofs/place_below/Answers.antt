-- `place_below` meets its contract. Assumes nothing.
use Rattle.laws.specs.Places.{below_inside, below_round}
use borrow.Author.Rules.{rules}
use Rattle.rising.proofs.place_below.Goals as goal

pub returns-then-i-lt1 : goal.returns-then-i-lt1
returns-then-i-lt1 c = (search rules, below_round c.args.xs.now c.requires.0 c.args.i c.requires.1 c.if-i-lt1.true)

pub returns : goal.returns
returns c = (search rules, below_inside c.args.xs.now c.requires.0 c.args.i c.requires.1 c.if-i-lt1.false)
