-- `four_same` meets its contract. Assumes nothing.
use Rattle.alike.proofs.Records.{four_words}
use Rattle.alike.proofs.four_same.Goals as goal

pub returns : goal.returns
returns c = four_words c.args.u.now c.args.v.now c.requires.0 c.requires.1
