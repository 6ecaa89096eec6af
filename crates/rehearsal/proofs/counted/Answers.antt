-- `counted` meets its contract. Assumes nothing.
use Rattle.rehearsal.proofs.Lines.{counts}
use Rattle.rehearsal.proofs.counted.Goals as goal

pub returns : goal.returns
returns c = counts c.args.s.now c.min.result c.min.ensures
