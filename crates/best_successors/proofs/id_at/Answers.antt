-- `id_at` meets its contract. Assumes nothing.
use Rattle.table.proofs.Members.{id_at_law}
use Rattle.best_successors.proofs.id_at.Goals as goal

pub returns : goal.returns
returns c = id_at_law c.args.t.now c.args.k c.offset-at.result c.requires.k_bound c.offset-at.ensures.0
