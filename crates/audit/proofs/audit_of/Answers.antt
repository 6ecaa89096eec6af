-- `audit_of` meets its contract. Assumes nothing.
use Rattle.best_successors.proofs.Laws.{member_count}
use Rattle.audit.proofs.audit_of.Goals as goal

pub returns : goal.returns
returns c = rw (c.count_principals-principals.ensures.0, c.count_ring.ensures.0, c.verdict_of.ensures, member_count c.args.t.now)
