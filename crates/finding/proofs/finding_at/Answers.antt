-- `finding_at` meets its contract. Assumes nothing.

use Rattle.finding.proofs.finding_at.Goals as goal

pub returns : goal.returns
returns c =
    let p = c.requires in
    rw (c.id_at.ensures, p.2, p.3)
