-- `well_formed` meets its contract. Each word of a slice is below the limit, so it leaves out those tests. Assumes nothing.
use Rattle.std.proofs.Common.{◌∙◌}
use Rattle.table.proofs.WellFormed.{tests}
use Rattle.table.proofs.well_formed.Goals as goal

pub returns : goal.returns
returns c =
    let t = c.args.t.now in
    c.records_ok.ensures ∙ rw c.records_of.ensures
    (tests t (λ i. (c.type_inv.t i).fits) c.if-t-lt-HEADER.false c.if-r-lt1.false c.if-r-gt8.false c.if-n-gt256.false c.if-t-ne0.false
    (rw c.offset.ensures.0 at c.if-t-offset.false))
