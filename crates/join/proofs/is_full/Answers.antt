-- `is_full` meets its contract. Assumes nothing.
use borrow.Author.Tests.{le-leb, lt-leb}
use lib.ListN.{get_or, drop}
use Rattle.model.specs.Table.{header_size}
use Rattle.model.specs.Refusals.{full}
use Rattle.laws.specs.Words.{members_length}
use Rattle.join.proofs.is_full.Goals as goal

pub returns-then-n-ge256 : goal.returns-then-n-ge256
unfolding full
returns-then-n-ge256 c =
    let ws = c.args.t.now in
    rw (members_length (get_or ws 0 0) (get_or ws 1 0) (drop header_size ws), le-leb _ _ c.if-n-ge256.true)

pub returns-else-n-ge256 : goal.returns-else-n-ge256
unfolding full
returns-else-n-ge256 c =
    let ws = c.args.t.now in
    rw (members_length (get_or ws 0 0) (get_or ws 1 0) (drop header_size ws), lt-leb _ _ c.if-n-ge256.false, c.offset.ensures.0, c.record_size.ensures)
