-- `records_ok` meets its contract. Assumes nothing.
use Rattle.std.proofs.Common.{◌≡◌, ◌+◌, ◌-◌, arith}
use Rattle.table.proofs.WellFormed.{one_record}
use Rattle.table.proofs.records_ok.Goals as goal

pub split_at-requires : goal.split_at-requires
split_at-requires c = (one_record c.args.r c.record_size-w.result (c.args.n - c.loop.counter) c.loop.left.now c.record_size-w.ensures (omega arith) c.loop.invariant.0).1

pub returns-then-not-record_ok : goal.returns-then-not-record_ok
returns-then-not-record_ok c =
    let o = one_record c.args.r c.record_size-w.result (c.args.n - c.loop.counter) c.loop.left.now c.record_size-w.ensures (omega arith) c.loop.invariant.0 in
    rw (o.0, ← c.split_at.ensures.front, ← c.record_ok.ensures, c.if-not-record_ok.true) at c.loop.invariant.1

pub loop-preserved : goal.loop-preserved
loop-preserved c =
    let o = one_record c.args.r c.record_size-w.result (c.args.n - c.loop.counter) c.loop.left.now c.record_size-w.ensures (omega arith) c.loop.invariant.0 in
    let j : c.args.n - (c.loop.counter + 1) ≡ c.args.n - c.loop.counter - 1 = omega arith in
    rw (j, c.split_at.ensures.back) (o.2, rw (o.0, ← c.split_at.ensures.front, ← c.record_ok.ensures, c.if-not-record_ok.false) at c.loop.invariant.1)
