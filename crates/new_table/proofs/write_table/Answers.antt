-- `write_table` meets its contract. The invariants: the header and the first i records stand in front, and the words after the table are the old
-- ones; in the second loop, they stand over the words that the first has left. Assumes nothing.
use Rattle.std.proofs.Common.{◌≡◌, ◌+◌, ◌≤◌, ◌<◌, ◌∙◌, arith, length, length-take, length-drop, length-set}
use Rattle.model.specs.Table.{record_size}
use Rattle.new_table.proofs.Written.{ahead_on, ahead_behind, begun_on, begun_whole, record_fits, eight_fit}
use Rattle.new_table.proofs.write_table.Goals as goal
use Rattle.new_table.proofs.write_table.Goals.{After-offset-at, After-offset-at-in-loop-i-2}

-- the record with eight entries fits, and in the second loop the record
eight_fits : (c : After-offset-at) → c.offset-at.result + record_size 8 ≤ length c.loop-i.t
eight_fits c =
    let e : length c.loop-i.t ≡ length c.args.t.now = c.loop-i.auto.t ∙ simp length-set in
    omega (arith, eight_fit c.args.r c.args.xs.now c.loop-i.i (omega (arith, c.loop-i-test.true, c.saturating_sub-ahead.ensures)))

fits : (c : After-offset-at-in-loop-i-2) → c.offset-at-in-loop-i-2.result + record_size c.args.r ≤ length c.loop-i-2.t
fits c =
    let e : length c.loop-i-2.t ≡ length c.args.t.now = c.loop-i-2.auto.t ∙ c.loop-i.auto.t ∙ simp length-set in
    omega (arith, record_fits c.args.r c.args.xs.now c.loop-i-2.i c.loop-i-2-test.true)

pub slice_bounds-write_ahead-count : goal.slice_bounds-write_ahead-count
slice_bounds-write_ahead-count c = omega (arith, eight_fits c)

pub slice_bounds-write_ahead-start : goal.slice_bounds-write_ahead-start
slice_bounds-write_ahead-start c = omega (arith, eight_fits c)

pub write_ahead-requires : goal.write_ahead-requires
write_ahead-requires c =
    let e : length c.loop-i.t ≡ length c.args.t.now = c.loop-i.auto.t ∙ simp length-set in
    let h : c.loop-i.i + 8 < length c.args.xs.now = omega (arith, c.loop-i-test.true, c.saturating_sub-ahead.ensures) in
    (c.requires.0, h, c.requires.1, simp (length-take, length-drop) (omega (arith, eight_fit c.args.r c.args.xs.now c.loop-i.i h)))

pub loop-i-preserved : goal.loop-i-preserved
loop-i-preserved c =
    let k = c.loop-i in
    let a = c.args in
    let h : k.i + 8 < length a.xs.now = omega (arith, c.loop-i-test.true, c.saturating_sub-ahead.ensures) in record {
      front = ahead_on a.r a.xs.now k.t _ k.i c.offset-at.result (omega arith) c.offset-at.ensures.0 k.invariant.front c.write_ahead.ensures.0;
      after = ahead_behind a.r a.xs.now k.t c.write_ahead.new.part k.i c.offset-at.result (omega arith) c.offset-at.ensures.0 k.invariant.front
          (record_size 8) _ c.write_ahead.ensures.1 (eight_fit a.r a.xs.now k.i h) ∙ k.invariant.after;
    }

pub slice_bounds-write_round-count : goal.slice_bounds-write_round-count
slice_bounds-write_round-count c = omega (arith, fits c)

pub slice_bounds-write_round-start : goal.slice_bounds-write_round-start
slice_bounds-write_round-start c = omega (arith, fits c)

pub write_round-requires : goal.write_round-requires
write_round-requires c =
    let e : length c.loop-i-2.t ≡ length c.args.t.now = c.loop-i-2.auto.t ∙ c.loop-i.auto.t ∙ simp length-set in
    (c.requires.0, c.loop-i-2-test.true, simp (length-take, length-drop) (omega (arith, record_fits c.args.r c.args.xs.now c.loop-i-2.i c.loop-i-2-test.true)))

pub loop-i-2-preserved : goal.loop-i-2-preserved
loop-i-2-preserved c =
    let k = c.loop-i-2 in
    let a = c.args in
    begun_on a.r a.xs.now k.t _ k.i c.offset-at-in-loop-i-2.result c.loop-i-2-test.true c.offset-at-in-loop-i-2.ensures.0 c.loop-i.t c.write_round.ensures k.invariant

pub returns : goal.returns
returns c =
    let k = c.loop-i-2 in
    let l = c.loop-i in
    let a = c.args in
    let n = c.saturating_sub-ahead.ensures in
    k.invariant ∙ begun_whole a.r a.xs.now l.t a.t.now k.i (omega (arith, k.auto.i-end, c.loop-i-2-test.false, n)) (omega arith) l.invariant.after
