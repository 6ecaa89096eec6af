-- `write_round` meets its contract. The invariant: the entries written, and the next ups from place j on, are the list. Assumes nothing.
use Rattle.std.proofs.Common.{arith}
use Rattle.new_member.proofs.Members.{ups_on, ups_done, record_stored, list_length}
use Rattle.new_member.proofs.write_round.Goals as goal

pub loop-entry-preserved : goal.loop-entry-preserved
loop-entry-preserved c =
    let k = c.loop-entry in
    let n = list_length c.write_front.new.part c.args.r (omega arith) in record {
      inside = c.place_above-j.ensures.0;
      listed = ups_on c.args.xs.now k.entry-items c.args.r k.entry-index _ _ _ (omega (arith, n)) (omega (arith, n)) c.place_above-j.ensures.1 k.invariant.listed;
    }

pub returns : goal.returns
returns c =
    let k = c.loop-entry in
    let n = list_length c.write_front.new.part c.args.r (omega arith) in
    let y = ups_done c.args.xs.now k.entry-items c.args.r k.entry-index _ _ (omega (arith, n)) (omega (arith, n)) k.invariant.listed in
    record_stored c.args.xs.now c.args.part.now c.write_front.new.part k.entry-items c.args.r _ c.write_front.ensures y c.requires.2
