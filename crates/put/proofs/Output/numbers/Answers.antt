-- `numbers` meets its contract. Assumes nothing.
use Rattle.put.proofs.Writing.{space_room, number_room, number_on}
use Rattle.put.proofs.Output.numbers.Goals as goal

pub bytes-requires : goal.bytes-requires
bytes-requires c =
    let k = c.loop-v in
    space_room c.args.vs.now k.v-index c.loop-v-test.true c.args.self.now k.self k.invariant c.requires

pub number-requires : goal.number-requires
number-requires c =
    let k = c.loop-v in
    number_room c.args.vs.now k.v-index c.loop-v-test.true c.args.self.now k.self k.invariant c.bytes.new.self c.requires c.bytes.ensures

pub loop-v-preserved : goal.loop-v-preserved
loop-v-preserved c =
    let k = c.loop-v in
    number_on c.args.vs.now k.v-index c.loop-v-test.true c.args.self.now k.self k.invariant c.bytes.new.self c.number.new.self c.bytes.ensures c.number.ensures
