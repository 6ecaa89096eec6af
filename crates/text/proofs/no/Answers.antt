-- `no` meets its contract: the three texts, one after the other. Assumes nothing.
use mathlib.Core.List.{[], ◌∷◌, ◌++◌}
use Rattle.script.specs.Text.{digits, numbers_text}
use Rattle.put.proofs.Writing.{wrote_then, room_then}
use Rattle.text.proofs.no.Goals as goal

pub numbers-requires : goal.numbers-requires
numbers-requires c =
    let r = room_then (32 ∷ 110 ∷ 111 ∷ 32 ∷ []) (digits c.args.number ++ numbers_text c.args.vs.now) c.args.out.now c.bytes.new.self c.requires c.bytes.ensures in
    room_then (digits c.args.number) (numbers_text c.args.vs.now) c.bytes.new.self c.number.new.self r c.number.ensures

pub returns : goal.returns
returns c = wrote_then c.bytes.ensures (wrote_then c.number.ensures c.numbers.ensures)
