-- `unread` meets its contract: the two texts, one after the other. Assumes nothing.
use mathlib.Core.List.{[], ◌∷◌}
use Rattle.script.specs.Text.{digits, unread}
use Rattle.put.proofs.Writing.{wrote_then, room_first, room_then}
use Rattle.text.proofs.unread.Goals as goal

pub number-requires : goal.number-requires
unfolding unread
number-requires c = room_first (digits c.args.n) (32 ∷ 98 ∷ 97 ∷ 100 ∷ 10 ∷ []) c.args.out.now c.requires

pub bytes-requires : goal.bytes-requires
unfolding unread
bytes-requires c = room_then (digits c.args.n) (32 ∷ 98 ∷ 97 ∷ 100 ∷ 10 ∷ []) c.args.out.now c.number.new.self c.requires c.number.ensures

pub returns : goal.returns
unfolding unread
returns c = wrote_then c.number.ensures c.bytes.ensures
