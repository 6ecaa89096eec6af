-- `write_ahead` meets its contract. Assumes nothing.
use lib.ListN.{get_or}
use Rattle.new_member.proofs.Members.{eight_ahead, ahead_record, ahead_behind}
use Rattle.new_member.proofs.write_ahead.Goals as goal

pub returns : goal.returns
returns c =
    let a = c.args in
    let x = get_or a.xs.now a.i 0 in
    let all = eight_ahead a.xs.now a.part.now _ _ a.i c.requires.0 c.requires.1 c.write_front.ensures c.write_eight.ensures in
    (ahead_record a.xs.now _ a.part.now a.r x c.requires.2 all c.requires.3, ahead_behind a.xs.now _ a.part.now a.r x c.requires.2 all)
