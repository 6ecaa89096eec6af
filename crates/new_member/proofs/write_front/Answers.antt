-- `write_front` meets its contract. Assumes nothing.
use native.Mathlib.Omega.{arith}
use lib.ListN.{get_or}
use Rattle.new_member.proofs.Members.{front_stored}
use Rattle.new_member.proofs.write_front.Goals as goal

pub returns : goal.returns
returns c =
    let a = c.args in
    front_stored a.xs.now a.part.now (get_or a.xs.now a.i 0) _ c.place_below-below.ensures.1 (omega arith)
