-- `rank` meets its contract. The loop's invariant: the place is from lo to hi. Assumes nothing.
use Rattle.std.proofs.Common.{◌+◌, ◌/◌, ◌<◌, arith, rules, get_or}
use Rattle.model.specs.Table.{members_in, ids}
use Rattle.table.specs.Rank.{rank}
use Rattle.table.proofs.Members.{ids_count, id_at_law}
use Rattle.table.proofs.Place.{rank_up}
use Rattle.table.proofs.rank.Goals as goal

pub loop-lo-preserved-then-t-at : goal.loop-lo-preserved-then-t-at
loop-lo-preserved-then-t-at c =
    let mid = (let l = c.loop-lo in (l.lo + l.hi) / 2) in
    let mid-within : mid < get_or c.args.t.now 1 0 = omega arith in
    let t = c.args.t.now in
    let n = ids_count t in
    let e = id_at_law t mid c.offset-at.result mid-within c.offset-at.ensures.0 in
    let u : mid < rank (ids (members_in t)) c.args.x = rank_up (ids (members_in t)) c.args.x mid c.requires.rises (omega (arith, mid-within)) (omega arith) in
    (search rules, omega arith, search rules)
