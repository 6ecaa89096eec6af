-- `remove_at` meets its contract. Assumes nothing.
use Prim.Native.Nat.{suc, ◌+◌, ◌*◌, ◌≤◌}
use mathlib.Core.Path.{◌≡◌}
use native.Mathlib.Nat.{mul-le-mul_right, suc-mul}
use native.Mathlib.Omega.{arith}
use lib.ListN.{length, get_or}
use Rattle.model.specs.Table.{record_size, members_in, ids}
use Rattle.table.proofs.Place.{own_place, stands_at, own_header}
use Rattle.records.proofs.Edits.{remove_words}
use Rattle.records.proofs.remove_at.Goals as goal

pub returns : goal.returns
returns c =
    let room : let t = c.args.t.now in (c.offset-at.result + c.record_size-w.result ≤ c.offset-end.result) × (c.offset-end.result ≤ length t) = (
    let t = c.args.t.now in
    let z = record_size (get_or t 0 0) in
    let l : suc c.args.k * z ≤ get_or t 1 0 * z = mul-le-mul_right z c.requires.k_bound in
    let m : suc c.args.k * z ≡ c.args.k * z + z = suc-mul c.args.k z in
    omega (arith, c.record_size-w.ensures)) in
    let ws = c.args.t.now in
    remove_words ws (own_header ws c.requires.formed_words) (get_or (ids (members_in ws)) c.args.k 0) c.offset-at.result c.offset-end.result c.args.k
    c.close_gap.new.tail c.requires.formed_words.rises (stands_at c.requires.formed_words (own_place ws c.args.k c.requires.k_bound)) c.offset-at.ensures.0
    c.offset-end.ensures.0 room.1 (rw c.record_size-w.ensures at c.close_gap.ensures)
