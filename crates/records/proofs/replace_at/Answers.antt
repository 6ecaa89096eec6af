-- `replace_at` meets its contract. Assumes nothing.
use native.Mathlib.Omega.{arith}
use mathlib.Core.Path.{◌≡◌}
use lib.ListN.{length, get_or, length-take}
use Rattle.member.specs.View.{view}
use Rattle.table.proofs.Place.{stands_at, own_header}
use Rattle.records.proofs.Edits.{replace_words}
use borrow.Author.Rules.{rules}
use Rattle.records.proofs.replace_at.Goals as goal

pub returns : goal.returns
returns c =
    let eight : length c.args.m.successors ≡ 8 = search rules in
    let ws = c.args.t.now in
    let e = eight in
    replace_words ws (own_header ws c.requires.formed_words) (view (get_or ws 0 0) c.args.m) c.offset-at.result c.args.k c.write_member.new.part
    (simp length-take (omega arith)) (stands_at c.requires.formed_words c.requires.stands) c.offset-at.ensures.0 c.requires.formed_words.fits c.write_member.ensures
