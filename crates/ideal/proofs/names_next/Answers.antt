-- `names_next` meets its contract: the records that follow, or the walk round the end. Assumes nothing.
use Prim.Native.Nat.{◌+◌, ◌≤◌}
use mathlib.Core.Path.{ap, ◌∙◌}
use native.Mathlib.Omega.{arith}
use lib.ListN.{length, get_or}
use Rattle.model.specs.Lists.{same}
use Rattle.laws.specs.Parts.{part_from}
use Rattle.ideal.proofs.Laws.{ahead, ahead_fits}
use Rattle.ideal.proofs.names_next.Goals as goal
use Rattle.ideal.proofs.names_next.Goals.{Then-l-n}

few : (c : Then-l-n) → c.args.k + 1 + length c.args.l.now ≤ get_or c.args.t.now 1 0
few c = let h = c.requires.k_bound in omega (arith, c.if-l-n.true)

pub names_front-requires : goal.names_front-requires
names_front-requires c =
    let a = c.args in
    (c.requires.formed_words.r_high, rw part_from (ahead_fits a.t.now c.requires.formed_words a.k c.offset-at.result (length a.l.now) (few (goal.at.names_front-requires c).Then-l-n) c.offset-at.ensures.0))

pub returns-then-l-n : goal.returns-then-l-n
returns-then-l-n c =
    let a = c.args in
    c.names_front.ensures ∙ rw (part_from c.offset-at.result a.t.now)
    (ap (same a.l.now) (ahead a.t.now c.requires.formed_words a.k c.offset-at.result (length a.l.now) (few (goal.at.returns-then-l-n c).Then-l-n) c.offset-at.ensures.0))
