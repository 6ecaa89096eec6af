-- `left` meets its contract: each exit is a cause of the list, behind those before it. Assumes nothing.
use mathlib.Core.Path.{refl, sym, ◌∙◌}
use Prim.Native.Nat.{◌+◌, ◌<◌, ◌≤◌}
use native.Mathlib.Omega.{arith}
use borrow.Author.Tests.{lt-ltb, le-ltb}
use lib.ListN.{get_or}
use Rattle.model.specs.Table.{members_in}
use Rattle.model.specs.Ring.{principals}
use Rattle.model.specs.Refusals.{cuts_off, too_few_principals}
use Rattle.depart.proofs.left.Goals as goal

pub returns-then-not-all_live : goal.returns-then-not-all_live
unfolding cuts_off
returns-then-not-all_live c = rw (sym c.all_live.ensures ∙ c.if-not-all_live.true)

pub returns-then-count_principals-r : goal.returns-then-count_principals-r
unfolding cuts_off too_few_principals
returns-then-count_principals-r c =
    let ws = c.args.t.now in
    let h : principals (members_in ws) < get_or ws 0 0 + 1 = omega (arith, c.count_principals.ensures, c.if-count_principals-r.true) in
    rw (sym c.all_live.ensures ∙ c.if-not-all_live.false, lt-ltb _ _ h)

pub returns : goal.returns
unfolding cuts_off too_few_principals
returns c =
    let ws = c.args.t.now in
    let h : get_or ws 0 0 + 1 ≤ principals (members_in ws) = omega (arith, c.count_principals.ensures, c.if-count_principals-r.false) in
    (rw (sym c.all_live.ensures ∙ c.if-not-all_live.false, le-ltb _ _ h), refl)
