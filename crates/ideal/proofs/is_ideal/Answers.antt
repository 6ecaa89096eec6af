-- `is_ideal` meets its contract. Assumes nothing.
use Prim.Native.Nat.{◌<◌}
use mathlib.Core.Path.{◌≡◌}
use mathlib.Core.Bool.{true, false}
use borrow.Author.Rules.{rules}
use borrow.Author.Tests.{tests}
use lib.ListN.{get_or}
use Rattle.std.proofs.lemmas.Iterator.{cases_from_all, YieldsList-from_range}
use Rattle.model.specs.Table.{members_in, ids}
use Rattle.model.specs.Ring.{nobody, ideal_member}
use Rattle.ideal.proofs.Laws.{told}
use Rattle.ideal.proofs.is_ideal.Goals as goal

pub returns : goal.returns
returns c =
    let t = c.args.t.now in
    let ms = members_in t in
    told t c.all.result (cases_from_all _ _ _
    (λ k. k < get_or t 1 0 → ideal_member (get_or t 0 0) (ids ms) (get_or ms k nobody) ≡ true) (λ k. k < get_or t 1 0 → ideal_member (get_or t 0 0) (ids ms) (get_or ms k nobody) ≡ false)
    c.all.ensures.ran (YieldsList-from_range 0 (get_or t 1 0) (get_or t 1 0) (search rules) (search rules)) (λ x q k. search (rules, tests)) (λ x q k. search (rules, tests)))
