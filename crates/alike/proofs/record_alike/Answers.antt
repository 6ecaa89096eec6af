-- `record_alike` meets its contract. Assumes nothing.
use Prim.Native.Nat.{ℕ, ◌-◌}
use mathlib.Core.Path.{◌≡◌, sym, ◌∙◌}
use mathlib.Core.Bool.{true}
use mathlib.Core.List.{List}
use native.Mathlib.Omega.{arith}
use lib.ListN.{length, take, drop}
use Rattle.model.specs.Lists.{same}
use Rattle.laws.specs.Parts.{part_from}
use Rattle.alike.proofs.Records.{four_differ, last_decide, few_same, more_same}
use Rattle.alike.proofs.record_alike.Goals as goal
use Rattle.alike.proofs.record_alike.Goals.{then-r-gt-AT_ONCE+else-not-four_same-2, else-r-gt-AT_ONCE}

-- four words from k on, of the lent parts and of the records
from : (k : ℕ) (us vs : List ℕ) → same (take 4 (take (length us - k) (drop k us))) (take 4 (take (length vs - k) (drop k vs))) ≡ same (take 4 (drop k us)) (take 4 (drop k vs))
from k us vs = rw (part_from k us, part_from k vs)

pub returns-then-not-four_same : goal.returns-then-not-four_same
returns-then-not-four_same c = four_differ c.args.r c.args.u.now c.args.v.now c.requires.1 c.requires.2 0 (omega arith) (sym c.four_same.ensures ∙ c.if-not-four_same.true)

pub returns-then-not-four_same-2 : goal.returns-then-not-four_same-2
returns-then-not-four_same-2 c =
    four_differ c.args.r c.args.u.now c.args.v.now c.requires.1 c.requires.2 4 (omega (arith, c.if-r-gt-AT_ONCE.true))
    (sym (c.four_same-then-r-gt-AT_ONCE.ensures ∙ from 4 c.args.u.now c.args.v.now) ∙ c.if-not-four_same-2.true)

pub returns : goal.returns
returns c =
    let us = c.args.u.now in
    let vs = c.args.v.now in
    let r = c.args.r in
    let first : same (take 4 us) (take 4 vs) ≡ true = sym c.four_same.ensures ∙ c.if-not-four_same.false in
    c.four_same-2.ensures ∙ from r us vs
    ∙ last_decide r us vs c.requires.1 c.requires.2 (elim c.if-r-gt-AT_ONCE.branch [
      | then-r-gt-AT_ONCE+else-not-four_same-2 w ↦ more_same r us vs first c.requires.0 (sym (w.four_same-then-r-gt-AT_ONCE.ensures ∙ from 4 us vs) ∙ w.if-not-four_same-2.false)
      | else-r-gt-AT_ONCE w ↦ few_same r us vs first (omega arith)
    ])
