-- `run` meets its contract. Assumes nothing.
use native.Mathlib.Omega.{arith}
use mathlib.Core.Path.{◌∙◌, ap}
use Rattle.std.proofs.lemmas.Bool.Decides.{nat_tests}
use Rattle.rehearsal.proofs.Going.{goes_on}
use Rattle.rehearsal.proofs.Lines.{without_feed}
use Rattle.rehearsal.proofs.run.Goals as goal

pub loop-p-preserved : goal.loop-p-preserved
loop-p-preserved c =
    let k = c.loop-p in
    let u = c.until in
    let r = c.run_line in
    let e = rw c.split_at.ensures.front at r.ensures in
    let after = ap (λ (b : _). b.now) c.unwrap_or-p.ensures ∙ without_feed k.p.now u.result c.split_at.result.1 c.strip_prefix.result u.ensures.0 c.split_at.ensures.back c.strip_prefix.ensures.cases in
    goes_on _ _ _ k.t k.out k.p.now k.n u.result _ k.invariant (grind (arith, nat_tests)) u.ensures.1 u.ensures.0 after r.new.t r.new.out e.0 e.1 e.2 r.auto.t
