-- `findings` meets its contract: declined it writes nothing, else the records are those that `fill` leaves. Assumes nothing.
use Prim.Native.Nat.{ℕ}
use mathlib.Core.Path.{sym, ap, ◌∙◌}
use native.Mathlib.Omega.{arith}
use Rattle.std.proofs.lemmas.Result.{err_from_is_err_and}
use Rattle.model.specs.Table.{members_in}
use Rattle.best_successors.proofs.Laws.{member_count}
use Rattle.finding.specs.View.{views}
use Rattle.findings.specs.Filled.{filled}
use Rattle.findings.proofs.Filling.{formed, enough_room, filled_after, answered, declined_call}
use Rattle.findings.proofs.findings.Goals as goal

pub returns-in_err-judged : goal.returns-in_err-judged
returns-in_err-judged c =
    let p = err_from_is_err_and c.from_residual.result c.from_residual.ensures.1 in
    rw (p.1, p.2) (declined_call c.args.t.now c.args.out.now _ c.in_err-judged.ensures)

pub survey_of-s-requires : goal.survey_of-s-requires
survey_of-s-requires c = formed c.args.t.now c.args.out.now c.in_ok-judged.ensures.0

pub fill-requires : goal.fill-requires
fill-requires c =
    let e = c.survey_of-s.ensures in
    (e.0, omega (arith, e.1, member_count c.args.t.now, enough_room c.args.t.now c.args.out.now c.in_ok-judged.ensures.0))

pub returns : goal.returns
returns c =
    let ws = c.args.t.now in
    let ys = c.args.out.now in
    let granted = c.in_ok-judged.ensures.0 in
    let e = c.survey_of-s.ensures in (
      answered ws ys _ granted e.2,
      ap views (c.fill.ensures ∙ ap (λ (k : ℕ). filled (members_in ws) k ys) (e.1 ∙ sym (member_count ws))) ∙ filled_after ws ys granted,
    )
