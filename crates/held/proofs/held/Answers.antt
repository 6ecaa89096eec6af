-- `held` meets its contract: declined, or the runs of the member at the place where n stands. Assumes nothing.
use Rattle.std.proofs.Common.{ℕ, arith, sym, ap, ◌∙◌}
use Rattle.std.proofs.lemmas.Result.{err_from_is_err_and}
use Rattle.model.specs.Table.{members_in}
use Rattle.model.specs.Answer.{accepted}
use Rattle.model.specs.Held.{runs_of, bounds}
use Rattle.model.specs.Calls.{held_answer}
use Rattle.answers.proofs.Judged.{declined_by}
use Rattle.answers.specs.Refusal.{refused_declines}
use Rattle.standing.proofs.Laws.{called}
use Rattle.held.proofs.Laws.{held_refused, held_left}
use Rattle.held.proofs.held.Goals as goal

pub returns-in_err-at : goal.returns-in_err-at
unfolding held_answer
returns-in_err-at c =
    let a = c.args in
    let p = err_from_is_err_and c.from_residual.result c.from_residual.ensures.1 in
    let h = held_refused a.t.now a.n a.ks.now (λ z. omega (arith, refused_declines c.in_err-at.field-0.0, c.in_err-at.ensures, z)) in
    rw (p.1, p.2) (declined_by _ (sym h ∙ c.in_err-at.ensures) _)

pub runs_at-requires : goal.runs_at-requires
runs_at-requires c =
    let g = called c.args.t.now c.args.n _ c.in_ok-at.ensures in
    record { formed_words = g.table; at_bound = g.stands.within; ks_value = sym c.is_rising.ensures ∙ c.if-not-is_rising.false }

pub returns-then-not-is_rising : goal.returns-then-not-is_rising
unfolding held_answer
returns-then-not-is_rising c =
    let a = c.args in
    let g = called a.t.now a.n _ c.in_ok-at.ensures in
    rw (held_left a.t.now a.n a.ks.now g.granted, ← c.is_rising.ensures, c.if-not-is_rising.true)

pub returns : goal.returns
unfolding held_answer
returns c =
    let a = c.args in
    let g = called a.t.now a.n _ c.in_ok-at.ensures in
    rw (held_left a.t.now a.n a.ks.now g.granted, ← c.is_rising.ensures, c.if-not-is_rising.false)
    (ap accepted (c.runs_at.ensures ∙ ap (λ (x : ℕ). bounds (runs_of (members_in a.t.now) x a.ks.now)) g.stands.has_id))
