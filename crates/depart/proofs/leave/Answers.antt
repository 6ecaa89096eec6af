-- `leave` meets its contract: 1 and 3 as for loss, and else what `leave_at` says at the place where n stands. Assumes nothing.
use mathlib.Core.Path.{sym, ap, ◌∙◌}
use Rattle.std.proofs.lemmas.Result.{err_from_is_err_and}
use Rattle.model.specs.Calls.{leave_answer, leave_words}
use Rattle.standing.proofs.Laws.{called}
use Rattle.depart.proofs.Laws.{member_refused, refused_leave}
use Rattle.depart.proofs.leave.Goals as goal

pub leave_at-requires : goal.leave_at-requires
leave_at-requires c = let g = called c.args.t.now c.args.n _ c.in_ok-k.ensures in record { formed_words = g.table; k_bound = g.stands.within }

pub returns-in_err-k : goal.returns-in_err-k
returns-in_err-k c =
    let p = err_from_is_err_and c.from_residual.result c.from_residual.ensures.1 in
    rw (p.1, p.2) (refused_leave c.args.t.now c.args.n _ (member_refused c.args.t.now c.args.n _ c.in_err-k.ensures))

pub returns : goal.returns
returns c =
    let ws = c.args.t.now in
    let e = (called ws c.args.n _ c.in_ok-k.ensures).stands.has_id in
    (c.leave_at.ensures.0 ∙ ap (leave_answer ws) e, c.leave_at.ensures.1 ∙ ap (leave_words ws) e)
