-- `settle_at` meets its contract: declined it writes nothing. Assumes nothing.
use mathlib.Core.Path.{ap}
use Rattle.std.proofs.lemmas.Result.{err_from_is_err_and}
use Rattle.model.specs.Answer.{accepted}
use Rattle.model.specs.Calls.{settle_at_answer, settle_at_words}
use Rattle.laws.specs.Accepted.{settle_at_accepted}
use Rattle.answers.proofs.Judged.{declined_by, kept_by}
use Rattle.settle.proofs.Laws.{granted}
use Rattle.settle.proofs.settle_at.Goals as goal

pub rounds_at-requires : goal.rounds_at-requires
rounds_at-requires c =
    let b = c.in_ok-passed.ensures in
    let e = settle_at_accepted _ _ _ b.0 in
    record { good = granted _ e.0; passed_value = b.1; ws_value = e.1; ts_value = e.2 }

pub returns-in_err-passed : goal.returns-in_err-passed
unfolding settle_at_answer settle_at_words
returns-in_err-passed c =
    let p = err_from_is_err_and c.from_residual.result c.from_residual.ensures.1 in
    rw (p.1, p.2) (declined_by _ c.in_err-passed.ensures _, kept_by _ c.in_err-passed.ensures _ _)

pub returns : goal.returns
unfolding settle_at_answer settle_at_words
returns c =
    let e = c.in_ok-passed.ensures.0 in
    (rw e (ap accepted c.rounds_at.ensures.0), rw e c.rounds_at.ensures.1)
