-- `settle` meets its contract: declined it writes nothing. Assumes nothing.
use mathlib.Core.Path.{ap}
use Rattle.std.proofs.lemmas.Result.{err_from_is_err_and}
use Rattle.model.specs.Answer.{accepted}
use Rattle.model.specs.Calls.{settle_answer, settle_words}
use Rattle.answers.proofs.Judged.{declined_by, kept_by}
use Rattle.settle.proofs.Laws.{granted}
use Rattle.settle.proofs.settle.Goals as goal

pub rounds_of-requires : goal.rounds_of-requires
rounds_of-requires c = let b = c.in_ok-passed.ensures in record { good = granted _ b.0; passed_value = b.1 }

pub returns-in_err-passed : goal.returns-in_err-passed
unfolding settle_answer settle_words
returns-in_err-passed c =
    let p = err_from_is_err_and c.from_residual.result c.from_residual.ensures.1 in
    rw (p.1, p.2) (declined_by _ c.in_err-passed.ensures _, kept_by _ c.in_err-passed.ensures _ _)

pub returns : goal.returns
unfolding settle_answer settle_words
returns c =
    let e = c.in_ok-passed.ensures.0 in
    (rw e (ap accepted c.rounds_of.ensures.0), rw e c.rounds_of.ensures.1)
