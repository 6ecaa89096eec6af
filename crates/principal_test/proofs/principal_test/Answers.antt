-- `principal_test` meets its contract: declined, or the test of n, which is a member. Assumes nothing.
use Rattle.std.proofs.Common.{ap}
use Rattle.std.proofs.lemmas.Result.{err_from_is_err_and}
use Rattle.model.specs.Answer.{accepted}
use Rattle.model.specs.Calls.{principal_answer}
use Rattle.answers.proofs.Judged.{declined_by}
use Rattle.standing.proofs.Laws.{called}
use Rattle.principal_test.proofs.principal_test.Goals as goal

pub returns-in_err-standing_of : goal.returns-in_err-standing_of
unfolding principal_answer
returns-in_err-standing_of c =
    let p = err_from_is_err_and c.from_residual.result c.from_residual.ensures.1 in
    rw (p.1, p.2) (declined_by _ c.in_err-standing_of.ensures _)

pub test_pairs-requires : goal.test_pairs-requires
test_pairs-requires c = (called c.args.t.now c.args.n _ c.in_ok-standing_of.ensures).table

pub returns : goal.returns
unfolding principal_answer
returns c =
    let g = called c.args.t.now c.args.n _ c.in_ok-standing_of.ensures in
    rw g.granted (ap accepted c.test_pairs.ensures)
