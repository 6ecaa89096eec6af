-- `new` meets its contract. Assumes nothing.
use Rattle.std.proofs.Common.{length, refl, rules}
use Rattle.std.proofs.lemmas.Result.{err_from_is_err_and}
use Rattle.model.specs.Calls.{new_answer, new_words}
use Rattle.answers.proofs.Judged.{declined_by, kept_by}
use Rattle.new_table.proofs.Refused.{new_accepted}
use Rattle.new_table.proofs.new.Goals as goal

pub returns-in_err-judge : goal.returns-in_err-judge
unfolding new_answer new_words
returns-in_err-judge c =
    let p = err_from_is_err_and c.from_residual.result c.from_residual.ensures.1 in
    rw (p.1, p.2) (declined_by _ c.in_err-judge.ensures _, kept_by _ c.in_err-judge.ensures _ c.args.t.now)

pub write_table-requires : goal.write_table-requires
write_table-requires c =
    let m = new_accepted (length c.args.t.now) c.args.r c.args.xs.now c.in_ok-judge.ensures.0 in
    (m.in_order, m.list_high, m.count_high, m.room)

pub overflow_cast-result : goal.overflow_cast-result
overflow_cast-result c =
    let m = new_accepted (length c.args.t.now) c.args.r c.args.xs.now c.in_ok-judge.ensures.0 in
    search rules

pub returns : goal.returns
unfolding new_answer new_words
returns c = rw c.in_ok-judge.ensures.0 (refl, c.write_table.ensures)
