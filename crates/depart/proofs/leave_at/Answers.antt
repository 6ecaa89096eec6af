-- `leave_at` meets its contract: declined it writes nothing, accepted the record goes. Assumes nothing.
use Prim.Native.Nat.{ℕ}
use mathlib.Core.Path.{ap}
use mathlib.Core.List.{[], ◌∷◌}
use lib.ListN.{get_or}
use Rattle.std.proofs.lemmas.Result.{err_from_is_err_and}
use Rattle.model.specs.Table.{members_in, ids}
use Rattle.model.specs.Answer.{accepted}
use Rattle.model.specs.Calls.{leave_answer, leave_words}
use Rattle.depart.proofs.Laws.{refused_leave}
use Rattle.depart.proofs.leave_at.Goals as goal

pub returns-in_err-judged : goal.returns-in_err-judged
returns-in_err-judged c =
    let p = err_from_is_err_and c.from_residual.result c.from_residual.ensures.1 in
    rw (p.1, p.2) (refused_leave c.args.t.now (get_or (ids (members_in c.args.t.now)) c.args.k 0) _ c.in_err-judged.ensures)

pub returns : goal.returns
unfolding leave_answer leave_words
returns c =
    let e = c.in_ok-judged.ensures.0 in
    (rw e (ap (λ (m : ℕ). accepted (m ∷ [])) c.gone.ensures.0), rw e c.gone.ensures.1)
