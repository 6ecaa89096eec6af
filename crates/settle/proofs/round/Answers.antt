-- `round` meets its contract: declined it writes nothing. Assumes nothing.
use mathlib.Core.Path.{ap}
use mathlib.Core.List.{[], ◌∷◌}
use Prim.Native.Nat.{ℕ}
use Rattle.std.proofs.lemmas.Result.{err_from_is_err_and}
use Rattle.model.specs.Answer.{accepted}
use Rattle.model.specs.Calls.{round_answer, round_words}
use Rattle.answers.proofs.Judged.{declined_by, kept_by}
use Rattle.settle.proofs.Laws.{granted}
use Rattle.settle.proofs.round.Goals as goal

pub round_of-requires : goal.round_of-requires
round_of-requires c = granted _ c.in_ok-begun_of.ensures.0

pub returns-in_err-begun_of : goal.returns-in_err-begun_of
unfolding round_answer round_words
returns-in_err-begun_of c =
    let p = err_from_is_err_and c.from_residual.result c.from_residual.ensures.1 in
    rw (p.1, p.2) (declined_by _ c.in_err-begun_of.ensures _, kept_by _ c.in_err-begun_of.ensures _ _)

pub returns : goal.returns
unfolding round_answer round_words
returns c =
    let e = c.in_ok-begun_of.ensures.0 in
    (rw e (ap (λ (v : ℕ). accepted (v ∷ [])) c.round_of.ensures.0), rw e c.round_of.ensures.1)
