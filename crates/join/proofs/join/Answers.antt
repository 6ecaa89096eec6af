-- `join` meets its contract: declined it writes nothing, else j is admitted. Assumes nothing.
use Prim.Native.Nat.{ℕ}
use mathlib.Core.Path.{ap}
use mathlib.Core.List.{[], ◌∷◌}
use Rattle.std.proofs.lemmas.Result.{err_from_is_err_and}
use Rattle.model.specs.Answer.{accepted}
use Rattle.model.specs.Calls.{join_answer, join_words}
use Rattle.join.proofs.Laws.{admits, refused_join}
use Rattle.join.proofs.join.Goals as goal

pub returns-in_err-at : goal.returns-in_err-at
unfolding join_answer join_words
returns-in_err-at c =
    let a = c.args in
    let p = err_from_is_err_and c.from_residual.result c.from_residual.ensures.1 in
    rw (p.1, p.2) (refused_join a.t.now a.j a.p _ c.in_err-at.ensures _ _)

pub admitted-requires : goal.admitted-requires
admitted-requires c =
    let a = c.args in
    let e = c.in_ok-at.ensures in
    admits a.t.now a.j a.p _ _ e.0 (ap (λ (x : ℕ × ℕ). x.0) e.1) (ap (λ (x : ℕ × ℕ). x.1) e.1)

pub returns : goal.returns
unfolding join_answer join_words
returns c =
    let g = c.in_ok-at.ensures.0 in
    (rw g (ap (λ (n : ℕ). accepted (n ∷ [])) c.admitted.ensures.0), rw g c.admitted.ensures.1)
