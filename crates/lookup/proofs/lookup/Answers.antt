-- `lookup` meets its contract: declined, or the walk from the place where n stands. Assumes nothing.
use mathlib.Core.Path.{ap, ◌∙◌}
use Prim.Native.Nat.{ℕ}
use Rattle.std.proofs.lemmas.Result.{err_from_is_err_and}
use Rattle.model.specs.Table.{members_in}
use Rattle.model.specs.Steps.{lookup}
use Rattle.model.specs.Calls.{lookup_answer}
use Rattle.standing.proofs.Laws.{called, refused_call}
use Rattle.lookup.proofs.lookup.Goals as goal

pub walk-requires : goal.walk-requires
walk-requires c = let g = called c.args.t.now c.args.n _ c.in_ok-place.ensures in record { formed_words = g.table; start_bound = g.stands.within }

pub returns-in_err-place : goal.returns-in_err-place
unfolding lookup_answer
returns-in_err-place c =
    let p = err_from_is_err_and c.from_residual.result c.from_residual.ensures.1 in
    rw (p.1, p.2) (refused_call c.args.t.now c.args.n _ c.in_err-place.ensures _ c.args.t.now).0

pub returns : goal.returns
unfolding lookup_answer
returns c =
    let a = c.args in
    let g = called a.t.now a.n _ c.in_ok-place.ensures in
    rw g.granted (c.walk.ensures ∙ ap (λ (x : ℕ). lookup (members_in a.t.now) x a.k) g.stands.has_id)
