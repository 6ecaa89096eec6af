-- `fail` meets its contract: declined it writes nothing, else the record at the place where n stands goes. Assumes nothing.
use Prim.Native.Nat.{ℕ}
use mathlib.Core.Path.{ap, ◌∙◌}
use mathlib.Core.List.{[], ◌∷◌}
use lib.ListN.{length}
use Rattle.std.proofs.lemmas.Result.{err_from_is_err_and}
use Rattle.model.specs.Table.{table_of}
use Rattle.model.specs.Answer.{accepted}
use Rattle.model.specs.Steps.{without}
use Rattle.model.specs.Calls.{written_freed, fail_answer, fail_words}
use Rattle.standing.proofs.Laws.{called, refused_call}
use Rattle.depart.proofs.fail.Goals as goal

pub gone-requires : goal.gone-requires
gone-requires c = let g = called c.args.t.now c.args.n _ c.in_ok-k.ensures in record { formed_words = g.table; k_bound = g.stands.within }

pub returns-in_err-k : goal.returns-in_err-k
unfolding fail_answer fail_words
returns-in_err-k c =
    let p = err_from_is_err_and c.from_residual.result c.from_residual.ensures.1 in
    rw (p.1, p.2) (refused_call c.args.t.now c.args.n _ c.in_err-k.ensures _ _)

pub returns : goal.returns
unfolding fail_answer fail_words
returns c =
    let T = table_of c.args.t.now in
    let g = called c.args.t.now c.args.n _ c.in_ok-k.ensures in (
      rw g.granted (ap (λ (m : ℕ). accepted (m ∷ [])) (c.gone.ensures.0 ∙ ap (λ (x : ℕ). length (without x T).members) g.stands.has_id)),
      rw g.granted (c.gone.ensures.1 ∙ ap (λ (x : ℕ). written_freed (without x T) c.args.t.now) g.stands.has_id),
    )
