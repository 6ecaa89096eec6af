-- `rectify` meets its contract: declined it writes nothing, else the member that stands at the place takes the notice. Assumes nothing.
use Prim.Native.Nat.{ℕ}
use mathlib.Core.Path.{ap, ◌∙◌}
use Rattle.std.proofs.lemmas.Result.{err_from_is_err_and}
use Rattle.model.specs.Table.{members_in, table_of}
use Rattle.model.specs.Ring.{named}
use Rattle.model.specs.Answer.{accepted}
use Rattle.model.specs.Steps.{rectify_reply, rectified}
use Rattle.model.specs.Calls.{written, rectify_answer, rectify_words}
use Rattle.standing.proofs.Laws.{called, refused_call}
use Rattle.rectify.proofs.rectify.Goals as goal

pub rectify_at-requires : goal.rectify_at-requires
rectify_at-requires c = let g = called c.args.t.now c.args.n _ c.in_ok-k.ensures in record { formed_words = g.table; k_bound = g.stands.within }

pub returns-in_err-k : goal.returns-in_err-k
unfolding rectify_answer rectify_words
returns-in_err-k c =
    let p = err_from_is_err_and c.from_residual.result c.from_residual.ensures.1 in
    rw (p.1, p.2) (refused_call c.args.t.now c.args.n _ c.in_err-k.ensures _ _)

pub returns : goal.returns
unfolding rectify_answer rectify_words
returns c =
    let ws = c.args.t.now in
    let g = called ws c.args.n _ c.in_ok-k.ensures in (
      rw g.granted (ap accepted (c.rectify_at.ensures.0 ∙ ap (λ (x : ℕ). rectify_reply (members_in ws) c.args.q (named (members_in ws) x)) g.stands.has_id)),
      rw g.granted (c.rectify_at.ensures.1 ∙ ap (λ (x : ℕ). written (rectified x c.args.q (table_of ws)) ws) g.stands.has_id),
    )
