-- `stabilize` meets its contract: declined it writes nothing, else the member that stands at the place takes the step. Assumes nothing.
use Prim.Native.Nat.{ℕ}
use mathlib.Core.Path.{ap, ◌∙◌}
use Rattle.std.proofs.lemmas.Result.{err_from_is_err_and}
use Rattle.model.specs.Table.{members_in, table_of}
use Rattle.model.specs.Ring.{named}
use Rattle.model.specs.Answer.{accepted}
use Rattle.model.specs.Steps.{stabilize_reply, stabilized}
use Rattle.model.specs.Calls.{written, stabilize_answer, stabilize_words}
use Rattle.standing.proofs.Laws.{called, refused_call}
use Rattle.stabilize.proofs.stabilize.Goals as goal

pub stabilize_at-requires : goal.stabilize_at-requires
stabilize_at-requires c = let g = called c.args.t.now c.args.n _ c.in_ok-k.ensures in record { formed_words = g.table; k_bound = g.stands.within }

pub returns-in_err-k : goal.returns-in_err-k
unfolding stabilize_answer stabilize_words
returns-in_err-k c =
    let p = err_from_is_err_and c.from_residual.result c.from_residual.ensures.1 in
    rw (p.1, p.2) (refused_call c.args.t.now c.args.n _ c.in_err-k.ensures _ _)

pub returns : goal.returns
unfolding stabilize_answer stabilize_words
returns c =
    let ws = c.args.t.now in
    let g = called ws c.args.n _ c.in_ok-k.ensures in (
      rw g.granted (ap accepted (c.stabilize_at.ensures.0 ∙ ap (λ (x : ℕ). stabilize_reply (members_in ws) (named (members_in ws) x)) g.stands.has_id)),
      rw g.granted (c.stabilize_at.ensures.1 ∙ ap (λ (x : ℕ). written (stabilized x (table_of ws)) ws) g.stands.has_id),
    )
