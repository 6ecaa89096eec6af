-- `apply_all` meets its contract: one call an iteration, and demand 3 of them all. Assumes nothing.
use Rattle.std.proofs.Common.{◌≡◌, ◌∙◌, length, ap, arith, below_more, add-one}
use Rattle.model.specs.Run.{call_words}
use Rattle.calls.specs.Calls.{call_of}
use Rattle.calls.proofs.Ran.{ran, ran_all, call_at, kept}
use Rattle.calls.proofs.apply_all.Goals as goal

pub loop-c-preserved : goal.loop-c-preserved
loop-c-preserved c =
    let cs = c.args.cs.now in
    let i = c.loop-c.c-index in record {
      table = c.apply.ensures.1 ∙ rw add-one (ap (λ ws. call_words ws (call_of (call_at cs i))) c.loop-c.invariant.table);
      numbers = below_more _ _ c.loop-c.invariant.numbers c.numbers_fit.ensures;
    }

pub returns : goal.returns
returns c =
    let cs = c.args.cs.now in
    let ws = c.args.t.now in
    let all : c.loop-c.c-index ≡ length cs = omega arith in
    let e = c.loop-c.invariant.table ∙ ap (ran cs ws) all ∙ ran_all cs ws in
    (e, λ b. rw e (kept cs ws (λ j h. c.loop-c.invariant.numbers j (omega arith)) b))
