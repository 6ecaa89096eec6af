-- `is_open` meets its contract. The invariant: what was judged and found so far, and the windows that are left, decide as all do. Assumes nothing.
use Rattle.std.proofs.Common.{sym, ◌∙◌}
use Rattle.model.specs.Calls.{is_open_answer}
use Rattle.hours.proofs.Pass.{all_left, right_end, open_end}
use Rattle.hours.proofs.Replies.{may_not, windows_refused, says_open}
use Rattle.hours.proofs.is_open.Goals as goal

pub returns-then-not-may_ask : goal.returns-then-not-may_ask
unfolding is_open_answer
returns-then-not-may_ask c = rw (may_not c.args.ws.now c.args.m (sym c.may_ask.ensures ∙ c.if-not-may_ask.true))

pub loop-start-init : goal.loop-start-init
loop-start-init c = let e = all_left c.args.ws.now _ c.as_chunks.ensures.front in record { judged = rw e; told = rw e }

pub returns-then-right : goal.returns-then-right
returns-then-right c =
    let k = c.loop-start in
    let end = c.loop-start-test.false in
    says_open c.args.ws.now c.args.m (sym c.may_ask.ensures ∙ c.if-not-may_ask.false) (right_end _ _ end k.right k.invariant.judged ∙ c.if-right.true) k.found (open_end _ _ end k.found _ k.invariant.told)

pub returns-else-right : goal.returns-else-right
unfolding is_open_answer
returns-else-right c =
    let k = c.loop-start in
    rw (windows_refused c.args.ws.now c.args.m (sym c.may_ask.ensures ∙ c.if-not-may_ask.false) (right_end _ _ c.loop-start-test.false k.right k.invariant.judged ∙ c.if-right.false))
