-- `next_open` meets its contract. The invariant: what was judged and the least distance so far, and the windows that are left, decide as all do. Assumes nothing.
use Rattle.std.proofs.Common.{sym, ◌∙◌}
use Rattle.model.specs.Calls.{next_open_answer}
use Rattle.hours.proofs.Pass.{all_left, right_end, least_end}
use Rattle.hours.proofs.Replies.{may_not, windows_refused, says_never, says_at}
use Rattle.hours.proofs.next_open.Goals as goal

pub returns-then-not-may_ask : goal.returns-then-not-may_ask
unfolding next_open_answer
returns-then-not-may_ask c = rw (may_not c.args.ws.now c.args.m (sym c.may_ask.ensures ∙ c.if-not-may_ask.true))

pub loop-start-init : goal.loop-start-init
loop-start-init c = let e = all_left c.args.ws.now _ c.as_chunks.ensures.front in record { judged = rw e; told = rw e }

pub returns-then-not-right : goal.returns-then-not-right
unfolding next_open_answer
returns-then-not-right c =
    let k = c.loop-start in
    rw (windows_refused c.args.ws.now c.args.m (sym c.may_ask.ensures ∙ c.if-not-may_ask.false) (right_end _ _ c.loop-start-test.false k.right k.invariant.judged ∙ c.if-not-right.true))

pub returns-then-least-lt-WEEK : goal.returns-then-least-lt-WEEK
returns-then-least-lt-WEEK c =
    let k = c.loop-start in
    let end = c.loop-start-test.false in
    says_at c.args.ws.now c.args.m (sym c.may_ask.ensures ∙ c.if-not-may_ask.false) (right_end _ _ end k.right k.invariant.judged ∙ c.if-not-right.false) k.least (least_end _ _ end _ _ k.invariant.told) c.if-least-lt-WEEK.true

pub returns-else-least-lt-WEEK : goal.returns-else-least-lt-WEEK
returns-else-least-lt-WEEK c =
    let k = c.loop-start in
    let end = c.loop-start-test.false in
    says_never c.args.ws.now c.args.m (sym c.may_ask.ensures ∙ c.if-not-may_ask.false) (right_end _ _ end k.right k.invariant.judged ∙ c.if-not-right.false) k.least (least_end _ _ end _ _ k.invariant.told) c.if-least-lt-WEEK.false
