-- `apply` meets its contract: each arm by the contracts of its call and of its kind of answer. Assumes nothing.
use mathlib.Core.Path.{refl, subst}
use Rattle.model.specs.Run.{call_answer, call_words}
use Rattle.answers.specs.Packed.{Says}
use Rattle.calls.proofs.apply.Goals as goal

pub returns-in-Join : goal.returns-in-Join
unfolding call_answer call_words
returns-in-Join c = rw c.in-Join.is (subst (Says _) c.join.ensures.0 c.numbers.ensures, c.join.ensures.1)

pub returns-in-Leave : goal.returns-in-Leave
unfolding call_answer call_words
returns-in-Leave c = rw c.in-Leave.is (subst (Says _) c.leave.ensures.0 c.numbers-in-Leave.ensures, c.leave.ensures.1)

pub returns-in-Fail : goal.returns-in-Fail
unfolding call_answer call_words
returns-in-Fail c = rw c.in-Fail.is (subst (Says _) c.fail.ensures.0 c.numbers-in-Fail.ensures, c.fail.ensures.1)

pub returns-in-Stabilize : goal.returns-in-Stabilize
unfolding call_answer call_words
returns-in-Stabilize c = rw c.in-Stabilize.is (subst (Says _) c.stabilize.ensures.0 c.numbers-in-Stabilize.ensures, c.stabilize.ensures.1)

pub returns-in-Rectify : goal.returns-in-Rectify
unfolding call_answer call_words
returns-in-Rectify c = rw c.in-Rectify.is (subst (Says _) c.rectify.ensures.0 c.numbers-in-Rectify.ensures, c.rectify.ensures.1)

pub returns-in-Lookup : goal.returns-in-Lookup
unfolding call_answer call_words
returns-in-Lookup c = rw c.in-Lookup.is (subst (Says _) c.lookup.ensures c.numbers-in-Lookup.ensures, refl)

pub returns-in-Audit : goal.returns-in-Audit
unfolding call_answer call_words
returns-in-Audit c = rw c.in-Audit.is (subst (Says _) c.audit.ensures c.numbers-in-Audit.ensures, refl)
