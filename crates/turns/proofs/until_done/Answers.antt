-- `until_done` meets its contract. Assumes nothing.
use mathlib.Core.Path.{sym, ◌∙◌}
use native.Mathlib.Omega.{arith}
use lib.ListN.{get_or}
use Rattle.turns.proofs.Lasting.{good_formed, good_still, stands_still}
use Rattle.turns.proofs.Turns.{until_starts, until_none, until_done_law, until_left}
use Rattle.turns.proofs.until_done.Goals as goal

pub bounds-t-0 : goal.bounds-t-0
bounds-t-0 c = let f = good_formed c.requires.good in omega (arith, f.header)

pub loop-taken-init : goal.loop-taken-init
loop-taken-init c = until_starts c.requires.good c.args.n (get_or c.args.t.now 0 0) _ (omega arith)

pub step-requires : goal.step-requires
step-requires c = record { good = good_still c.requires.good c.loop-taken.invariant.follows; stands = stands_still c.requires.good c.loop-taken.invariant.follows c.requires.stands }

pub returns-then-step : goal.returns-then-step
returns-then-step c = until_done_law c.requires.good c.requires.stands c.loop-taken.invariant (omega (arith, c.loop-taken-test.true)) c.step.ensures.1 (sym c.step.ensures.0 ∙ c.if-step.true)

pub loop-taken-preserved : goal.loop-taken-preserved
loop-taken-preserved c = until_left c.requires.good c.requires.stands c.loop-taken.invariant (omega (arith, c.loop-taken-test.true)) c.step.ensures.1 (sym c.step.ensures.0 ∙ c.if-step.false) _ (omega arith)

pub returns : goal.returns
returns c = until_none c.requires.good c.requires.stands c.loop-taken.invariant (omega (arith, c.loop-taken-test.false))
