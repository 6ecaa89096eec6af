-- `run_round` meets its contract. Assumes nothing.
use native.Mathlib.Numerals.{add-one}
use native.Mathlib.Omega.{arith}
use Rattle.turns.proofs.Lasting.{good_formed, good_still, same_count}
use Rattle.turns.proofs.Turns.{round_starts, round_ends, round_goes_on}
use Rattle.turns.proofs.run_round.Goals as goal

pub bounds-t-1 : goal.bounds-t-1
bounds-t-1 c = let f = good_formed c.requires in omega (arith, f.header)

pub loop-k-init : goal.loop-k-init
loop-k-init c = round_starts c.requires _ (omega arith)

pub turn_at-requires : goal.turn_at-requires
turn_at-requires c =
    let o = c.loop-k.invariant.follows in
    record { good = good_still c.requires o; k_bound = omega (arith, same_count c.requires o, c.loop-k-test.true) }

pub loop-k-preserved : goal.loop-k-preserved
loop-k-preserved c = round_goes_on c.requires c.loop-k.invariant _ (omega arith) (omega arith) c.turn_at.ensures

pub returns : goal.returns
returns c = round_ends c.requires c.loop-k.invariant (omega (arith, c.loop-k-test.false))
