-- `candidate_inside` meets its contract. Assumes nothing.
use Rattle.laws.specs.Parts.{successor_word}
use Rattle.verdict.proofs.Records.{pending_inside, none_inside}
use Rattle.verdict.proofs.candidate_inside.Goals as goal

pub returns-then-s-eq1 : goal.returns-then-s-eq1
returns-then-s-eq1 c =
    let ws = c.args.s.now in
    λ r h. pending_inside ws _ _ c.if-s-eq1.true c.between.ensures r (successor_word r ws h)

pub returns : goal.returns
returns c = none_inside c.args.s.now c.if-s-eq1.false
