-- `number_in` meets its contract. Assumes nothing.
use Rattle.std.proofs.Common.{arith, ◌∙◌}
use Rattle.std.proofs.lemmas.Grind.{common_steps}
use Rattle.std.proofs.lemmas.Bool.Decides.{nat_tests}
use Rattle.part.proofs.Digits.{too_few, too_many, read, stray, over}
use Rattle.part.proofs.number_in.Goals as goal

pub returns-then-is_empty : goal.returns-then-is_empty
returns-then-is_empty c = grind (arith, nat_tests, c.then-is_empty.either, too_few c.args.p.now, too_many c.args.p.now)

pub returns-then-not-is_ascii_digit : goal.returns-then-not-is_ascii_digit
returns-then-not-is_ascii_digit c = grind (arith, common_steps, stray)

pub returns-in_err-checked_mul : goal.returns-in_err-checked_mul
returns-in_err-checked_mul c = c.from_residual.ensures ∙ over c.args.p.now c.loop-b.b-index c.loop-b.v (omega arith) c.loop-b.invariant (omega (arith, c.in_err-checked_mul.ensures))

pub returns-in_err-v : goal.returns-in_err-v
returns-in_err-v c = c.from_residual-in_err-v.ensures ∙ over c.args.p.now c.loop-b.b-index c.loop-b.v (omega arith) c.loop-b.invariant (omega (arith, c.in_err-v.ensures))

pub returns : goal.returns
returns c = read c.args.p.now (grind (arith, nat_tests)) (omega arith) c.loop-b.b-index c.loop-b.v (omega arith) c.loop-b.invariant
