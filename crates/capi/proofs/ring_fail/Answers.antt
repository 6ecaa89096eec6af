-- `ring_fail` meets its contract. Assumes nothing.
use mathlib.Core.Path.{ap, ◌∙◌}
use Rattle.answers.specs.Packed.{packed}
use Rattle.capi.proofs.ring_fail.Goals as goal

pub returns : goal.returns
returns c = (c.numbers.ensures.packs ∙ ap packed c.fail.ensures.0, c.fail.ensures.1)
