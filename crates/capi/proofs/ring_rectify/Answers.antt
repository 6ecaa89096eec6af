-- `ring_rectify` meets its contract. Assumes nothing.
use mathlib.Core.Path.{ap, ◌∙◌}
use Rattle.answers.specs.Packed.{packed}
use Rattle.capi.proofs.ring_rectify.Goals as goal

pub returns : goal.returns
returns c = (c.numbers.ensures.packs ∙ ap packed c.rectify.ensures.0, c.rectify.ensures.1)
