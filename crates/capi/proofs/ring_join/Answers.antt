-- `ring_join` meets its contract. Assumes nothing.
use mathlib.Core.Path.{ap, ◌∙◌}
use Rattle.answers.specs.Packed.{packed}
use Rattle.capi.proofs.ring_join.Goals as goal

pub returns : goal.returns
returns c = (c.numbers.ensures.packs ∙ ap packed c.join.ensures.0, c.join.ensures.1)
