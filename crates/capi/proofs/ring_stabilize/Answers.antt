-- `ring_stabilize` meets its contract. Assumes nothing.
use mathlib.Core.Path.{ap, ◌∙◌}
use Rattle.answers.specs.Packed.{packed}
use Rattle.capi.proofs.ring_stabilize.Goals as goal

pub returns : goal.returns
returns c = (c.numbers.ensures.packs ∙ ap packed c.stabilize.ensures.0, c.stabilize.ensures.1)
