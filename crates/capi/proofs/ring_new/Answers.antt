-- `ring_new` meets its contract. Assumes nothing.
use mathlib.Core.Path.{ap, ◌∙◌}
use Rattle.answers.specs.Packed.{packed}
use Rattle.capi.proofs.ring_new.Goals as goal

pub returns : goal.returns
returns c = (c.numbers.ensures.packs ∙ ap packed c.new.ensures.0, c.new.ensures.1)
