-- `ring_next_open` meets its contract. Assumes nothing.
use mathlib.Core.Path.{ap, ◌∙◌}
use Rattle.answers.specs.Packed.{packed}
use Rattle.capi.proofs.ring_next_open.Goals as goal

pub returns : goal.returns
returns c = c.numbers.ensures.packs ∙ ap packed c.next_open.ensures
