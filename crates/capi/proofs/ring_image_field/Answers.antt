-- `ring_image_field` meets its contract. Assumes nothing.
use mathlib.Core.Path.{ap, ◌∙◌}
use Rattle.answers.specs.Packed.{packed}
use Rattle.capi.proofs.ring_image_field.Goals as goal

pub returns : goal.returns
returns c = c.numbers.ensures.packs ∙ ap packed c.field_at.ensures
