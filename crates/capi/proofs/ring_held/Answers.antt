-- `ring_held` meets its contract. Assumes nothing.
use mathlib.Core.Path.{ap, ◌∙◌}
use Rattle.answers.specs.Runs.{packed}
use Rattle.capi.proofs.ring_held.Goals as goal

pub returns : goal.returns
returns c = c.numbers.ensures ∙ ap packed c.held.ensures
