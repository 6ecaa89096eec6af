-- `is_pending` meets its contract: the word read is the third of the record. Assumes nothing.
use mathlib.Core.Path.{ap}
use lib.Dec.{eqb}
use Rattle.turns.proofs.is_pending.Goals as goal

pub returns : goal.returns
returns c = ap (λ x. eqb x 1) c.word_at.ensures
