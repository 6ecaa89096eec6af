-- `ring_take_over` meets its contract. Assumes nothing.
use Rattle.capi.proofs.ring_take_over.Goals as goal

pub returns : goal.returns
returns c = rw (c.take_over-n.ensures, c.from.ensures, c.chooses_candidate-chosen.ensures)
