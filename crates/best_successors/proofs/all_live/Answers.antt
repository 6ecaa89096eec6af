-- `all_live` meets its contract. Assumes nothing.
use mathlib.Core.Path.{ap, ◌∙◌}
use mathlib.Core.Bool.{not}
use native.Mathlib.Omega.{arith}
use Rattle.best_successors.proofs.Laws.{live_all}
use Rattle.best_successors.proofs.all_live.Goals as goal

pub returns : goal.returns
returns c = let a = c.args in ap not c.contains.ensures.value ∙ live_all a.t.now a.best.now (omega arith) c.requires.best_places
