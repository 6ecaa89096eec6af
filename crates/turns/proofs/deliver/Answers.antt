-- `deliver` meets its contract: the notice is lost, or the member that stands at the place found takes it. Assumes nothing.
use mathlib.Core.Path.{sym, ◌∙◌}
use Rattle.table.specs.Located.{Stands}
use Rattle.table.proofs.Place.{missing, here}
use Rattle.turns.proofs.Steps.{notice_lost, notice_taken}
use Rattle.turns.proofs.deliver.Goals as goal

pub returns-in_default : goal.returns-in_default
returns-in_default c = notice_lost c.args.t.now c.requires c.args.q c.args.h (missing c.args.t.now c.args.h _ (sym c.in_default.is ∙ c.locate.ensures)).0

pub rectify_at-requires : goal.rectify_at-requires
rectify_at-requires c =
    let stands : let a = c.args in Stands a.t.now c.in-Ok.k a.h = here c.args.t.now c.args.h _ c.requires (sym c.in-Ok.is ∙ c.locate.ensures) in
    record { formed_words = c.requires; k_bound = stands.within }

pub returns-in-Ok : goal.returns-in-Ok
returns-in-Ok c =
    let stands : let a = c.args in Stands a.t.now c.in-Ok.k a.h = here c.args.t.now c.args.h _ c.requires (sym c.in-Ok.is ∙ c.locate.ensures) in
    notice_taken c.args.t.now c.requires c.args.q c.args.h _ _ stands c.rectify_at.ensures.1
