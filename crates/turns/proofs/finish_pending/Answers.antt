-- `finish_pending` meets its contract. Assumes nothing.
use mathlib.Core.Path.{◌≡◌, sym, ap, ◌∙◌}
use Rattle.model.specs.Table.{members_in}
use Rattle.model.specs.Ring.{named, is_pending}
use Rattle.table.proofs.Place.{stands_named}
use Rattle.turns.proofs.Lasting.{good_formed}
use Rattle.turns.proofs.Turns.{nothing_pending, was_pending}
use Rattle.turns.proofs.finish_pending.Goals as goal

pub is_pending-requires : goal.is_pending-requires
is_pending-requires c = record { formed_words = good_formed c.requires.good; k_bound = c.requires.stands.within }

pub returns-then-is_pending : goal.returns-then-is_pending
returns-then-is_pending c =
    let pending : let a = c.args in c.is_pending.result ≡ is_pending (named (members_in a.t.now) a.n) = c.is_pending.ensures ∙ ap is_pending (stands_named (good_formed c.requires.good) c.requires.stands) in
    was_pending c.requires.good c.args.n (sym pending ∙ c.if-is_pending.true) c.step.ensures.1

pub returns-else-is_pending : goal.returns-else-is_pending
returns-else-is_pending c =
    let pending : let a = c.args in c.is_pending.result ≡ is_pending (named (members_in a.t.now) a.n) = c.is_pending.ensures ∙ ap is_pending (stands_named (good_formed c.requires.good) c.requires.stands) in
    nothing_pending c.requires.good c.args.n (sym pending ∙ c.if-is_pending.false)
