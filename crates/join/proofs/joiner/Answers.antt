-- `joiner` meets its contract. Assumes nothing.
use mathlib.Core.Path.{ap, ◌∙◌}
use Rattle.model.specs.Table.{Member, members_in}
use Rattle.model.specs.Steps.{with_successors, joiner}
use Rattle.table.proofs.Place.{stands_named}
use Rattle.join.proofs.joiner.Goals as goal

pub returns : goal.returns
returns c =
    let a = c.args in
    ap (λ (m : Member). with_successors m.successors (joiner (members_in a.t.now) a.j a.p)) (c.member_at.ensures ∙ stands_named c.requires.formed_words c.requires.stands)
