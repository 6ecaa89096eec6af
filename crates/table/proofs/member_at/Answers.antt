-- `member_at` meets its contract. Assumes nothing.
use Rattle.std.proofs.Common.{◌∙◌, ap, List, ℕ, get_or}
use Rattle.model.specs.Table.{member_of}
use Rattle.laws.specs.Parts.{part_from}
use Rattle.table.proofs.Members.{whole}
use Rattle.table.proofs.member_at.Goals as goal

pub returns : goal.returns
returns c =
    let ws = c.args.t.now in
    c.read_member.ensures ∙ ap (λ (l : List ℕ). member_of (get_or ws 0 0) l) (part_from c.offset-at.result ws) ∙ whole ws c.args.k c.offset-at.result c.requires.k_bound c.offset-at.ensures.0
