-- `take_step` meets its contract. Assumes nothing.
use Prim.Native.Nat.{ℕ}
use mathlib.Core.Path.{sym, ap, ◌∙◌}
use borrow.Author.Tests.{ne_eqb}
use borrow.Author.Rules.{rules}
use lib.ListN.{get_or}
use lib.Seq.{get_or-take}
use Rattle.model.specs.Table.{space_of, table_of, members_in}
use Rattle.model.specs.Ring.{live}
use Rattle.member.specs.View.{view}
use Rattle.model.specs.Steps.{drop_head}
use Rattle.laws.specs.Tables.{space_words}
use Rattle.laws.specs.Stabilize.{step_dead, again}
use Rattle.table.proofs.Place.{missing, here}
use Rattle.stabilize_at.proofs.take_step.Goals as goal

pub returns-in_default : goal.returns-in_default
returns-in_default c =
    let ws = c.args.t.now in
    let m = c.args.m in
    let r = get_or ws 0 0 in
    let idle = ne_eqb _ _ c.if-m-eq1.false in
    let dead = ap (live (members_in ws)) (get_or-take r m.successors 0 0 c.requires.r_low) ∙ (missing ws (get_or m.successors 0 0) _ (sym c.in_default.is ∙ c.locate.ensures)).0 in
    record {
      leaves = c.drop_head.ensures ∙ ap (λ (w : ℕ). drop_head w (view r m)) (sym (space_words (table_of ws))) ∙ step_dead (members_in ws) (view r m) (space_of (table_of ws)) idle dead;
      replies = again (members_in ws) (view r m) idle dead;
    }

pub from_successor-requires : goal.from_successor-requires
from_successor-requires c = record { formed_words = search rules; fact = (c.if-m-eq1.false, here c.args.t.now (get_or c.args.m.successors 0 0) _ c.requires (sym c.in-Ok.is ∙ c.locate.ensures)) }
