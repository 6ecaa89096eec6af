-- `from_predecessor` meets its contract. Assumes nothing.
use Prim.Native.Nat.{ℕ}
use mathlib.Core.Path.{◌≡◌, sym, ap, ◌∙◌}
use mathlib.Core.Bool.{true}
use mathlib.Core.List.{[], ◌∷◌}
use borrow.Author.Tests.{eq-eqb}
use borrow.Author.Rules.{rules}
use lib.ListN.{get_or}
use lib.Seq.{get_or-take}
use Rattle.model.specs.Table.{space_of, table_of, members_in}
use Rattle.model.specs.Ring.{is_pending}
use Rattle.model.specs.Steps.{clear_pending}
use Rattle.member.specs.View.{view}
use Rattle.table.specs.Located.{Stands}
use Rattle.table.proofs.Place.{missing, here, stands_live, stands_named}
use Rattle.stabilize_at.proofs.Laws.{candidate_live, candidate_dead, done_candidate, done_successor}
use Rattle.stabilize_at.proofs.from_predecessor.Goals as goal

pub returns-in_default : goal.returns-in_default
returns-in_default c =
    let waiting : is_pending (view (get_or c.args.t.now 0 0) c.args.m) ≡ true = eq-eqb _ _ c.requires.pending_value in
    let ws = c.args.t.now in
    let m = c.args.m in
    let r = get_or ws 0 0 in
    let dead = (missing ws m.candidate _ (sym c.in_default.is ∙ c.locate.ensures)).0 in
    let head = sym (get_or-take r m.successors 0 0 c.requires.formed_words.r_low) in
    record {
      leaves = c.clear_pending.ensures r ∙ candidate_dead (space_of (table_of ws)) (members_in ws) (view r m) waiting dead;
      replies = ap (λ (x : ℕ). 2 ∷ x ∷ []) head ∙ done_successor (space_of (table_of ws)) (members_in ws) (view r m) waiting dead;
    }

pub member_at-s-requires : goal.member_at-s-requires
member_at-s-requires c =
    let stands : let a = c.args in Stands a.t.now c.in-Ok.k a.m.candidate = here c.args.t.now c.args.m.candidate _ c.requires.formed_words (sym c.in-Ok.is ∙ c.locate.ensures) in
    record { formed_words = search rules; k_bound = stands.within }

pub returns : goal.returns
returns c =
    let waiting : is_pending (view (get_or c.args.t.now 0 0) c.args.m) ≡ true = eq-eqb _ _ c.requires.pending_value in
    let stands : let a = c.args in Stands a.t.now c.in-Ok.k a.m.candidate = here c.args.t.now c.args.m.candidate _ c.requires.formed_words (sym c.in-Ok.is ∙ c.locate.ensures) in
    let ws = c.args.t.now in
    let m = c.args.m in
    let r = get_or ws 0 0 in
    let live = stands_live c.requires.formed_words stands in
    record {
      leaves = c.clear_pending-2.ensures r ∙ ap clear_pending (c.adopt.ensures r c.requires.formed_words.r_low c.requires.formed_words.r_high)
          ∙ candidate_live (space_of (table_of ws)) (members_in ws) (view r m) waiting (view r c.member_at-s.result)
          (c.member_at-s.ensures ∙ stands_named c.requires.formed_words stands) live;
      replies = done_candidate (space_of (table_of ws)) (members_in ws) (view r m) waiting live;
    }
