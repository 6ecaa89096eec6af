-- `from_successor` meets its contract. Assumes nothing.
use mathlib.Core.Path.{◌≡◌, sym, ap, ◌∙◌}
use mathlib.Core.Bool.{true, false}
use borrow.Author.Tests.{ne_eqb}
use lib.ListN.{get_or}
use lib.Seq.{get_or-take}
use Rattle.model.specs.Table.{space_of, table_of, members_in}
use Rattle.model.specs.Ring.{live, named, successor, is_pending}
use Rattle.model.specs.Steps.{await_candidate}
use Rattle.member.specs.View.{view}
use Rattle.table.proofs.Place.{stands_live, stands_named}
use Rattle.stabilize_at.proofs.Laws.{better, not_better, looks, is_done_law}
use Rattle.stabilize_at.proofs.from_successor.Goals as goal

pub returns-then-between : goal.returns-then-between
returns-then-between c =
    let head : get_or c.args.m.successors 0 0 ≡ successor (view (get_or c.args.t.now 0 0) c.args.m) = sym (get_or-take (get_or c.args.t.now 0 0) c.args.m.successors 0 0 c.requires.formed_words.r_low) in
    let idle : is_pending (view (get_or c.args.t.now 0 0) c.args.m) ≡ false = ne_eqb _ _ c.requires.fact.0 in
    let alive : live (members_in c.args.t.now) (get_or c.args.m.successors 0 0) ≡ true = stands_live c.requires.formed_words c.requires.fact.1 in
    let found : let a = c.args in view (get_or a.t.now 0 0) c.member_at-s.result ≡ named (members_in a.t.now) (get_or a.m.successors 0 0) = c.member_at-s.ensures ∙ stands_named c.requires.formed_words c.requires.fact.1 in
    let ms = members_in c.args.t.now in
    let r = get_or c.args.t.now 0 0 in
    let v = view r c.args.m in
    let w = view r c.member_at-s.result in
    let t = sym c.between.ensures ∙ c.if-between.true in
    record {
      leaves = c.await_candidate.ensures r ∙ ap (await_candidate w.predecessor) (c.adopt-member.ensures r c.requires.formed_words.r_low c.requires.formed_words.r_high)
          ∙ better (space_of (table_of c.args.t.now)) ms v w _ head found idle alive t;
      replies = looks (space_of (table_of c.args.t.now)) ms v w _ head found idle alive t;
    }

pub returns : goal.returns
returns c =
    let head : get_or c.args.m.successors 0 0 ≡ successor (view (get_or c.args.t.now 0 0) c.args.m) = sym (get_or-take (get_or c.args.t.now 0 0) c.args.m.successors 0 0 c.requires.formed_words.r_low) in
    let idle : is_pending (view (get_or c.args.t.now 0 0) c.args.m) ≡ false = ne_eqb _ _ c.requires.fact.0 in
    let alive : live (members_in c.args.t.now) (get_or c.args.m.successors 0 0) ≡ true = stands_live c.requires.formed_words c.requires.fact.1 in
    let found : let a = c.args in view (get_or a.t.now 0 0) c.member_at-s.result ≡ named (members_in a.t.now) (get_or a.m.successors 0 0) = c.member_at-s.ensures ∙ stands_named c.requires.formed_words c.requires.fact.1 in
    let ms = members_in c.args.t.now in
    let r = get_or c.args.t.now 0 0 in
    let v = view r c.args.m in
    let w = view r c.member_at-s.result in
    let t = sym c.between.ensures ∙ c.if-between.false in
    record {
      leaves = c.adopt-member.ensures r c.requires.formed_words.r_low c.requires.formed_words.r_high ∙ not_better (space_of (table_of c.args.t.now)) ms v w _ head found idle alive t;
      replies = is_done_law (space_of (table_of c.args.t.now)) ms v w _ head found idle alive t;
    }
