-- `stabilize_at` meets its contract: it puts the stepped record, its step counted, in its place. Assumes nothing.
use mathlib.Core.Path.{◌≡◌, sym, ap, ◌∙◌}
use lib.ListN.{get_or}
use Rattle.model.specs.Table.{Member, space_of, members_in, table_of, ids}
use Rattle.model.specs.Ring.{named}
use Rattle.model.specs.Steps.{stabilize, stabilize_reply, count_step, replaced, with_members}
use Rattle.model.specs.Calls.{written}
use Rattle.member.specs.View.{view}
use Rattle.laws.specs.Lists.{found, live_in}
use Rattle.laws.specs.Stabilize.{same_id}
use Rattle.table.specs.Located.{Stands}
use Rattle.table.proofs.Place.{own_place, stands_named, stands_live}
use Rattle.stabilize_at.proofs.stabilize_at.Goals as goal

pub replace_at-requires : goal.replace_at-requires
replace_at-requires c =
    let who = (get_or (ids (members_in c.args.t.now)) c.args.k 0) in
    let here = (named (members_in c.args.t.now) who) in
    let space_in = (space_of (table_of c.args.t.now)) in
    let stands : Stands c.args.t.now c.args.k who = own_place c.args.t.now c.args.k c.requires.k_bound in
    let read : let ws = c.args.t.now in view (get_or ws 0 0) c.member_at-m.result ≡ here = c.member_at-m.ensures ∙ stands_named c.requires.formed_words stands in
    let stepped : let ws = c.args.t.now in view (get_or ws 0 0) c.take_step-step.result.member ≡ stabilize space_in (members_in ws) here = c.take_step-step.ensures.leaves ∙ ap (stabilize space_in (members_in c.args.t.now)) read in
    let counted : let ws = c.args.t.now in view (get_or ws 0 0) c.count_step-n.result ≡ count_step (stabilize space_in (members_in ws) here) = c.count_step-n.ensures (get_or c.args.t.now 0 0) ∙ ap count_step stepped in
    let ms = members_in c.args.t.now in record {
      formed_words = c.requires.formed_words;
      stands = record {
        within = c.requires.k_bound;
        has_id = sym
            (ap (λ (m : Member). m.id) counted ∙ same_id ms here space_in ∙ (found ms (live_in ms who (stands_live c.requires.formed_words stands))).1);
      };
    }

pub returns : goal.returns
returns c =
    let who = (get_or (ids (members_in c.args.t.now)) c.args.k 0) in
    let here = (named (members_in c.args.t.now) who) in
    let stands : Stands c.args.t.now c.args.k who = own_place c.args.t.now c.args.k c.requires.k_bound in
    let read : let ws = c.args.t.now in view (get_or ws 0 0) c.member_at-m.result ≡ here = c.member_at-m.ensures ∙ stands_named c.requires.formed_words stands in
    let space_in = (space_of (table_of c.args.t.now)) in
    let stepped : let ws = c.args.t.now in view (get_or ws 0 0) c.take_step-step.result.member ≡ stabilize space_in (members_in ws) here = c.take_step-step.ensures.leaves ∙ ap (stabilize space_in (members_in c.args.t.now)) read in
    let counted : let ws = c.args.t.now in view (get_or ws 0 0) c.count_step-n.result ≡ count_step (stabilize space_in (members_in ws) here) = c.count_step-n.ensures (get_or c.args.t.now 0 0) ∙ ap count_step stepped in
    let ws = c.args.t.now in (
      c.take_step-step.ensures.replies ∙ ap (stabilize_reply (members_in ws)) read,
      c.replace_at.ensures ∙ ap (λ (m : Member). written (with_members (replaced m (members_in ws)) (table_of ws)) ws) counted,
    )
