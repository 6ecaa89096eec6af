-- `mark_list` meets its contract. The loop's invariant: what is marked, and what the rest of the list skips, is what was marked and what the
-- whole list skips. Assumes nothing.
use mathlib.Core.Path.{sym, ◌∙◌}
use native.Mathlib.Numerals.{add-one}
use native.Mathlib.Omega.{arith}
use borrow.Author.Rules.{rules}
use lib.ListN.{get_or}
use Rattle.model.specs.Table.{members_in, ids}
use Rattle.table.proofs.Members.{ids_count, id_at_law, list_at, record_fits}
use Rattle.table.proofs.Place.{rank_past}
use Rattle.principal.proofs.Pairs.{pair_marked, list_over}
use Rattle.principal.proofs.mark_list.Goals as goal

pub slice_bounds-b-items-end : goal.slice_bounds-b-items-end
slice_bounds-b-items-end c = let fits = record_fits c.args.t.now c.args.k c.offset-at.result c.requires.k_bound.0 c.offset-at.ensures.0 c.requires.formed_words in omega arith

pub bounds-t-at : goal.bounds-t-at
bounds-t-at c = let fits = record_fits c.args.t.now c.args.k c.offset-at.result c.requires.k_bound.0 c.offset-at.ensures.0 c.requires.formed_words in omega arith

pub loop-b-init : goal.loop-b-init
loop-b-init c =
    let ws = c.args.t.now in
    let i = id_at_law ws c.args.k c.offset-at.result c.requires.k_bound.0 c.offset-at.ensures.0 in
    let l = list_at ws c.args.k c.offset-at.result c.requires.k_bound.0 c.offset-at.ensures.0 in
    (c.requires.k_bound.1, rw (i, add-one c.args.k) (rank_past (ids (members_in ws)) c.args.k c.requires.formed_words.rises (omega (arith, ids_count ws))), λ j h. rw (i, l))

pub loop-b-preserved : goal.loop-b-preserved
loop-b-preserved c =
    let l = c.loop-b in
    let ws = c.args.t.now in
    (c.mark_pair.ensures.size ∙ l.invariant.0, c.rank_past-lo.ensures, λ j h. pair_marked ws _ _ l.q _ l.b-index (search rules) c.mark_pair.ensures j h ∙ l.invariant.2 j h)

pub returns : goal.returns
returns c =
    let l = c.loop-b in
    record { size = l.invariant.0 ∙ sym c.requires.k_bound.1; at = λ j h. sym (list_over l.reach (get_or (ids (members_in c.args.t.now)) j 0) l.q _ l.b-index j (search rules)) ∙ l.invariant.2 j h }
