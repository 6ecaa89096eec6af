-- `insert_at` meets its contract. Assumes nothing.
use Rattle.std.proofs.Common.{◌≡◌, ◌≤◌, arith, rules, get_or, length, length-take, length-drop}
use Rattle.member.specs.View.{view}
use Rattle.table.proofs.Place.{own_header}
use Rattle.records.proofs.Edits.{rank_within, room, gap_of, insert_words}
use Rattle.records.proofs.insert_at.Goals as goal

pub offset-at-requires : goal.offset-at-requires
offset-at-requires c =
    (c.requires.formed_words.r_high, omega (arith, rank_within c.args.t.now c.args.m.id c.args.k c.requires.id_value.1, c.requires.formed_words.few))

pub slice_bounds-put_in-count : goal.slice_bounds-put_in-count
slice_bounds-put_in-count c =
    let b = room c.args.t.now c.offset-at.result c.offset-end.result c.args.k (rank_within c.args.t.now c.args.m.id c.args.k c.requires.id_value.1) c.requires.t_bound.1 c.offset-at.ensures.0 c.offset-end.ensures.0 in
    omega arith

pub slice_bounds-put_in-start : goal.slice_bounds-put_in-start
slice_bounds-put_in-start c =
    let b = room c.args.t.now c.offset-at.result c.offset-end.result c.args.k (rank_within c.args.t.now c.args.m.id c.args.k c.requires.id_value.1) c.requires.t_bound.1 c.offset-at.ensures.0 c.offset-end.ensures.0 in
    let h : c.offset-at.result ≤ length c.args.t.now = omega arith in
    h

pub overflow_sub-end : goal.overflow_sub-end
overflow_sub-end c =
    let b = room c.args.t.now c.offset-at.result c.offset-end.result c.args.k (rank_within c.args.t.now c.args.m.id c.args.k c.requires.id_value.1) c.requires.t_bound.1 c.offset-at.ensures.0 c.offset-end.ensures.0 in
    omega arith

pub put_in-requires : goal.put_in-requires
put_in-requires c =
    let b = room c.args.t.now c.offset-at.result c.offset-end.result c.args.k (rank_within c.args.t.now c.args.m.id c.args.k c.requires.id_value.1) c.requires.t_bound.1 c.offset-at.ensures.0 c.offset-end.ensures.0 in
    (search rules, simp (length-take, length-drop) (omega arith))

pub returns : goal.returns
returns c =
    let ws = c.args.t.now in
    let within = rank_within ws c.args.m.id c.args.k c.requires.id_value.1 in
    let b = room ws c.offset-at.result c.offset-end.result c.args.k within c.requires.t_bound.1 c.offset-at.ensures.0 c.offset-end.ensures.0 in
    let eight : length c.args.m.successors ≡ 8 = search rules in
    insert_words ws (own_header ws c.requires.formed_words) (view (get_or ws 0 0) c.args.m) c.offset-at.result c.offset-end.result c.args.k c.put_in.new.tail
    (simp length-take (omega arith)) (gap_of ws c.args.m.id c.args.k c.requires.id_value.0 c.requires.id_value.1) within
    c.offset-at.ensures.0 c.offset-end.ensures.0 b.1 c.put_in.ensures
