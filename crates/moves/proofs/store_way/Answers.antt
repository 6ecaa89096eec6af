-- `store_way` meets its contract. The loop's invariant: the way left is to be stored, and the first place is if any is. Assumes nothing.
use Prim.Native.Nat.{◌+◌, ◌-◌, ◌<◌}
use mathlib.Core.Path.{◌≡◌}
use native.Mathlib.Omega.{arith}
use borrow.Author.Rules.{rules}
use lib.ListN.{get_or}
use Rattle.model.specs.Table.{members_in}
use Rattle.best_successors.specs.Places.{next_place}
use Rattle.best_successors.proofs.Laws.{best_at}
use Rattle.moves.specs.Ways.{moves_at, no_more, Along}
use Rattle.moves.proofs.Ways.{stored_first, stored_so_far, along}
use Rattle.moves.proofs.store_way.Goals as goal
use Rattle.moves.proofs.store_way.Goals.{In-loop-left}

-- the place that the way stands at
here : (c : In-loop-left) → let ws = c.args.t.now in let l = c.loop-left in (l.y < get_or ws 1 0) × (moves_at ws l.y ≡ no_more (c.args.way.value + l.left) (get_or ws 1 0)) × Along ws c.args.way.value (l.left - 1) (next_place (members_in ws) l.y)
here c = let l = c.loop-left in along c.args.t.now c.args.way.value l.left l.y c.loop-left-test.true l.invariant.1

pub offset_bounds-a-y : goal.offset_bounds-a-y
offset_bounds-a-y c = let h = (here (goal.at.offset_bounds-a-y c).In-loop-left).0 in search rules

pub offset_bounds-best-y : goal.offset_bounds-best-y
offset_bounds-best-y c = let h = (here (goal.at.offset_bounds-best-y c).In-loop-left).0 in search rules

pub bounds-a-y : goal.bounds-a-y
bounds-a-y c = let h = (here (goal.at.bounds-a-y c).In-loop-left).0 in search rules

pub bounds-best-y : goal.bounds-best-y
bounds-best-y c = let h = (here (goal.at.bounds-best-y c).In-loop-left).0 in search rules

pub loop-left-preserved : goal.loop-left-preserved
loop-left-preserved c =
    let l = c.loop-left in
    let ws = c.args.t.now in
    let w = here (goal.at.loop-left-preserved c).In-loop-left in
    let e : c.min.result + 1 ≡ moves_at ws l.y + 1 = omega (arith, c.min.ensures, w.1) in (
      stored_so_far ws l.a l.y _ w.0 l.invariant.0 e,
      rw (best_at ws c.args.best.now c.requires.best_places l.y w.0) w.2,
      λ q. absurd (omega arith),
      λ q. stored_first ws l.a l.y _ w.0 l.invariant.0 e c.args.k l.left _ (omega arith) l.invariant.2 l.invariant.3,
    )
