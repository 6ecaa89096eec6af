-- `way_from` meets its contract. The loop's invariant: so many moves lead to a place whose moves are not known. Assumes nothing.
use Prim.Native.Nat.{◌+◌}
use native.Mathlib.Omega.{arith}
use borrow.Author.Rules.{rules}
use lib.ListN.{get_or}
use Rattle.best_successors.proofs.Laws.{best_at}
use Rattle.moves.proofs.Ways.{Onward, leads_stuck, leads_on, leads_known, leads_never}
use Rattle.moves.proofs.way_from.Goals as goal
use Rattle.moves.proofs.way_from.Goals.{In-loop-c}

onward : (c : In-loop-c) → Onward c.args.t.now c.args.a.now c.args.k c.loop-c.c c.loop-c.y (get_or c.args.best.now c.loop-c.y 0)
onward c =
    let l = c.loop-c in
    let p = c.requires in
    record {
      formed = p.formed_words;
      so_far = p.all_so_far;
      within = l.invariant.0;
      not_known = l.invariant.1;
      next = best_at c.args.t.now c.args.best.now p.best_places l.y l.invariant.0;
      leads = l.invariant.2;
    }

pub returns-then-n-y : goal.returns-then-n-y
returns-then-n-y c = leads_stuck c.args.t.now (onward (goal.at.returns-then-n-y c).In-loop-c) c.if-n-y.true (omega arith)

pub returns-then-v-gt0 : goal.returns-then-v-gt0
returns-then-v-gt0 c =
    leads_known c.args.t.now c.args.k (c.loop-c.c + 1) _ (leads_on c.args.t.now (onward (goal.at.returns-then-v-gt0 c).In-loop-c) c.if-n-y.false) c.args.a.now c.requires.all_so_far c.if-n-y.false c.if-v-gt0.true (omega arith) (omega arith)

pub loop-c-preserved : goal.loop-c-preserved
loop-c-preserved c = (search rules, search rules, leads_on c.args.t.now (onward (goal.at.loop-c-preserved c).In-loop-c) c.if-n-y.false)

pub returns : goal.returns
returns c = let l = c.loop-c in leads_never c.args.t.now c.args.k l.c l.y l.invariant.2 c.requires.k_bound.0 (omega arith)
