-- `walk` meets its contract. Assumes nothing.
use Prim.Native.Nat.{ℕ, ◌<◌}
use mathlib.Core.Path.{◌≡◌, refl, sym, ◌∙◌}
use mathlib.Core.List.{List}
use native.Mathlib.Omega.{arith}
use borrow.Author.Rules.{rules}
use borrow.Author.Tests.{eq-eqb, ne_eqb}
use lib.Dec.{eqb}
use lib.ListN.{get_or}
use Rattle.std.proofs.Common.{Some, None}
use Rattle.model.specs.Table.{members_in, ids}
use Rattle.model.specs.Ring.{nobody, passed_by}
use Rattle.laws.specs.Lists.{true_or}
use Rattle.table.specs.FormedWords.{FormedWords}
use Rattle.best_successors.specs.Places.{next_place, at_place}
use Rattle.best_successors.proofs.Laws.{some_at, none_at}
use Rattle.lookup.proofs.Laws.{WalkStep, walk_start, walk_end, walk_stuck, walk_owned, walk_on}
use Rattle.lookup.proofs.walk.Goals as goal
use Rattle.lookup.proofs.walk.Goals.{then-k-owner-via-then-k-owner, then-k-owner-via-else-k-owner+then-between}

-- a move of the walk, from place `at` of the member q
module _ (ws : List ℕ) (at q p moves : ℕ) (f : FormedWords ws) (stands : at < get_or ws 1 0) (id : q ≡ get_or (ids (members_in ws)) at 0)
    (passed : p ≡ passed_by (members_in ws) (get_or (members_in ws) at nobody)) (going : moves < get_or ws 1 0) where
  move_to : (next : ℕ) → next ≡ next_place (members_in ws) at → WalkStep ws at next q p moves
  move_to next e = record { formed = f; stands = stands; id = id; next_place_law = e; behind = passed; going = going }

pub loop-moves-init : goal.loop-moves-init
loop-moves-init c =
    let a = c.args in record {
      within = c.requires.start_bound;
      id = c.id_at-at.ensures;
      few = omega arith;
      same = rw c.id_at-at.ensures (walk_start a.t.now (get_or (ids (members_in a.t.now)) a.start 0) a.k);
    }

pub returns-in_default : goal.returns-in_default
returns-in_default c =
    let l = c.loop-moves in
    let m = move_to c.args.t.now l.place l.at _ l.moves c.requires.formed_words l.invariant.within l.invariant.id c.best_of-best.ensures.1 c.loop-moves-test.true _ refl in
    walk_stuck m c.args.k l.passed (none_at (sym c.in_default.is ∙ c.best_of-best.ensures.0)) ∙ l.invariant.same

pub returns-then-k-owner : goal.returns-then-k-owner
returns-then-k-owner c =
    let l = c.loop-moves in
    let s = some_at (sym c.in-Some.is ∙ c.best_of-best.ensures.0) in
    let m = move_to c.args.t.now l.place l.at _ l.moves c.requires.formed_words l.invariant.within l.invariant.id c.best_of-best.ensures.1 c.loop-moves-test.true _ s.0 in
    let within : c.in-Some.next < get_or c.args.t.now 1 0 = omega (arith, s.0, s.1) in
    elim c.then-k-owner.branch [
      | then-k-owner-via-then-k-owner w ↦ walk_owned m c.args.k l.passed within c.id_at-owner.ensures (rw (eq-eqb c.args.k c.id_at-owner.result w.if-k-owner.true)) ∙ l.invariant.same
      | then-k-owner-via-else-k-owner+then-between w ↦
          walk_owned m c.args.k l.passed within c.id_at-owner.ensures (true_or (eqb c.args.k c.id_at-owner.result) (sym w.between.ensures ∙ w.if-between.true)) ∙ l.invariant.same
    ]

pub loop-moves-preserved : goal.loop-moves-preserved
loop-moves-preserved c =
    let l = c.loop-moves in
    let s = some_at (sym c.in-Some.is ∙ c.best_of-best.ensures.0) in
    let m = move_to c.args.t.now l.place l.at _ l.moves c.requires.formed_words l.invariant.within l.invariant.id c.best_of-best.ensures.1 c.loop-moves-test.true _ s.0 in
    let within : c.in-Some.next < get_or c.args.t.now 1 0 = omega (arith, s.0, s.1) in
    let on = walk_on m c.args.k l.passed within c.id_at-owner.ensures (rw (ne_eqb c.args.k c.id_at-owner.result c.if-k-owner.false, ← c.between.ensures, c.if-between.false)) in
    record { within = within; id = c.id_at-owner.ensures; few = omega arith; same = on ∙ l.invariant.same }

pub returns : goal.returns
returns c = let l = c.loop-moves in walk_end c.args.t.now c.args.k l.at l.moves l.passed c.loop-moves-test.false ∙ l.invariant.same
