-- `far_places` meets its contract. The loop's invariant: the array has where the moves counted lead. Assumes nothing.
use borrow.Author.Rules.{rules}
use Rattle.ring.proofs.Rings.{along_best, along_twice}
use Rattle.ring.proofs.far_places.Goals as goal

pub loop-moves-init : goal.loop-moves-init
loop-moves-init c =
    let t = c.args.t.now in
    (search rules, c.doubled-a.ensures.size, along_twice t c.args.best.now c.doubled-a.result 1 (along_best t c.args.best.now c.requires.best_places) c.doubled-a.ensures)

pub loop-moves-preserved : goal.loop-moves-preserved
loop-moves-preserved c =
    let t = c.args.t.now in
    (search rules, c.doubled-a-in-loop-moves.ensures.size, along_twice t c.loop-moves.a c.doubled-a-in-loop-moves.result c.loop-moves.moves c.loop-moves.invariant.2 c.doubled-a-in-loop-moves.ensures)
