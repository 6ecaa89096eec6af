-- `close_gap` meets its contract. Assumes nothing.
use Rattle.std.proofs.Common.{◌≡◌, ◌-◌, replicate, arith, length, take, drop, length-take, length-drop}
use Rattle.words.proofs.Gaps.{gap_closed}
use Rattle.words.proofs.close_gap.Goals as goal

pub returns : goal.returns
returns c =
    let a = c.args in
    let l = c.copy_within.new.self in
    let n : length (take (a.used - (a.used - a.gap)) (drop (a.used - a.gap) l)) ≡ a.gap = simp (length-take, length-drop) (omega arith) in
    let z : c.fill.new.self ≡ replicate a.gap 0 = rw n at (c.fill.ensures.after (λ y e. e)) in
    gap_closed a.tail.now l c.fill.new.self a.used a.gap _ c.requires.0 c.requires.1 c.copy_within.ensures.after z (omega arith)
