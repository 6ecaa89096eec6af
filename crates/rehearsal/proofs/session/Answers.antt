-- `session` meets its contract. Assumes nothing.
use mathlib.Core.Path.{ap}
use Rattle.std.proofs.Common.{rules}
use Rattle.rehearsal.proofs.Whole.{cut_short, whole}
use Rattle.rehearsal.proofs.session.Goals as goal

pub returns-then-out-n : goal.returns-then-out-n
returns-then-out-n c =
    let n = c.counted-n in
    let a = c.args in
    cut_short a.input.now a.t.now a.out.now n.result n.ensures.2 n.ensures.3 c.if-out-n.true

pub returns : goal.returns
returns c =
    let n = c.counted-n in
    let a = c.args in
    let r = c.run in
    let whole = whole a.input.now a.t.now a.out.now n.result n.ensures.2 n.ensures.3 r.new.t c.new-o.result r.new.out c.if-out-n.false (ap (λ b. b.now) c.new-o.ensures.0) c.new-o.ensures.1 r.ensures.0 r.ensures.1 r.ensures.2 in
    search rules
