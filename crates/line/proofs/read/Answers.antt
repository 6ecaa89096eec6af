-- `read` meets its contract. Assumes nothing.
use Rattle.std.proofs.Common.{◌≡◌, ◌∷◌, ◌<◌, drop, length, get_or, sym, ◌∙◌, rules, tests}
use Rattle.std.proofs.lemmas.List.{length_push}
use Rattle.script.specs.Lines.{parts}
use Rattle.line.proofs.Splits.{parted, part_next, part_last}
use Rattle.line.proofs.Parts.{Kept, one_more, no_word, no_number, asked, misasked}
use Rattle.line.proofs.read.Goals.{In_ok-next, In-Some, In-None}
use Rattle.line.proofs.read.Goals as goal

-- the first part, and those after it
first : (c : In_ok-next) → parts c.args.l.now ≡ c.in_ok-next.field-0.now ∷ drop 1 (parts c.args.l.now)
first c =
    let e = c.split-parts.ensures in
    (parted _ _ c.args.l.now _ _ _ _ c.next.ensures.steps c.in_ok-next.was e.rest e.done e.closure (λ x b q k. search (rules, tests))).first

-- the loop's next part
next : (c : In-Some) → (length c.loop-p.yielded < length (drop 1 (parts c.args.l.now))) × (c.in-Some.p.now ≡ get_or (drop 1 (parts c.args.l.now)) (length c.loop-p.yielded) c.in-Some.p.now)
next c =
    let e = c.split-parts.ensures in
    let y = parted _ _ c.args.l.now _ _ _ _ c.next.ensures.steps c.in_ok-next.was e.rest e.done e.closure (λ x b q k. search (rules, tests)) in
    part_next y _ _ _ c.loop-p.yielded _ c.into_iter-p-iterator.ensures.into_iter_gives c.loop-p.yielded_by c.next-in-loop-p.ensures.steps c.in-Some.p c.in-Some.is

-- after the loop
last : (c : In-None) → Kept (drop 1 (parts c.args.l.now)) (length (drop 1 (parts c.args.l.now))) c.loop-p.n c.loop-p.xs
last c =
    let e = c.split-parts.ensures in
    let y = parted _ _ c.args.l.now _ _ _ _ c.next.ensures.steps c.in_ok-next.was e.rest e.done e.closure (λ x b q k. search (rules, tests)) in
    let t = part_last y _ _ _ c.loop-p.yielded _ c.into_iter-p-iterator.ensures.into_iter_gives c.loop-p.yielded_by c.next-in-loop-p.ensures.steps c.in-None.is in
    rw t at c.loop-p.invariant

pub returns-in_err-w : goal.returns-in_err-w
returns-in_err-w c =
    rw c.from_residual-in_err-w.ensures (no_word c.args.l.now _ (first (goal.at.returns-in_err-w c).In_ok-next) (sym c.in_err-w.was ∙ c.word.ensures), tt)

pub returns-in_err-v : goal.returns-in_err-v
returns-in_err-v c =
    let a = goal.at.returns-in_err-v c in
    rw c.from_residual-in_err-v.ensures (no_number c.args.l.now _ (first a.In_ok-next) _ c.in-Some.p.now (next a.In-Some) (sym c.in_err-v.was ∙ c.number_in.ensures), tt)

pub loop-p-preserved : goal.loop-p-preserved
loop-p-preserved c =
    let k = c.keep-n in
    let t = next (goal.at.loop-p-preserved c).In-Some in
    rw length_push (one_more _ _ _ k.result c.in_ok-v.v _ k.new.xs c.in-Some.p.now c.loop-p.invariant t (sym c.in_ok-v.was ∙ c.number_in.ensures) k.ensures.0 k.auto.xs k.ensures.1)

pub returns-then-takes : goal.returns-then-takes
returns-then-takes c =
    let a = goal.at.returns-then-takes c in
    (asked c.args.l.now _ (first a.In_ok-next) c.in_ok-w.w c.loop-p.n c.loop-p.xs (sym c.in_ok-w.was ∙ c.word.ensures) (last a.In-None) (sym c.takes.ensures ∙ c.if-takes.true), c.loop-p.invariant.within)

pub returns-else-takes : goal.returns-else-takes
returns-else-takes c =
    let a = goal.at.returns-else-takes c in
    (misasked c.args.l.now _ (first a.In_ok-next) c.in_ok-w.w c.loop-p.n c.loop-p.xs (sym c.in_ok-w.was ∙ c.word.ensures) (last a.In-None) (sym c.takes.ensures ∙ c.if-takes.false), tt)
