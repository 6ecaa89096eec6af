-- `records_alike` meets its contract. The invariant: the records left answer as all do. Assumes nothing.
use Rattle.std.proofs.Common.{◌≡◌, ◌∙◌, ◌+◌, ◌-◌, arith, length, length-append, inl, inr}
use Rattle.alike.proofs.Records.{cut, one_pair, none_left}
use Rattle.alike.proofs.records_alike.Goals as goal

pub loop-u-init : goal.loop-u-init
loop-u-init c =
    let a = c.args in
    let z : a.n - 0 ≡ a.n = omega arith in
    let e = rw (← c.into_iter-u-iterator.ensures.into_iter_gives) at c.zip-pairs.ensures.first in
    let f = rw (← c.into_iter-u-iterator.ensures.into_iter_gives) at c.zip-pairs.ensures.second in
    let p = cut a.r c.record_size-w.result a.n a.us.now c.record_size-w.ensures c.requires.1 in
    let q = cut a.r c.record_size-w.result a.n a.vs.now c.record_size-w.ensures c.requires.2 in
    let g = c.chunks_exact.ensures in
    let h = c.chunks_exact-2.ensures in record {
      size = rw (e, f) (g.size, h.size);
      many = rw (e, f, g.rest, h.rest, z) (p.0, q.0);
      test = rw (e, f, g.rest, h.rest, z, p.1, q.1);
    }

pub returns-then-not-record_alike : goal.returns-then-not-record_alike
returns-then-not-record_alike c =
    let k = c.loop-u in
    let s = c.in-Some.ensures.steps in
    let o = one_pair c.args.r c.record_size-w.result _ _ _ _ _ _ _ c.record_size-w.ensures s.0.1.0 s.1.1.0 (s.0.1.1 ∙ k.invariant.size.0) (s.1.1.1 ∙ k.invariant.size.1) k.invariant.many.0 k.invariant.many.1 in
    rw (o.2, ← c.record_alike.ensures, c.if-not-record_alike.true) at k.invariant.test

pub loop-u-preserved : goal.loop-u-preserved
loop-u-preserved c =
    let k = c.loop-u in
    let s = c.in-Some.ensures.steps in
    let o = one_pair c.args.r c.record_size-w.result _ _ _ _ _ _ _ c.record_size-w.ensures s.0.1.0 s.1.1.0 (s.0.1.1 ∙ k.invariant.size.0) (s.1.1.1 ∙ k.invariant.size.1) k.invariant.many.0 k.invariant.many.1 in
    let j : c.args.n - (length k.yielded + 1) ≡ c.args.n - length k.yielded - 1 = omega arith in record {
      size = (s.0.0 ∙ k.invariant.size.0, s.1.0 ∙ k.invariant.size.1);
      many = simp (length-append, j) (o.0, o.1);
      test = simp (length-append, j) (rw (o.2, ← c.record_alike.ensures, c.if-not-record_alike.false) at k.invariant.test);
    }

pub returns : goal.returns
returns c =
    let k = c.loop-u in
    elim c.in-None.ensures.steps [
      | inl x ↦ none_left c.args.r c.record_size-w.result _ _ _ _ c.record_size-w.ensures (rw k.invariant.size.0 at x.1.1.0) k.invariant.many.0 ∙ k.invariant.test
      | inr x ↦ none_left c.args.r c.record_size-w.result _ _ _ _ c.record_size-w.ensures (rw k.invariant.size.1 at x.1.1.0) k.invariant.many.1 ∙ k.invariant.test
    ]
