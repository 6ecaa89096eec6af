-- `fields_ok` meets its contract. The loop's invariant: the test of the fields that are left, with lo, is that of all. Assumes nothing.
use Rattle.std.proofs.Common.{◌≡◌, ◌∙◌, ◌+◌, ◌*◌, ◌-◌, length, drop, arith, length-append}
use Rattle.laws.specs.Bytes.{field_size}
use Rattle.image_test.proofs.Tests.{one_field, last_field}
use Rattle.image_test.proofs.fields_ok.Goals as goal

pub returns-then-not-field_ok : goal.returns-then-not-field_ok
returns-then-not-field_ok c =
    let k = c.loop-part in
    let s = c.in-Some.ensures.steps in
    let o = one_field c.args.r k.lo _ _ _ (drop (c.args.n * field_size c.args.r) c.args.f.now) s.1.0 (s.1.1 ∙ k.invariant.size) _ k.invariant.many in
    rw (o.1, ← c.field_ok.ensures, c.if-not-field_ok.true) at k.invariant.test

pub loop-part-preserved : goal.loop-part-preserved
loop-part-preserved c =
    let k = c.loop-part in
    let s = c.in-Some.ensures.steps in
    let o = one_field c.args.r k.lo _ _ _ (drop (c.args.n * field_size c.args.r) c.args.f.now) s.1.0 (s.1.1 ∙ k.invariant.size) _ k.invariant.many in
    let j : c.args.n - (length k.yielded + 1) ≡ c.args.n - length k.yielded - 1 = omega arith in record {
      size = s.0 ∙ k.invariant.size;
      many = simp (length-append, j) o.0;
      test = simp (length-append, j) (rw (c.id_of.ensures) (rw (o.1, ← c.field_ok.ensures, c.if-not-field_ok.false) at k.invariant.test));
    }

pub returns : goal.returns
returns c =
    let k = c.loop-part in
    let back : c.split_at.result.1.now ≡ drop (c.args.n * field_size c.args.r) c.args.f.now = rw c.member_length-w.ensures at c.split_at.ensures.back in
    c.head_is.ensures ∙ rw back (last_field c.args.r k.lo _ _ _ (rw k.invariant.size at c.in-None.ensures.steps.1.0) k.invariant.many) ∙ k.invariant.test
