-- `read_fields` meets its contract. The loop's invariant: the records that are left, placed from at on, give the whole. Assumes nothing.
use Rattle.std.proofs.Common.{◌≡◌, ◌+◌, ◌*◌, ◌-◌, sym, ◌∙◌, arith, length, length-append, length-take-le, rules}
use Rattle.model.specs.Table.{record_size}
use Rattle.laws.specs.Bytes.{field_size}
use Rattle.octets.proofs.Placed.{placed_none}
use Rattle.image.proofs.Loops.{one_more_record, still_fit, nothing_left, fields_front}
use Rattle.image.proofs.read_fields.Goals as goal

pub loop-part-init : goal.loop-part-init
loop-part-init c =
    let a = c.args in
    let z : a.n - 0 ≡ a.n = omega arith in
    let g = c.chunks_exact-part-items.ensures in
    let e = rw (← c.into_iter-part-iterator.ensures.into_iter_gives) at g.rest in
    let d = rw (← c.into_iter-part-iterator.ensures.into_iter_gives) at g.size in
    let w = c.member_length-w.ensures in record {
      size = rw w at d;
      many = rw (e, z, w) (length-take-le (a.n * field_size a.r) a.f.now c.requires.1);
      fits = rw z c.requires.2;
      test = rw (e, z, w, fields_front a.r a.n a.f.now c.requires.1);
    }

pub loop-part-preserved : goal.loop-part-preserved
loop-part-preserved c =
    let k = c.loop-part in
    let r = c.args.r in
    let s = c.in-Some.ensures.steps in
    let l = s.1.1 ∙ k.invariant.size in
    let o = one_more_record k.at r _ _ _ _ k.t _ s.1.0 l k.invariant.many (omega (arith, k.invariant.fits)) c.read_field.ensures in
    let f = still_fit (c.args.n - length k.yielded) (field_size r) _ _ _ s.1.0 l k.invariant.many (omega arith) k.at (record_size r) (length k.t) k.invariant.fits in
    let j : c.args.n - (length k.yielded + 1) ≡ c.args.n - length k.yielded - 1 = omega arith in
    let m : length c.read_field.new.t ≡ length k.t = search rules in record {
      size = s.0 ∙ k.invariant.size;
      many = simp (length-append, j) o.0;
      fits = simp (length-append, j) (rw (c.record_size-at.ensures, m) f);
      test = simp (length-append, j) (rw c.record_size-at.ensures (o.1 ∙ k.invariant.test));
    }

pub returns : goal.returns
returns c =
    let k = c.loop-part in
    let z = nothing_left (c.args.n - length k.yielded) _ _ (rw k.invariant.size at c.in-None.ensures.steps.1.0) k.invariant.many in
    sym (placed_none k.at k.t) ∙ (rw z at k.invariant.test)
