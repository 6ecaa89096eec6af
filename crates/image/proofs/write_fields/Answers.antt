-- `write_fields` meets its contract. The loop's invariant: the fields that are left, placed from at on, give the whole. Assumes nothing.
use Rattle.std.proofs.Common.{◌≡◌, refl, ◌+◌, ◌*◌, ◌-◌, ◌++◌, sym, arith, ◌∙◌, length, length-take-le, rules}
use Rattle.std.proofs.lemmas.List.{take-append-drop}
use Rattle.model.specs.Table.{record_size}
use Rattle.laws.specs.Bytes.{field_size}
use Rattle.laws.specs.Parts.{one_of}
use Rattle.image.proofs.Loops.{front, one_more_field, still_fit}
use Rattle.image.proofs.write_fields.Goals as goal

pub loop-init : goal.loop-init
loop-init c =
    let a = c.args in
    let z : a.n - 0 ≡ a.n = omega arith in
    let w = c.record_size-w.ensures in record {
      many = rw (z, w) (length-take-le (a.n * record_size a.r) a.ws.now c.requires.1);
      place = rw z refl;
      fits = rw z c.requires.2;
      test = rw (z, w, front a.r a.n a.ws.now c.requires.1);
    }

pub loop-preserved : goal.loop-preserved
loop-preserved c =
    let k = c.loop in
    let r = c.args.r in
    let w = c.record_size-w.ensures in
    let s = c.split_at.ensures in
    let left = c.args.n - k.counter in
    let b : c.field_size-at.result ≡ field_size r = c.field_size-at.ensures r w in
    let e : k.left.now ≡ c.split_at.result.0.now ++ c.split_at.result.1.now = rw (s.front, s.back) (sym (take-append-drop c.record_size-w.result k.left.now)) in
    let o = one_more_field k.at r left c.record_size-w.result _ _ _ k.out _ w e s.front_len k.invariant.many (omega (arith, k.invariant.fits)) c.write_field.ensures in
    let f = still_fit left c.record_size-w.result _ _ _ e s.front_len k.invariant.many (omega arith) k.at (field_size r) (length k.out) k.invariant.fits in
    let j : c.args.n - (k.counter + 1) ≡ c.args.n - k.counter - 1 = omega arith in
    let one = one_of left (field_size r) (omega arith) in
    let m : length c.write_field.new.out ≡ length k.out = search rules in record {
      many = rw j o.0;
      place = rw (j, b) (omega (arith, one, k.invariant.place));
      fits = rw j (rw (b, m) f);
      test = rw (j, b) (o.1 ∙ k.invariant.test);
    }

pub overflow_add-at : goal.overflow_add-at
overflow_add-at c =
    let k = c.loop in
    let sized : c.field_size-at.result ≡ field_size c.args.r = c.field_size-at.ensures c.args.r c.record_size-w.ensures in
    let one = one_of (c.args.n - k.counter) (field_size c.args.r) (omega arith) in
    omega (arith, sized, one, k.invariant.fits)
