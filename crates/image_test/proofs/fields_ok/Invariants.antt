-- `fields_ok` meets its contract. The loop's invariant: the test of the fields that are left, with lo, is that of all. Assumes nothing.
use Rattle.std.proofs.Common.{◌≡◌, ◌*◌, ◌-◌, ◌++◌, length, drop}
use Rattle.std.specs.Slice.Iter.{chunks_exact_rest, chunks_exact_size}
use Rattle.laws.specs.Bytes.{field_size}
use Rattle.image_test.specs.Tests.{fields_right}
use Rattle.image_test.proofs.fields_ok.Given as goal

abbrev pub invariant-loop-part : goal.invariant-loop-part
invariant-loop-part l = let left = l.n - length l.yielded in record {
  size : chunks_exact_size l.part-iterator ≡ field_size l.r;
  many : length (chunks_exact_rest l.part-iterator) ≡ left * field_size l.r;
  test : fields_right l.r l.lo left (chunks_exact_rest l.part-iterator ++ drop (l.n * field_size l.r) l.f) ≡ fields_right l.r 0 l.n l.f;
}
