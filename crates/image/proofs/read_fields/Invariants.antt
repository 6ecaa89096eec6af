-- `read_fields` meets its contract. The loop's invariant: the records that are left, placed from at on, give the whole. Assumes nothing.
use Rattle.std.proofs.Common.{◌≡◌, ◌+◌, ◌*◌, ◌-◌, ◌≤◌, length}
use Rattle.std.specs.Slice.Iter.{chunks_exact_rest, chunks_exact_size}
use Rattle.model.specs.Image.{field_members}
use Rattle.model.specs.Table.{header_size, record_size, records_of}
use Rattle.laws.specs.Bytes.{field_size}
use Rattle.octets.specs.Placed.{placed}
use Rattle.image.proofs.read_fields.Given as goal

abbrev pub invariant-loop-part : goal.invariant-loop-part
invariant-loop-part l =
    let left = l.n - length l.yielded in
    let p = chunks_exact_rest l.part-iterator in record {
      size : chunks_exact_size l.part-iterator ≡ field_size l.r;
      many : length p ≡ left * field_size l.r;
      fits : l.at + left * record_size l.r ≤ length l.t;
      test : placed l.at (records_of (field_members l.r left p)) l.t ≡ placed header_size (records_of (field_members l.r l.n l.f)) l.initial.t;
    }
