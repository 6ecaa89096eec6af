-- `write_fields` meets its contract. The loop's invariant: the fields that are left, placed from at on, give the whole. Assumes nothing.
use Rattle.std.proofs.Common.{◌≡◌, ◌+◌, ◌*◌, ◌-◌, ◌≤◌, length}
use Rattle.model.specs.Image.{member_fields}
use Rattle.model.specs.Table.{members_of}
use Rattle.laws.specs.Bytes.{field_size}
use Rattle.octets.specs.Placed.{placed}
use Rattle.fields.specs.Fields.{first_size}
use Rattle.image.proofs.write_fields.Given as goal

abbrev pub invariant-loop : goal.invariant-loop
invariant-loop l =
    let rest = l.n - l.counter in record {
      many : length l.left ≡ rest * l.w;
      place : l.at + rest * field_size l.r ≡ first_size + l.n * field_size l.r;
      fits : l.at + rest * field_size l.r ≤ length l.out;
      test : placed l.at (member_fields (members_of l.r rest l.left)) l.out ≡ placed first_size (member_fields (members_of l.r l.n l.ws)) l.initial.out;
    }
