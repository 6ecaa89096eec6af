-- `records_alike` meets its contract. The invariant: the records left answer as all do. Assumes nothing.
use Rattle.std.proofs.Common.{◌≡◌, ◌*◌, ◌-◌, length}
use Rattle.std.specs.Iterator.Adapters.{zip_first, zip_second}
use Rattle.std.specs.Slice.Iter.{chunks_exact_rest, chunks_exact_size}
use Rattle.model.specs.Lists.{same_by}
use Rattle.model.specs.Table.{members_of}
use Rattle.model.specs.Alike.{alike_member}
use Rattle.alike.proofs.records_alike.Given as goal

abbrev pub invariant-loop-u : goal.invariant-loop-u
invariant-loop-u l =
    let left = l.n - length l.yielded in
    let p = zip_first l.u-iterator in
    let q = zip_second l.u-iterator in record {
      size : (chunks_exact_size p ≡ l.w) × (chunks_exact_size q ≡ l.w);
      many : (length (chunks_exact_rest p) ≡ left * l.w) × (length (chunks_exact_rest q) ≡ left * l.w);
      test : same_by alike_member (members_of l.r left (chunks_exact_rest p)) (members_of l.r left (chunks_exact_rest q)) ≡ same_by alike_member (members_of l.r l.n l.us) (members_of l.r l.n l.vs);
    }
