-- `names_front` meets its contract. The invariant: what is left of the list answers, against what is left of the records, as the whole list does. Assumes nothing.
use Prim.Native.Nat.{◌*◌, ◌≤◌}
use mathlib.Core.Path.{◌≡◌}
use lib.ListN.{length}
use Rattle.std.specs.Iterator.Adapters.{zip_first, zip_second}
use Rattle.std.specs.Slice.Iter.{iter_rest, chunks_exact_rest, chunks_exact_size}
use Rattle.model.specs.Lists.{same}
use Rattle.model.specs.Table.{record_size, members_of, ids}
use Rattle.ideal.proofs.names_front.Given as goal

abbrev pub invariant-loop-x : goal.invariant-loop-x
invariant-loop-x l =
    let p = iter_rest (zip_first l.x-iterator) in
    let q = chunks_exact_rest (zip_second l.x-iterator) in
    (chunks_exact_size (zip_second l.x-iterator) ≡ record_size l.r) × (length p * record_size l.r ≤ length q) × (same p (ids (members_of l.r (length p) q)) ≡ same l.l (ids (members_of l.r (length l.l) l.s)))
