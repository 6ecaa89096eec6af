-- `write_table` meets its contract. The invariants: the header and the first i records stand in front, and the words after the table are the old
-- ones; in the second loop, they stand over the words that the first has left. Assumes nothing.
use Rattle.std.proofs.Common.{◌≡◌, drop}
use Rattle.model.specs.Lists.{overlay}
use Rattle.model.specs.Table.{size}
use Rattle.model.specs.New.{new_table}
use Rattle.new_table.proofs.Written.{begun}
use Rattle.new_table.proofs.write_table.Given as goal

abbrev pub invariant-loop-i : goal.invariant-loop-i
invariant-loop-i l = record {
  front : l.t ≡ overlay (begun l.r l.xs l.i) l.t;
  after : drop (size (new_table l.r l.xs)) l.t ≡ drop (size (new_table l.r l.xs)) l.initial.t;
}

abbrev pub invariant-loop-i-2 : goal.invariant-loop-i-2
invariant-loop-i-2 l = l.t ≡ overlay (begun l.r l.xs l.i) l.initial.t
