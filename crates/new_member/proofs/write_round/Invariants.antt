-- `write_round` meets its contract. The invariant: the entries written, and the next ups from place j on, are the list. Assumes nothing.
use Rattle.std.proofs.Common.{◌≡◌, ◌-◌, ◌<◌, ◌++◌, length, get_or, take}
use Rattle.model.specs.Ring.{next_ups}
use Rattle.new_member.proofs.write_round.Given as goal

abbrev pub invariant-loop-entry : goal.invariant-loop-entry
invariant-loop-entry l = record {
  inside : l.j < length l.xs;
  listed : take l.entry-index l.entry-items ++ next_ups (l.r - l.entry-index) l.xs (get_or l.xs l.j 0) ≡ next_ups l.r l.xs (get_or l.xs l.i 0);
}
