-- `next_open` meets its contract. The invariant: what was judged and the least distance so far, and the windows that are left, decide as all do. Assumes nothing.
use Rattle.std.proofs.Common.{◌≡◌, ◌&&◌, drop}
use Rattle.model.specs.Lists.{every}
use Rattle.model.specs.Windows.{week, windows_in}
use Rattle.model.specs.Refusals.{right_window}
use Rattle.windows.proofs.Words.{said}
use Rattle.hours.proofs.Least.{least}
use Rattle.hours.proofs.next_open.Given as goal

abbrev pub invariant-loop-start : goal.invariant-loop-start
invariant-loop-start l = record {
  judged : (l.right && every right_window (said (drop l.start-index l.pairs))) ≡ every right_window (windows_in l.ws);
  told : least l.least (said (drop l.start-index l.pairs)) l.m ≡ least week (windows_in l.ws) l.m;
}
