-- `is_open` meets its contract. The invariant: what was judged and found so far, and the windows that are left, decide as all do. Assumes nothing.
use Rattle.std.proofs.Common.{◌≡◌, ◌&&◌, ◌||◌, drop}
use Rattle.model.specs.Lists.{every}
use Rattle.model.specs.Windows.{windows_in, is_open}
use Rattle.model.specs.Refusals.{right_window}
use Rattle.windows.proofs.Words.{said}
use Rattle.hours.proofs.is_open.Given as goal

abbrev pub invariant-loop-start : goal.invariant-loop-start
invariant-loop-start l = record {
  judged : (l.right && every right_window (said (drop l.start-index l.pairs))) ≡ every right_window (windows_in l.ws);
  told : (l.found || is_open (said (drop l.start-index l.pairs)) l.m) ≡ is_open (windows_in l.ws) l.m;
}
