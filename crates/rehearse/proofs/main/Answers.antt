-- `main` meets its contract: what the session counts stands in the output. Assumes nothing.
use Rattle.std.proofs.Common.{sym, ℕ}
use Rattle.std.proofs.Math.ListN.{length-replicate}
use Rattle.rehearse.proofs.main.Goals as goal

pub slice_bounds-session-end-3 : goal.slice_bounds-session-end-3
slice_bounds-session-end-3 c = sym (length-replicate {A = ℕ} 655370 0)

pub slice_bounds-out-end : goal.slice_bounds-out-end
slice_bounds-out-end c = c.in-Ok.ensures.3.0

pub slice_bounds-write_all-end : goal.slice_bounds-write_all-end
slice_bounds-write_all-end c = c.in-Ok.ensures.3.1
