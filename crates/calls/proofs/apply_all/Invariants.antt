-- After i iterations the table is the slice after the first i calls, and the numbers of those calls are words. Assumes nothing.
use Rattle.std.proofs.Common.{ℕ, ◌≡◌, ◌<◌}
use Rattle.calls.proofs.Ran.{ran, Words, call_at}
use Rattle.calls.proofs.apply_all.Given as goal

abbrev pub invariant-loop-c : goal.invariant-loop-c
invariant-loop-c l = record { table : l.t ≡ ran l.cs l.fn.t l.c-index; numbers : (k : ℕ) → k < l.c-index → Words (call_at l.cs k) }
