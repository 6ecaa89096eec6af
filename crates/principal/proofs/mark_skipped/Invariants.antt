-- `mark_skipped` meets its contract. The loop's invariant: what is marked and what the lists left skip is all that is skipped. Assumes nothing.
use mathlib.Core.Path.{◌≡◌}
use lib.ListN.{length}
use Rattle.principal.proofs.Pairs.{Left}
use Rattle.principal.proofs.mark_skipped.Given as goal

abbrev pub invariant-loop-k : goal.invariant-loop-k
invariant-loop-k l = (length l.reach ≡ 256) × Left l.t l.reach l.k
