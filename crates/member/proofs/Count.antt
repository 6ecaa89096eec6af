-- The step count: it rises by one, and stays at the largest word. Assumes nothing.
use Rattle.std.proofs.Common.{◌≡◌, ℕ, ◌+◌, ◌≤◌, arith}
use Rattle.std.proofs.lemmas.Bool.Decides.{nat_tests}
use Prim.Native.Nat.{min}
use Rattle.model.specs.Steps.{next_step}

pub saturates : (s : ℕ) → s ≤ 4294967295 → min (s + 1) 4294967295 ≡ next_step s
unfolding next_step
saturates s h = grind (arith, nat_tests)
