-- The identifier after another as a wrapping add. Assumes nothing.
use Rattle.std.proofs.Common.{◌≡◌, ℕ, ◌+◌, ◌%◌, ◌^◌, ◌<◌, arith}
use Rattle.std.proofs.lemmas.Bool.Decides.{nat_tests}
use Rattle.model.specs.Identifier.{after}
use Rattle.model.specs.Table.{word_limit}

pub after_wraps : (n : ℕ) → n < word_limit → (n + 1) % 2 ^ 32 ≡ after word_limit n
unfolding after
after_wraps n h = grind (arith, nat_tests)
