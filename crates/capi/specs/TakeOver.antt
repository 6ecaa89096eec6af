-- The take-over choice as an answer.
use Rattle.std.specs.Prelude.{ℕ, ◌/◌, ◌%◌, List, [], ◌∷◌, length}
use Rattle.model.specs.Lists.{bit}
use Rattle.model.specs.Table.{word_limit}
use Rattle.model.specs.Answer.{Answer, accepted}
use Rattle.model.specs.TakeOver.{chooses_candidate, take_over}

-- 1 for c's list and 0 for h's, and the length of the part, low word and high word
abbrev pub take_over_answer : ℕ → ℕ → ℕ → List ℕ → List ℕ → Answer
take_over_answer own h c hl cl =
    let n : ℕ = length (take_over own h c hl cl) in
    accepted (bit (chooses_candidate own h c cl) ∷ n % word_limit ∷ n / word_limit ∷ [])
