-- Any move on numbers made again and again.
use Rattle.std.specs.Prelude.{◌≡◌, refl, ℕ, zero, suc, ◌+◌}
use Rattle.std.proofs.Common.{ap, ◌∙◌, arith}

-- where k moves f lead from x
abbrev pub iterate : (ℕ → ℕ) → ℕ → ℕ → ℕ
iterate f zero x = x
iterate f (suc k) x = iterate f k (f x)

pub iterate_move : (f : ℕ → ℕ) (k x : ℕ) → iterate f k (f x) ≡ f (iterate f k x)
iterate_move f zero x = refl
iterate_move f (suc k) x = iterate_move f k (f x)

-- j moves, and then k more
pub iterate_add : (f : ℕ → ℕ) (j k x : ℕ) → iterate f (j + k) x ≡ iterate f k (iterate f j x)
iterate_add f zero k x = let q : 0 + k ≡ k = omega arith in ap (λ (n : ℕ). iterate f n x) q
iterate_add f (suc j) k x = let q : suc j + k ≡ suc (j + k) = omega arith in ap (λ (n : ℕ). iterate f n x) q ∙ iterate_add f j k (f x)
