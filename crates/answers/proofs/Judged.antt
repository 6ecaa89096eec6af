-- What a call that is judged and declined answers and leaves.
use Rattle.std.proofs.Common.{ℕ, ◌≡◌, ◌<◌, List, ◌∷◌, zero, suc, refl, arith}
use Rattle.model.specs.Answer.{Answer, declined, answer, afterwards}
use Rattle.answers.specs.Refusal.{number_of, refused, refused_declines}
use Rattle.answers.specs.declared.refusal.Refusal.{Refusal}

-- the refusal is the answer
pub declined_by : {k : ℕ} (e : Refusal) → k ≡ number_of e → (a : Answer) → refused e ≡ answer k a
declined_by e h a = rw h (go (number_of e) (refused_declines e))
  where
    go : (n : ℕ) → 0 < n → declined n ≡ answer n a
    go zero p = absurd (omega arith)
    go (suc n) p = refl

-- and the buffer stays
pub kept_by : {A : Type 0} {k : ℕ} (e : Refusal) → k ≡ number_of e → (new : List A) (old : List A) → old ≡ afterwards k new old
kept_by e h new old = rw h (go (number_of e) (refused_declines e))
  where
    go : (n : ℕ) → 0 < n → old ≡ afterwards n new old
    go zero p = absurd (omega arith)
    go (suc n) p = refl
