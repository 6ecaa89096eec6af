-- What judging a call tells: its number among the causes of the model, or 0, as a `Result`.
use Rattle.std.specs.Prelude.{ℕ, ◌≡◌, Ok, Err}
use Rattle.std.proofs.Common.{Result}
use Rattle.answers.specs.declared.refusal.Refusal.{Refusal}
use Rattle.answers.specs.Refusal.{number_of}

-- the value a where no number declines the call, else the refusal of the number
abbrev pub Judges : {A : Type 0} → ℕ → A → Result A Refusal → Type 0
Judges k a (Ok b) = (k ≡ 0) × (b ≡ a)
Judges k a (Err e) = k ≡ number_of e
