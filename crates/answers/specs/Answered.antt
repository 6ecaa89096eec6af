-- The answer of a call: a reply's values, accepted, or what a refusal is. No two answers of a kind have the same number and values.
use Rattle.std.specs.Prelude.{ℕ, ◌<◌, List, length, Ok, Err}
use Rattle.std.proofs.Common.{ap, arith, Result}
use Rattle.model.specs.Answer.{Answer, accepted, declined}
use Rattle.answers.specs.ReadBack.{OneToOne}

-- refusals have numbers above 0
abbrev pub Declines : {E : Type 0} → (E → Answer) → Type 0
Declines {E} refused = (e : E) → 0 < (refused e).number

module _ {A : Type 0} {E : Type 0} where
  abbrev pub answered : (A → List ℕ) → (E → Answer) → Result A E → Answer
  answered values refused (Ok a) = accepted (values a)
  answered values refused (Err e) = refused e

  pub answered_one_to_one : {values : A → List ℕ} {refused : E → Answer} → OneToOne values → OneToOne refused → Declines refused → OneToOne (answered values refused)
  answered_one_to_one v r d (Ok a) (Ok b) e = ap Ok (v a b (ap (λ (x : Answer). x.values) e))
  answered_one_to_one v r d (Ok a) (Err f) e = let n = ap (λ (x : Answer). x.number) e in let p = d f in absurd (omega arith)
  answered_one_to_one v r d (Err f) (Ok b) e = let n = ap (λ (x : Answer). x.number) e in let p = d f in absurd (omega arith)
  answered_one_to_one v r d (Err f) (Err g) e = ap Err (r f g e)

-- so where any number declines, and each reply has a value
module _ {A : Type 0} where
  pub numbered_one_to_one : {values : A → List ℕ} → OneToOne values → ((a : A) → 0 < length (values a)) → OneToOne (answered values declined)
  numbered_one_to_one v s (Ok a) (Ok b) e = ap Ok (v a b (ap (λ (x : Answer). x.values) e))
  numbered_one_to_one v s (Ok a) (Err k) e = let n = ap (λ (x : Answer). length x.values) e in let p = s a in absurd (omega arith)
  numbered_one_to_one v s (Err k) (Ok b) e = let n = ap (λ (x : Answer). length x.values) e in let p = s b in absurd (omega arith)
  numbered_one_to_one v s (Err j) (Err k) e = ap Err (ap (λ (x : Answer). x.number) e)
