-- What a call answers, and what it leaves in a buffer: accepted, or declined by a number.
use Rattle.std.specs.Prelude.{ℕ, zero, suc, Bool, List, [], ◌∷◌, if◌then◌else◌}

-- an answer: 0 and the reply's values, in the documents' order; or the number that declines the call, and 8's member
pub record Answer : Type 0 where
  pub number : ℕ
  pub values : List ℕ

-- the call is accepted
abbrev pub accepted : List ℕ → Answer
accepted vs = record { number = 0; values = vs }

-- the call is declined
abbrev pub declined : ℕ → Answer
declined k = record { number = k; values = [] }

-- a cause for which a call is declined: its number, and whether it applies
pub record Cause : Type 0 where
  pub number : ℕ
  pub applies : Bool

infix 6 ◌when◌
-- a row of document 01's table of causes, and of those that document 02 adds
abbrev pub ◌when◌ : ℕ → Bool → Cause
n when b = record { number = n; applies = b }

-- the number of the first cause that applies, or 0
abbrev pub first_of : List Cause → ℕ
first_of [] = 0
first_of (c ∷ cs) = if c.applies then c.number else first_of cs

-- the answer of a call that is declined by k, or by none where k is 0
abbrev pub answer : ℕ → Answer → Answer
answer zero a = a
answer (suc k) a = declined (suc k)

-- a buffer after a call: the new contents where no number declines it, else the old ones
abbrev pub afterwards : {A : Type 0} → ℕ → List A → List A → List A
afterwards zero new old = new
afterwards (suc k) new old = old
