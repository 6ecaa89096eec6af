-- The number of each refusal, by document 01 and document 02, and the answer that it is.
use Rattle.std.specs.Prelude.{ℕ, ◌≡◌, refl, [], ◌∷◌, get_or}
use Rattle.model.specs.Answer.{Answer, declined}
use Rattle.std.proofs.Common.{arith}
use Rattle.answers.specs.ReadBack.{OneToOne, read_back_one_to_one}
use Rattle.answers.specs.Answered.{Declines}
use Rattle.answers.specs.declared.refusal.Refusal.{Refusal}
use Rattle.answers.specs.declared.refusal.Refusal.TheVariants.{NotWellFormed, AlreadyMember, NotMember, NotBetween, Full, CutsOff, TooFewPrincipals, NoLiveEntry, NoImage, TooShort, NoNewTable, NotRising, DeadFirstEntry, NotSound, BadWindows, BadMinutes}

abbrev pub number_of : Refusal → ℕ
number_of NotWellFormed = 1
number_of AlreadyMember = 2
number_of NotMember = 3
number_of NotBetween = 4
number_of Full = 5
number_of CutsOff = 6
number_of TooFewPrincipals = 7
number_of NoLiveEntry = 8
number_of NoImage = 9
number_of TooShort = 10
number_of NoNewTable = 11
number_of NotRising = 12
number_of DeadFirstEntry = 13
number_of NotSound = 14
number_of BadWindows = 15
number_of BadMinutes = 16

-- a call that a refusal declines
abbrev pub refused : Refusal → Answer
refused e = declined (number_of e)

-- the refusal that a number is
abbrev pub refusal_of : ℕ → Refusal
refusal_of k = get_or (NotWellFormed ∷ NotWellFormed ∷ AlreadyMember ∷ NotMember ∷ NotBetween ∷ Full ∷ CutsOff ∷ TooFewPrincipals ∷ NoLiveEntry
    ∷ NoImage ∷ TooShort ∷ NoNewTable ∷ NotRising ∷ DeadFirstEntry ∷ NotSound ∷ BadWindows ∷ BadMinutes ∷ []) k NotWellFormed

pub number_read_back : (e : Refusal) → refusal_of (number_of e) ≡ e
number_read_back NotWellFormed = refl
number_read_back AlreadyMember = refl
number_read_back NotMember = refl
number_read_back NotBetween = refl
number_read_back Full = refl
number_read_back CutsOff = refl
number_read_back TooFewPrincipals = refl
number_read_back NoLiveEntry = refl
number_read_back NoImage = refl
number_read_back TooShort = refl
number_read_back NoNewTable = refl
number_read_back NotRising = refl
number_read_back DeadFirstEntry = refl
number_read_back NotSound = refl
number_read_back BadWindows = refl
number_read_back BadMinutes = refl

-- no two refusals have the same number
pub refused_one_to_one : OneToOne refused
refused_one_to_one = read_back_one_to_one (λ (a : Answer). refusal_of a.number) number_read_back

-- none is 0
pub refused_declines : Declines refused
refused_declines NotWellFormed = omega arith
refused_declines AlreadyMember = omega arith
refused_declines NotMember = omega arith
refused_declines NotBetween = omega arith
refused_declines Full = omega arith
refused_declines CutsOff = omega arith
refused_declines TooFewPrincipals = omega arith
refused_declines NoLiveEntry = omega arith
refused_declines NoImage = omega arith
refused_declines TooShort = omega arith
refused_declines NoNewTable = omega arith
refused_declines NotRising = omega arith
refused_declines DeadFirstEntry = omega arith
refused_declines NotSound = omega arith
refused_declines BadWindows = omega arith
refused_declines BadMinutes = omega arith

-- and so has any number
pub declined_one_to_one : OneToOne declined
declined_one_to_one = read_back_one_to_one (λ (a : Answer). a.number) (λ k. refl)
