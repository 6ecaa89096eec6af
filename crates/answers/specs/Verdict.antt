-- The number of each verdict, by document 01.
use Rattle.std.specs.Prelude.{ℕ, zero, suc, ◌≡◌, refl}
use Rattle.answers.specs.declared.report.Verdict.{Verdict}
use Rattle.answers.specs.declared.report.Verdict.TheVariants.{NotSound, Sound, Ideal}

abbrev pub number_of : Verdict → ℕ
number_of NotSound = 0
number_of Sound = 1
number_of Ideal = 2

-- the verdict that a number is
abbrev pub verdict_of : ℕ → Verdict
verdict_of zero = NotSound
verdict_of (suc zero) = Sound
verdict_of (suc (suc k)) = Ideal

pub number_read_back : (v : Verdict) → verdict_of (number_of v) ≡ v
number_read_back NotSound = refl
number_read_back Sound = refl
number_read_back Ideal = refl
