-- A part that is a number, and one that is none. Assumes nothing.
use Rattle.std.proofs.Common.{◌≡◌, ℕ, suc, ◌+◌, ◌*◌, ◌-◌, ◌≤◌, ◌<◌, Some, None, false, List, [], ◌∷◌, length, get_or, drop, arith}
use Rattle.std.proofs.Math.Seq.{drop-cons}
use Rattle.std.proofs.Math.ListN.{drop_of_length-le}
use Rattle.std.proofs.lemmas.Bool.Decides.{nat_tests}
use Rattle.std.specs.Char.{is_ascii_digit}
use Rattle.model.specs.Lists.{every}
use Rattle.script.specs.Lines.{is_digit, value_from, value, is_number}
use Rattle.part.specs.Part.{number_of}

-- the digits before place i make v; those from there on are still to be read
pub record Reading (p : List ℕ) (i v : ℕ) : Type 0 where
  pub digits : every is_digit (drop i p) ≡ every is_digit p
  pub number : value_from v (drop i p) ≡ value p
  pub fits : v < 4294967296

pub value_more : (v : ℕ) (l : List ℕ) → v ≤ value_from v l
value_more v [] = omega arith
value_more v (b ∷ l) = omega (arith, value_more (v * 10 + (b - 48)) l)

-- each cause for which a part is no number
module _ (p : List ℕ) where
  pub too_few : length p < 1 → None ≡ number_of p
  unfolding is_number number_of
  too_few h = grind (arith, nat_tests)

  pub too_many : 10 < length p → None ≡ number_of p
  unfolding is_number number_of
  too_many h = grind (arith, nat_tests)

  pub no_digit : every is_digit p ≡ false → None ≡ number_of p
  unfolding is_number number_of
  no_digit e = grind (arith, nat_tests)

  pub too_high : 4294967296 ≤ value p → None ≡ number_of p
  unfolding is_number number_of
  too_high h = grind (arith, nat_tests)

  pub read : 1 ≤ length p → length p ≤ 10 → (i v : ℕ) → length p ≤ i → Reading p i v → Some v ≡ number_of p
  unfolding is_number number_of
  read a b i v e r = grind (arith, nat_tests, rw (drop_of_length-le p {i = i} e) at r.digits, rw (drop_of_length-le p {i = i} e) at r.number, r.fits)

  module _ (i v : ℕ) (h : i < length p) (r : Reading p i v) where
    pub stray : is_ascii_digit (get_or p i 0) ≡ false → None ≡ number_of p
    stray e = no_digit (grind (arith, nat_tests, rw (drop-cons p i 0 h) at r.digits))

    pub over : 4294967296 ≤ v * 10 + (get_or p i 0 - 48) → None ≡ number_of p
    over k = too_high (omega (arith, value_more (v * 10 + (get_or p i 0 - 48)) (drop (suc i) p), rw (drop-cons p i 0 h) at r.number))
