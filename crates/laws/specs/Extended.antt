-- Extended lists a ∷ l: what cutting them, appending to them and starting them elsewhere means for the identifiers they skip.
use Rattle.std.specs.Prelude.{◌≡◌, refl, false, List, [], ◌∷◌, ◌++◌, ℕ, zero, suc, ◌-◌, ◌≤◌, length, get_or, take}
use Rattle.std.proofs.Common.{⊎_elim, arith}
use Rattle.model.specs.Lists.{last_of}
use Rattle.model.specs.Identifier.{between}
use Rattle.model.specs.Ring.{skips}
use Rattle.laws.specs.Order.{outside_false, false_outside, outside_join}
use Rattle.laws.specs.Lists.{or-false, In, here, there, in_cons, in_nil}

pub last_cons : (x y : ℕ) (l : List ℕ) → last_of (x ∷ y ∷ l) ≡ last_of (y ∷ l)
last_cons x y l = let q : suc (suc (length l)) - 1 ≡ suc (suc (length l) - 1) = omega arith in rw q

last_in_cons : (x : ℕ) (l : List ℕ) → In (last_of (x ∷ l)) (x ∷ l)
last_in_cons x [] = here refl
last_in_cons x (y ∷ l) = rw (last_cons x y l) (there (last_in_cons y l))

pub last_in : (l : List ℕ) → 1 ≤ length l → In (last_of l) l
last_in [] h = absurd (omega arith)
last_in (x ∷ l) h = last_in_cons x l

pub head_in : (l : List ℕ) → 1 ≤ length l → In (get_or l 0 0) l
head_in [] h = absurd (omega arith)
head_in (x ∷ l) h = here refl

pub in_take : {A : Type 0} {e : A} (k : ℕ) (l : List A) → In e (take k l) → In e l
in_take zero l i = absurd (in_nil i)
in_take (suc k) [] i = absurd (in_nil i)
in_take (suc k) (y ∷ l) i = ⊎_elim (λ q. here q) (λ j. there (in_take k l j)) (in_cons i)

pub skips_take : (q a k : ℕ) (l : List ℕ) → skips q a l ≡ false → skips q a (take k l) ≡ false
skips_take q a zero l h = refl
skips_take q a (suc k) [] h = refl
skips_take q a (suc k) (b ∷ l) h = let w = or-false (between a q b) _ h in rw w.0 (skips_take q b k l w.1)

pub skips_append : (q a : ℕ) (l : List ℕ) (z : ℕ) (k : List ℕ) → skips q a l ≡ false → between (last_of (a ∷ l)) q z ≡ false → skips q z k ≡ false → skips q a (l ++ (z ∷ k)) ≡ false
skips_append q a [] z k h o c = rw (o, c)
skips_append q a (b ∷ l) z k h o c = let w = or-false (between a q b) _ h in rw w.0 (skips_append q b l z k w.1 (rw (last_cons a b l) at o) c)

-- a list that starts one entry later: nothing but the entry left out can be skipped anew
pub skips_start : (q a h : ℕ) (l : List ℕ) → between a q h ≡ false → (q ≡ h → ⊥) → skips q h l ≡ false → skips q a l ≡ false
skips_start q a h [] o n c = refl
skips_start q a h (b ∷ l) o n c = let w = or-false (between h q b) _ c in rw (outside_false (outside_join (false_outside a q h o) n (false_outside h q b w.0))) w.1
