-- Rising keys by position: those at or below an identifier stand at the positions below their number.
use Rattle.std.specs.Prelude.{◌≡◌, refl, ◌⊎◌, Bool, true, false, List, [], ◌∷◌, ℕ, zero, suc, ◌+◌, ◌≤◌, ◌<◌, ltb, leb, length, get_or}
use Rattle.std.proofs.Common.{inl, inr, arith, lt-ltb, le-ltb, le-leb}
use Rattle.std.proofs.lemmas.Bool.{lt-leb}
use Rattle.model.specs.Lists.{bit}
use Rattle.model.specs.Held.{keys_to}
use Rattle.laws.specs.Order.{less?}
use Rattle.laws.specs.Lists.{Above, Rising, above_in, above_rising}
use Rattle.laws.specs.Places.{place_in}

-- none of the keys above y is at or below an x that is no higher
none_to : (x y : ℕ) (ks : List ℕ) → Above y ks → x ≤ y → keys_to ks x ≡ 0
none_to x y [] a h = refl
none_to x y (k ∷ ks) a h = let i = none_to x k ks a.1 (omega (arith, a.0)) in rw (lt-leb k x (omega (arith, a.0))) (omega arith)

pub key_up : (ks : List ℕ) (x p : ℕ) → Rising ks → p < length ks → get_or ks p 0 ≤ x → p < keys_to ks x
key_up [] x p a h q = absurd (omega arith)
key_up (k ∷ ks) x zero a h q = rw (le-leb k x q) (omega arith)
key_up (k ∷ ks) x (suc p) a h q =
    let b : k < get_or ks p 0 = above_in ks a (place_in ks p (omega arith)) in
    let i = key_up ks x p (above_rising k ks a) (omega arith) q in
    rw (le-leb k x (omega arith)) (omega arith)

pub key_down : (ks : List ℕ) (x p : ℕ) → Rising ks → p < length ks → x < get_or ks p 0 → keys_to ks x ≤ p
key_down [] x p a h q = absurd (omega arith)
key_down (k ∷ ks) x zero a h q = rw (lt-leb k x q) (omega (arith, none_to x k ks a (omega arith)))
key_down (k ∷ ks) x (suc p) a h q = go (leb k x) (key_down ks x p (above_rising k ks a) (omega arith) q)
  where
    go : (b : Bool) → keys_to ks x ≤ p → bit b + keys_to ks x ≤ suc p
    go true i = omega arith
    go false i = omega arith

-- the key at position p is at or below x exactly if p is below their number
pub key_below : (ks : List ℕ) (x p : ℕ) → Rising ks → p < length ks → ltb p (keys_to ks x) ≡ leb (get_or ks p 0) x
key_below ks x p a h = go (less? x (get_or ks p 0))
  where
    go : (x < get_or ks p 0) ⊎ (get_or ks p 0 ≤ x) → ltb p (keys_to ks x) ≡ leb (get_or ks p 0) x
    go (inl q) = rw (lt-leb (get_or ks p 0) x q, le-ltb p (keys_to ks x) (key_down ks x p a h q))
    go (inr q) = rw (le-leb (get_or ks p 0) x q, lt-ltb p (keys_to ks x) (key_up ks x p a h q))

-- and above x exactly if p is not
pub key_above : (ks : List ℕ) (x p : ℕ) → Rising ks → p < length ks → leb (keys_to ks x) p ≡ ltb x (get_or ks p 0)
key_above ks x p a h = go (less? x (get_or ks p 0))
  where
    go : (x < get_or ks p 0) ⊎ (get_or ks p 0 ≤ x) → leb (keys_to ks x) p ≡ ltb x (get_or ks p 0)
    go (inl q) = rw (lt-ltb x (get_or ks p 0) q, le-leb (keys_to ks x) p (key_down ks x p a h q))
    go (inr q) = rw (le-ltb x (get_or ks p 0) q, lt-leb (keys_to ks x) p (key_up ks x p a h q))
