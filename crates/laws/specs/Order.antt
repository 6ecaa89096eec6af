-- The cyclic order on identifiers: inside and outside a way up, the order on the way round from a start, the identifier after another.
use Rattle.std.specs.Prelude.{◌≡◌, refl, ◌⊎◌, Bool, true, false, ℕ, suc, ◌≤◌, ◌<◌, ltb, eqb, if◌then◌else◌}
use Rattle.std.proofs.Common.{sym, ◌∙◌, inl, inr, true≢false, arith, ltb-true, ltb-false, lt-ltb, le-ltb, eqb-true}
use Rattle.std.proofs.lemmas.Bool.{eqb-false}
use Rattle.model.specs.Identifier.{between, after}

-- Comparisons of two numbers

pub data Comparison (a b : ℕ) : Type 0 where
  less : a < b → Comparison a b
  equals : a ≡ b → Comparison a b
  greater : b < a → Comparison a b

pub compare : (a b : ℕ) → Comparison a b
compare a b = go (ltb a b) (ltb b a) refl refl
  where
    go : (s t : Bool) → ltb a b ≡ s → ltb b a ≡ t → Comparison a b
    go true t e f = less (ltb-true a b e)
    go false true e f = greater (ltb-true b a f)
    go false false e f = equals (omega (arith, ltb-false a b e, ltb-false b a f))

pub less? : (a b : ℕ) → (a < b) ⊎ (b ≤ a)
less? a b = go (ltb a b) refl
  where
    go : (s : Bool) → ltb a b ≡ s → (a < b) ⊎ (b ≤ a)
    go true e = inl (ltb-true a b e)
    go false e = inr (ltb-false a b e)

pub equal? : (a b : ℕ) → (a ≡ b) ⊎ (a ≡ b → ⊥)
equal? a b = go (eqb a b) refl
  where
    go : (s : Bool) → eqb a b ≡ s → (a ≡ b) ⊎ (a ≡ b → ⊥)
    go true e = inl (eqb-true a b e)
    go false e = inr (eqb-false a b e)

-- n lies strictly inside the way up from a to b: between a n b, by cases
pub data Inside (a n b : ℕ) : Type 0 where
  mid : a < n → n < b → Inside a n b
  high : b ≤ a → a < n → Inside a n b
  low : n < b → b ≤ a → Inside a n b

-- n does not
pub data Outside (a n b : ℕ) : Type 0 where
  below : n ≤ a → a < b → Outside a n b
  beyond : a < b → b ≤ n → Outside a n b
  rest : b ≤ n → n ≤ a → Outside a n b

pub inside? : (a n b : ℕ) → Inside a n b ⊎ Outside a n b
inside? a n b = go (less? a b) (less? a n) (less? n b)
  where
    go : (a < b) ⊎ (b ≤ a) → (a < n) ⊎ (n ≤ a) → (n < b) ⊎ (b ≤ n) → Inside a n b ⊎ Outside a n b
    go (inl h) (inl k) (inl l) = inl (mid k l)
    go (inl h) (inl k) (inr l) = inr (beyond h l)
    go (inl h) (inr k) l = inr (below k h)
    go (inr h) (inl k) l = inl (high h k)
    go (inr h) (inr k) (inl l) = inl (low l h)
    go (inr h) (inr k) (inr l) = inr (rest l k)

pub inside_true : {a n b : ℕ} → Inside a n b → between a n b ≡ true
unfolding between
inside_true {a} {n} {b} (mid h k) = simp (lt-ltb a b (omega arith), lt-ltb a n h, lt-ltb n b k)
inside_true {a} {n} {b} (high h k) = simp (le-ltb a b h, lt-ltb a n k)
inside_true {a} {n} {b} (low h k) = simp (le-ltb a b k, lt-ltb n b h, le-ltb a n (omega arith))

pub outside_false : {a n b : ℕ} → Outside a n b → between a n b ≡ false
unfolding between
outside_false {a} {n} {b} (below h k) = simp (lt-ltb a b k, le-ltb a n h)
outside_false {a} {n} {b} (beyond h k) = simp (lt-ltb a b h, lt-ltb a n (omega arith), le-ltb n b k)
outside_false {a} {n} {b} (rest h k) = simp (le-ltb a b (omega arith), le-ltb a n k, le-ltb n b h)

pub inside_outside : {a n b : ℕ} → Inside a n b → Outside a n b → ⊥
inside_outside i o = true≢false (sym (inside_true i) ∙ outside_false o)

pub true_inside : (a n b : ℕ) → between a n b ≡ true → Inside a n b
true_inside a n b h = go (inside? a n b)
  where
    go : Inside a n b ⊎ Outside a n b → Inside a n b
    go (inl i) = i
    go (inr o) = absurd (true≢false (sym h ∙ outside_false o))

pub false_outside : (a n b : ℕ) → between a n b ≡ false → Outside a n b
false_outside a n b h = go (inside? a n b)
  where
    go : Inside a n b ⊎ Outside a n b → Outside a n b
    go (inl i) = absurd (true≢false (sym (inside_true i) ∙ h))
    go (inr o) = o

pub inside_ends : {a n b : ℕ} → Inside a n b → (n ≡ a → ⊥) × (n ≡ b → ⊥)
inside_ends (mid h k) = (omega arith, omega arith)
inside_ends (high h k) = (omega arith, omega arith)
inside_ends (low h k) = (omega arith, omega arith)

-- the start is never between; and from n round to n all others are
pub start_outside : (p n : ℕ) → between p p n ≡ false
start_outside p n = go (inside? p p n)
  where
    go : Inside p p n ⊎ Outside p p n → between p p n ≡ false
    go (inl i) = absurd ((inside_ends i).0 refl)
    go (inr o) = outside_false o

pub round_inside : (p n : ℕ) → (p ≡ n → ⊥) → between n p n ≡ true
round_inside p n d = go (inside? n p n)
  where
    go : Inside n p n ⊎ Outside n p n → between n p n ≡ true
    go (inl i) = inside_true i
    go (inr (below h k)) = absurd (omega arith)
    go (inr (beyond h k)) = absurd (omega arith)
    go (inr (rest h k)) = absurd (d (omega arith))

-- the key law: what lies inside (a, c) lies inside (a, b) or inside (b, c), or is b
pub joint : {a q c b : ℕ} → Inside a q c → Outside a q b → Outside b q c → q ≡ b
joint (mid h k) (below p o) z = omega arith
joint (mid h k) (rest p o) z = omega arith
joint (high h k) (below p o) z = omega arith
joint (high h k) (rest p o) z = omega arith
joint (low h k) (beyond p o) z = omega arith
joint (mid h k) (beyond p o) (below s t) = omega arith
joint (mid h k) (beyond p o) (beyond s t) = omega arith
joint (mid h k) (beyond p o) (rest s t) = omega arith
joint (high h k) (beyond p o) (below s t) = omega arith
joint (high h k) (beyond p o) (beyond s t) = omega arith
joint (high h k) (beyond p o) (rest s t) = omega arith
joint (low h k) (below p o) (below s t) = omega arith
joint (low h k) (below p o) (beyond s t) = omega arith
joint (low h k) (below p o) (rest s t) = omega arith
joint (low h k) (rest p o) (below s t) = omega arith
joint (low h k) (rest p o) (beyond s t) = omega arith
joint (low h k) (rest p o) (rest s t) = omega arith

-- what is passed neither on the way to b nor from b on, nor is b, is not passed at all
pub outside_join : {a q b c : ℕ} → Outside a q b → (q ≡ b → ⊥) → Outside b q c → Outside a q c
outside_join {a} {q} {b} {c} o n p = go (inside? a q c)
  where
    go : Inside a q c ⊎ Outside a q c → Outside a q c
    go (inl i) = absurd (n (joint i o p))
    go (inr k) = k

-- the way to an inner place lies inside the whole way
pub inner : {n c h q : ℕ} → Inside n c h → Outside n q h → Outside n q c
inner (mid a b) (below d e) = below d a
inner (mid a b) (beyond d e) = beyond a (omega arith)
inner (mid a b) (rest d e) = absurd (omega arith)
inner (high a b) (below d e) = absurd (omega arith)
inner (high a b) (beyond d e) = absurd (omega arith)
inner (high a b) (rest d e) = below e b
inner (low a b) (below d e) = absurd (omega arith)
inner (low a b) (beyond d e) = absurd (omega arith)
inner (low a b) (rest d e) = rest (omega arith) e

-- and so does the way from it
pub inner_from : {p j h q : ℕ} → Inside p j h → Outside p q h → Outside j q h
inner_from (mid a b) (below d e) = below (omega arith) b
inner_from (mid a b) (beyond d e) = beyond b e
inner_from (mid a b) (rest d e) = absurd (omega arith)
inner_from (high a b) (below d e) = absurd (omega arith)
inner_from (high a b) (beyond d e) = absurd (omega arith)
inner_from (high a b) (rest d e) = rest d (omega arith)
inner_from (low a b) (below d e) = absurd (omega arith)
inner_from (low a b) (beyond d e) = absurd (omega arith)
inner_from (low a b) (rest d e) = beyond a d

-- x comes before y on the way round that starts at s
pub data Before (s x y : ℕ) : Type 0 where
  upper : s ≤ x → x < y → Before s x y
  lower : x < y → y < s → Before s x y
  across : y < s → s ≤ x → Before s x y

pub data Placed (s x y : ℕ) : Type 0 where
  earlier : Before s x y → Placed s x y
  together : x ≡ y → Placed s x y
  later : Before s y x → Placed s x y

pub placed : (s x y : ℕ) → Placed s x y
placed s x y = go (compare x y) (less? x s) (less? y s)
  where
    go : Comparison x y → (x < s) ⊎ (s ≤ x) → (y < s) ⊎ (s ≤ y) → Placed s x y
    go (equals e) p q = together e
    go (less h) (inl p) (inl q) = earlier (lower h q)
    go (less h) (inl p) (inr q) = later (across p q)
    go (less h) (inr p) q = earlier (upper p h)
    go (greater h) p (inr q) = later (upper q h)
    go (greater h) (inl p) (inl q) = later (lower h p)
    go (greater h) (inr p) (inl q) = earlier (across q p)

pub before_trans : {s x y z : ℕ} → Before s x y → Before s y z → Before s x z
before_trans (upper a b) (upper c d) = upper a (omega arith)
before_trans (upper a b) (lower c d) = absurd (omega arith)
before_trans (upper a b) (across c d) = across c a
before_trans (lower a b) (upper c d) = absurd (omega arith)
before_trans (lower a b) (lower c d) = lower (omega arith) d
before_trans (lower a b) (across c d) = absurd (omega arith)
before_trans (across a b) (upper c d) = absurd (omega arith)
before_trans (across a b) (lower c d) = across d b
before_trans (across a b) (across c d) = absurd (omega arith)

pub before_irrefl : {s x : ℕ} → Before s x x → ⊥
before_irrefl (upper a b) = omega arith
before_irrefl (lower a b) = omega arith
before_irrefl (across a b) = omega arith

pub before_asym : {s x y : ℕ} → Before s x y → Before s y x → ⊥
before_asym h k = before_irrefl (before_trans h k)

-- nothing comes before the start
pub before_start : {s x : ℕ} → Before s x s → ⊥
before_start (upper a b) = omega arith
before_start (lower a b) = omega arith
before_start (across a b) = omega arith

pub before? : (s x y : ℕ) → Before s x y ⊎ (Before s x y → ⊥)
before? s x y = go (placed s x y)
  where
    go : Placed s x y → Before s x y ⊎ (Before s x y → ⊥)
    go (earlier h) = inl h
    go (together e) = inr (λ k. before_irrefl (rw (← e) at k))
    go (later h) = inr (λ k. before_asym h k)

-- the same as a test
abbrev decided : {A B : Type 0} → A ⊎ B → Bool
decided (inl a) = true
decided (inr b) = false

pub is_before : ℕ → ℕ → ℕ → Bool
is_before s x y = decided (before? s x y)

pub before_true : {s x y : ℕ} → Before s x y → is_before s x y ≡ true
unfolding is_before
before_true {s} {x} {y} b = go (before? s x y)
  where
    go : (d : Before s x y ⊎ (Before s x y → ⊥)) → decided d ≡ true
    go (inl h) = refl
    go (inr n) = absurd (n b)

pub before_false : {s x y : ℕ} → (Before s x y → ⊥) → is_before s x y ≡ false
unfolding is_before
before_false {s} {x} {y} n = go (before? s x y)
  where
    go : (d : Before s x y ⊎ (Before s x y → ⊥)) → decided d ≡ false
    go (inl h) = absurd (n h)
    go (inr m) = refl

pub true_before : (s x y : ℕ) → is_before s x y ≡ true → Before s x y
true_before s x y e = go (before? s x y)
  where
    go : Before s x y ⊎ (Before s x y → ⊥) → Before s x y
    go (inl h) = h
    go (inr n) = absurd (true≢false (sym e ∙ before_false n))

pub false_before : (s x y : ℕ) → is_before s x y ≡ false → Before s x y → ⊥
false_before s x y e b = true≢false (sym (before_true b) ∙ e)

-- three in this order on the way round lie so on the circle
pub before_inside : {s x q y : ℕ} → Before s x q → Before s q y → Inside x q y
before_inside (upper a b) (upper c d) = mid b d
before_inside (upper a b) (lower c d) = absurd (omega arith)
before_inside (upper a b) (across c d) = high (omega arith) b
before_inside (lower a b) (upper c d) = absurd (omega arith)
before_inside (lower a b) (lower c d) = mid a c
before_inside (lower a b) (across c d) = absurd (omega arith)
before_inside (across a b) (upper c d) = absurd (omega arith)
before_inside (across a b) (lower c d) = low c (omega arith)
before_inside (across a b) (across c d) = absurd (omega arith)

-- what comes after x is passed by a step from x that stays at x, and by one that goes back
pub stay_passes : {s x q : ℕ} → Before s x q → Inside x q x
stay_passes (upper a b) = high (omega arith) b
stay_passes (lower a b) = high (omega arith) a
stay_passes (across a b) = low (omega arith) (omega arith)

pub back_passes : {s x q y : ℕ} → Before s x q → Before s y x → Inside x q y
back_passes (upper a b) (upper c d) = high (omega arith) b
back_passes (upper a b) (lower c d) = absurd (omega arith)
back_passes (upper a b) (across c d) = absurd (omega arith)
back_passes (lower a b) (upper c d) = absurd (omega arith)
back_passes (lower a b) (lower c d) = high (omega arith) a
back_passes (lower a b) (across c d) = mid a (omega arith)
back_passes (across a b) (upper c d) = low (omega arith) (omega arith)
back_passes (across a b) (lower c d) = absurd (omega arith)
back_passes (across a b) (across c d) = absurd (omega arith)

-- what a step forward passes lies in between on the way
pub passed : {s x z y : ℕ} → Inside x z y → Before s x y → Before s x z × Before s z y
passed (mid a b) (upper c d) = (upper c a, upper (omega arith) b)
passed (mid a b) (lower c d) = (lower a (omega arith), lower b d)
passed (mid a b) (across c d) = absurd (omega arith)
passed (high a b) (upper c d) = absurd (omega arith)
passed (high a b) (lower c d) = absurd (omega arith)
passed (high a b) (across c d) = (upper d b, across c (omega arith))
passed (low a b) (upper c d) = absurd (omega arith)
passed (low a b) (lower c d) = absurd (omega arith)
passed (low a b) (across c d) = (across (omega arith) d, lower a c)

-- on the way round that starts after p, and so ends at p: a step from elsewhere that does not pass p goes forward
pub onward : {x p y : ℕ} → Outside x p y → (x ≡ p → ⊥) → Before (suc p) x y
onward (below a b) n = upper (omega arith) b
onward (beyond a b) n = lower a (omega arith)
onward (rest a b) n = across (omega arith) (omega arith)

-- and what a step from p passes does not come after the place that it goes to
pub passed_from_end : {p z y : ℕ} → Inside p z y → Before (suc p) y z → ⊥
passed_from_end (mid a b) (upper c d) = omega arith
passed_from_end (mid a b) (lower c d) = omega arith
passed_from_end (mid a b) (across c d) = omega arith
passed_from_end (high a b) (upper c d) = omega arith
passed_from_end (high a b) (lower c d) = omega arith
passed_from_end (high a b) (across c d) = omega arith
passed_from_end (low a b) (upper c d) = omega arith
passed_from_end (low a b) (lower c d) = omega arith
passed_from_end (low a b) (across c d) = omega arith

-- a step that does not pass k and does not end there goes forward, on the way round that starts at k
pub ahead_of : {k q b : ℕ} → Outside q k b → (k ≡ b → ⊥) → Before k q b
ahead_of (below h g) n = upper h g
ahead_of (beyond h g) n = lower h (omega arith)
ahead_of (rest h g) n = across (omega arith) g

-- The identifier after another

pub after_lt : (w n : ℕ) → n < w → after w n < w
unfolding after
after_lt w n h = go (ltb (suc n) w) refl
  where
    go : (b : Bool) → ltb (suc n) w ≡ b → (if b then suc n else 0) < w
    go true e = ltb-true (suc n) w e
    go false e = omega arith

-- no identifier lies inside the way from n to the identifier after n
pub after_outside : (w n q : ℕ) → n < w → q < w → Outside n q (after w n)
unfolding after
after_outside w n q h k = go (ltb (suc n) w) (less? n q) refl
  where
    go : (b : Bool) → (n < q) ⊎ (q ≤ n) → ltb (suc n) w ≡ b → Outside n q (if b then suc n else 0)
    go true (inl a) e = beyond (omega arith) a
    go true (inr a) e = below a (omega arith)
    go false d e = rest (omega arith) (omega (arith, ltb-false (suc n) w e))
