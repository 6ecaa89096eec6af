-- Lists: equal lists, membership, no element twice, a pigeonhole, counts, tests of all and of some, rising numbers, and the members of a table by name.
use Rattle.std.specs.Prelude.{◌≡◌, refl, ◌⊎◌, Bool, true, false, not, ◌&&◌, ◌||◌, List, [], ◌∷◌, ◌++◌, ℕ, zero, suc, ◌+◌, ◌≤◌, ◌<◌, length, take, drop, ltb, eqb, if◌then◌else◌}
use Rattle.std.proofs.Common.{sym, ap, ap₂, ◌∙◌, inl, inr, true≢false, arith, eqb-true, eq-eqb, ne_eqb, ltb-true, lt-ltb}
use Rattle.std.proofs.lemmas.Bool.{false≢true, eqb-false}
use Rattle.model.specs.Lists.{every, any, select, bit, count, contains, rising_from, rising, same}
use Rattle.model.specs.Table.{Member, ids}
use Rattle.model.specs.Ring.{live, nobody, named}

-- Tests joined by and, or

pub and-true : (a b : Bool) → (a && b) ≡ true → (a ≡ true) × (b ≡ true)
and-true true b h = (refl, h)
and-true false b h = absurd (false≢true h)

pub true_and : {a b : Bool} → a ≡ true → b ≡ true → (a && b) ≡ true
true_and h k = rw (h, k)

pub and_pairs : (a b c d : Bool) → (a && b && (c && d)) ≡ (a && c && (b && d))
and_pairs true true c d = refl
and_pairs true false true d = refl
and_pairs true false false d = refl
and_pairs false b c d = refl

pub or-true : (a b : Bool) → (a || b) ≡ true → (a ≡ true) ⊎ (b ≡ true)
or-true true b h = inl refl
or-true false b h = inr h

pub or-false : (a b : Bool) → (a || b) ≡ false → (a ≡ false) × (b ≡ false)
or-false true b h = absurd (true≢false h)
or-false false b h = (refl, h)

pub true_or : (a : Bool) {b : Bool} → b ≡ true → (a || b) ≡ true
true_or true h = refl
true_or false h = h

-- not a || b says that a implies b
pub implied : {a b : Bool} → (not a || b) ≡ true → a ≡ true → b ≡ true
implied h e = rw e at h

pub implies : (a b : Bool) → (a ≡ true → b ≡ true) → (not a || b) ≡ true
implies true b h = h refl
implies false b h = refl

-- Equal lists

pub same_eq : (l m : List ℕ) → same l m ≡ true → l ≡ m
same_eq [] [] h = refl
same_eq [] (y ∷ m) h = absurd (false≢true h)
same_eq (x ∷ l) [] h = absurd (false≢true h)
same_eq (x ∷ l) (y ∷ m) h = let a = and-true (eqb x y) _ h in ap₂ (λ (z : ℕ) (k : List ℕ). z ∷ k) (eqb-true x y a.0) (same_eq l m a.1)

pub same_refl : (l : List ℕ) → same l l ≡ true
same_refl [] = refl
same_refl (x ∷ l) = true_and (eq-eqb x x refl) (same_refl l)

-- Membership

pub data In {A : Type 0} (x : A) : List A → Type 0 where
  here : {y : A} {l : List A} → x ≡ y → In x (y ∷ l)
  there : {y : A} {l : List A} → In x l → In x (y ∷ l)

module _ {A : Type 0} where
  pub in_cons : {x y : A} {l : List A} → In x (y ∷ l) → (x ≡ y) ⊎ In x l
  in_cons (here e) = inl e
  in_cons (there m) = inr m

  pub in_nil : {x : A} → In x [] → ⊥
  in_nil m = elim m [ ]

  pub in_left : {x : A} {l : List A} (k : List A) → In x l → In x (l ++ k)
  in_left k (here e) = here e
  in_left k (there m) = there (in_left k m)

  pub in_right : {x : A} (l : List A) {k : List A} → In x k → In x (l ++ k)
  in_right [] m = m
  in_right (y ∷ l) m = there (in_right l m)

  pub in_append : {x : A} (l k : List A) → In x (l ++ k) → In x l ⊎ In x k
  in_append [] k m = inr m
  in_append {x} (y ∷ l) k m = go (in_append l k) (in_cons m)
    where
      go : (In x (l ++ k) → In x l ⊎ In x k) → (x ≡ y) ⊎ In x (l ++ k) → In x (y ∷ l) ⊎ In x k
      go ih (inl e) = inl (here e)
      go ih (inr i) = sub (ih i)
        where
          sub : In x l ⊎ In x k → In x (y ∷ l) ⊎ In x k
          sub (inl j) = inl (there j)
          sub (inr j) = inr j

pub in_contains : {x : ℕ} {l : List ℕ} → In x l → contains l x ≡ true
in_contains {x} (here {y} {l} e) = rw (eq-eqb y x (sym e))
in_contains {x} (there {y} m) = true_or (eqb y x) (in_contains m)

pub contains_in : (x : ℕ) (l : List ℕ) → contains l x ≡ true → In x l
contains_in x [] h = absurd (false≢true h)
contains_in x (y ∷ l) h = go (contains_in x l) (eqb y x) refl h
  where
    go : (contains l x ≡ true → In x l) → (b : Bool) → eqb y x ≡ b → (b || contains l x) ≡ true → In x (y ∷ l)
    go ih true e k = here (sym (eqb-true y x e))
    go ih false e k = there (ih k)

pub in? : (x : ℕ) (l : List ℕ) → In x l ⊎ (In x l → ⊥)
in? x l = go (contains l x) refl
  where
    go : (b : Bool) → contains l x ≡ b → In x l ⊎ (In x l → ⊥)
    go true e = inl (contains_in x l e)
    go false e = inr (λ m. false≢true (sym e ∙ in_contains m))

pub not_contains : (x : ℕ) (l : List ℕ) → (In x l → ⊥) → contains l x ≡ false
not_contains x l n = go (contains l x) refl
  where
    go : (b : Bool) → contains l x ≡ b → b ≡ false
    go true e = absurd (n (contains_in x l e))
    go false e = refl

-- No element twice, and a pigeonhole

abbrev pub NoDup : List ℕ → Type 0
NoDup [] = Unit {0}
NoDup (x ∷ l) = (In x l → ⊥) × NoDup l

-- a list without one of its elements
pub record Less (x : ℕ) (l : List ℕ) : Type 0 where
  pub left : List ℕ
  pub shorter : length l ≡ suc (length left)
  pub others : (y : ℕ) → In y l → (y ≡ x → ⊥) → In y left

pub one_less : {x : ℕ} {l : List ℕ} → In x l → Less x l
one_less {x} (here {y} {l} e) = record { left = l; shorter = refl; others = λ z m n. go (in_cons m) n }
  where
    go : {z : ℕ} → (z ≡ y) ⊎ In z l → (z ≡ x → ⊥) → In z l
    go (inl p) n = absurd (n (p ∙ sym e))
    go (inr m) n = m
one_less {x} (there {y} {l} m) = go (one_less m)
  where
    go : Less x l → Less x (y ∷ l)
    go w = record { left = y ∷ w.left; shorter = ap suc w.shorter; others = λ z i n. sub (in_cons i) n }
      where
        sub : {z : ℕ} → (z ≡ y) ⊎ In z l → (z ≡ x → ⊥) → In z (y ∷ w.left)
        sub (inl p) n = here p
        sub {z} (inr i) n = there (w.others z i n)

pub pigeonhole : (p l : List ℕ) → NoDup p → ((x : ℕ) → In x p → In x l) → length p ≤ length l
pigeonhole [] l nd sub = omega arith
pigeonhole (x ∷ p) l nd sub =
    let w = one_less (sub x (here refl)) in
    let h = pigeonhole p w.left nd.1 (λ y m. w.others y (sub y (there m)) (λ e. nd.0 (rw e at m))) in
    omega arith

-- Counts

bit_le : (a b : Bool) → (a ≡ true → b ≡ true) → bit a ≤ bit b
bit_le true b h = rw (h refl) (omega arith)
bit_le false b h = omega arith

bit_one : (a : Bool) → bit a ≤ 1
bit_one true = omega arith
bit_one false = omega arith

pub count_le : (f g : ℕ → Bool) (l : List ℕ) → ((x : ℕ) → In x l → f x ≡ true → g x ≡ true) → count f l ≤ count g l
count_le f g [] h = omega arith
count_le f g (x ∷ l) h = omega (arith, count_le f g l (λ y m. h y (there m)), bit_le (f x) (g x) (h x (here refl)))

pub count_lt : (f g : ℕ → Bool) {l : List ℕ} → ((x : ℕ) → In x l → f x ≡ true → g x ≡ true) → {z : ℕ} → In z l → f z ≡ false → g z ≡ true → count f l < count g l
count_lt f g {l} h {z} i = go i h
  where
    go : {l : List ℕ} → In z l → ((x : ℕ) → In x l → f x ≡ true → g x ≡ true) → f z ≡ false → g z ≡ true → count f l < count g l
    go (here {y} {l} e) h p q = rw (← e, p, q) (omega (arith, count_le f g l (λ y m. h y (there m))))
    go (there {y} {l} m) h p q = omega (arith, go m (λ x i. h x (there i)) p q, bit_le (f y) (g y) (h y (here refl)))

-- where no element stands twice, one element less costs at most one
pub count_but_one : (n : ℕ) (f g : ℕ → Bool) (l : List ℕ) → NoDup l → ((x : ℕ) → (x ≡ n → ⊥) → f x ≡ true → g x ≡ true) → count f l ≤ suc (count g l)
count_but_one n f g [] nd h = omega arith
count_but_one n f g (x ∷ l) nd h = go (eqb x n) refl (count_but_one n f g l nd.1 h)
  where
    go : (b : Bool) → eqb x n ≡ b → count f l ≤ suc (count g l) → count f (x ∷ l) ≤ suc (count g (x ∷ l))
    go true e ih = omega (arith, count_le f g l (λ y m. h y (λ q. nd.0 (rw (q ∙ sym (eqb-true x n e)) at m))), bit_one (f x))
    go false e ih = omega (arith, bit_le (f x) (g x) (h x (eqb-false x n e)))

-- some element passes a test that counts one
pub count_any : (f : ℕ → Bool) (l : List ℕ) → 0 < count f l → any f l ≡ true
count_any f [] h = absurd (omega arith)
count_any f (x ∷ l) h = go (f x) h (count_any f l)
  where
    go : (b : Bool) → 0 < bit b + count f l → (0 < count f l → any f l ≡ true) → (b || any f l) ≡ true
    go true k ih = refl
    go false k ih = ih (omega arith)

pub count_all : (l : List ℕ) → count (λ x. true) l ≡ length l
count_all [] = refl
count_all (x ∷ l) = omega (arith, count_all l)

pub count_length : (f : ℕ → Bool) (l : List ℕ) → count f l ≤ length l
count_length f l = omega (arith, count_all l, count_le f (λ x. true) l (λ y k h. refl))

pub count_less : (f : ℕ → Bool) {x : ℕ} {l : List ℕ} → In x l → f x ≡ false → count f l < length l
count_less f {x} {l} i e = omega (arith, count_all l, count_lt f (λ x. true) (λ y k h. refl) i e refl)

pub count_same : (f g : ℕ → Bool) (l : List ℕ) → ((x : ℕ) → In x l → f x ≡ g x) → count f l ≡ count g l
count_same f g l h = omega (arith, count_le f g l (λ x i e. sym (h x i) ∙ e), count_le g f l (λ x i e. h x i ∙ e))

pub count_not : (f : ℕ → Bool) (l : List ℕ) → count f l + count (λ x. not (f x)) l ≡ length l
count_not f [] = refl
count_not f (x ∷ l) = go (f x) (count_not f l)
  where
    go : (b : Bool) → count f l + count (λ y. not (f y)) l ≡ length l → (bit b + count f l) + (bit (not b) + count (λ y. not (f y)) l) ≡ suc (length l)
    go true ih = omega arith
    go false ih = omega arith

-- Tests of each element and of some element, and the elements that pass a test

module _ {A : Type 0} where
  pub every_in : (f : A → Bool) {x : A} {l : List A} → every f l ≡ true → In x l → f x ≡ true
  every_in f {x} h (here {y} e) = rw e (and-true (f y) _ h).0
  every_in f {x} h (there {y} m) = every_in f (and-true (f y) _ h).1 m

  pub in_every : (f : A → Bool) (l : List A) → ((x : A) → In x l → f x ≡ true) → every f l ≡ true
  in_every f [] h = refl
  in_every f (x ∷ l) h = true_and (h x (here refl)) (in_every f l (λ y m. h y (there m)))

  pub in_any : (f : A → Bool) {x : A} {l : List A} → In x l → f x ≡ true → any f l ≡ true
  in_any f {x} (here {y} e) h = rw (← e, h)
  in_any f {x} (there {y} m) h = true_or (f y) (in_any f m h)

  pub any_in : (f : A → Bool) (l : List A) → any f l ≡ true → (x : A) × In x l × (f x ≡ true)
  any_in f [] h = absurd (false≢true h)
  any_in f (y ∷ l) h = go (any_in f l) (f y) refl h
    where
      go : (any f l ≡ true → (x : A) × In x l × (f x ≡ true)) → (b : Bool) → f y ≡ b → (b || any f l) ≡ true → (x : A) × In x (y ∷ l) × (f x ≡ true)
      go ih true e k = (y, here refl, e)
      go ih false e k = let w = ih k in (w.0, there w.1, w.2)

  pub select_in : (f : A → Bool) {x : A} (l : List A) → In x (select f l) → In x l × (f x ≡ true)
  select_in f [] m = absurd (in_nil m)
  select_in f {x} (y ∷ l) m = go (select_in f l) (f y) refl m
    where
      go : (In x (select f l) → In x l × (f x ≡ true)) → (b : Bool) → f y ≡ b → In x (if b then y ∷ select f l else select f l) → In x (y ∷ l) × (f x ≡ true)
      go ih false e i = let w = ih i in (there w.0, w.1)
      go ih true e i = sub (in_cons i)
        where
          sub : (x ≡ y) ⊎ In x (select f l) → In x (y ∷ l) × (f x ≡ true)
          sub (inl q) = (here q, ap f q ∙ e)
          sub (inr k) = let w = ih k in (there w.0, w.1)

  pub in_select : (f : A → Bool) {x : A} {l : List A} → In x l → f x ≡ true → In x (select f l)
  in_select f {x} (here {y} e) h = rw (← e, h) (here refl)
  in_select f {x} (there {y} {l} m) h = go (f y) (in_select f m h)
    where
      go : (b : Bool) → In x (select f l) → In x (if b then y ∷ select f l else select f l)
      go true i = there i
      go false i = i

pub select_nodup : (f : ℕ → Bool) (l : List ℕ) → NoDup l → NoDup (select f l)
select_nodup f [] nd = tt
select_nodup f (y ∷ l) nd = go (f y) (select_nodup f l nd.1)
  where
    go : (b : Bool) → NoDup (select f l) → NoDup (if b then y ∷ select f l else select f l)
    go true ih = (λ m. nd.0 (select_in f l m).0, ih)
    go false ih = ih

pub select_count : (f : ℕ → Bool) (l : List ℕ) → length (select f l) ≡ count f l
select_count f [] = refl
select_count f (y ∷ l) = go (f y) (select_count f l)
  where
    go : (b : Bool) → length (select f l) ≡ count f l → length (if b then y ∷ select f l else select f l) ≡ bit b + count f l
    go true ih = omega arith
    go false ih = omega arith

-- Rising numbers

abbrev pub Above : ℕ → List ℕ → Type 0
Above x [] = Unit {0}
Above x (y ∷ l) = (x < y) × Above y l

abbrev pub Rising : List ℕ → Type 0
Rising [] = Unit {0}
Rising (x ∷ l) = Above x l

above_true : (x : ℕ) (l : List ℕ) → rising_from x l ≡ true → Above x l
above_true x [] h = tt
above_true x (y ∷ l) h = let a = and-true (ltb x y) _ h in (ltb-true x y a.0, above_true y l a.1)

true_above : (x : ℕ) (l : List ℕ) → Above x l → rising_from x l ≡ true
true_above x [] h = refl
true_above x (y ∷ l) h = true_and (lt-ltb x y h.0) (true_above y l h.1)

pub rising_true : (l : List ℕ) → rising l ≡ true → Rising l
rising_true [] h = tt
rising_true (x ∷ l) h = above_true x l h

pub true_rising : (l : List ℕ) → Rising l → rising l ≡ true
true_rising [] h = refl
true_rising (x ∷ l) h = true_above x l h

pub above_in : {x y : ℕ} (l : List ℕ) → Above x l → In y l → x < y
above_in [] a m = absurd (in_nil m)
above_in {x} {y} (z ∷ l) a m = go (in_cons m) (above_in l a.1)
  where
    go : (y ≡ z) ⊎ In y l → (In y l → z < y) → x < y
    go (inl e) ih = omega arith
    go (inr i) ih = omega (arith, ih i)

pub above_rising : (x : ℕ) (l : List ℕ) → Above x l → Rising l
above_rising x [] a = tt
above_rising x (y ∷ l) a = a.1

pub in_above : {x : ℕ} (l : List ℕ) → Rising l → ((y : ℕ) → In y l → x < y) → Above x l
in_above [] a h = tt
in_above (y ∷ l) a h = (h y (here refl), a)

pub rising_nodup : (l : List ℕ) → Rising l → NoDup l
rising_nodup [] a = tt
rising_nodup (x ∷ l) a = (λ m. omega (arith, above_in l a m), rising_nodup l (above_rising x l a))

pub select_rising : (f : ℕ → Bool) (l : List ℕ) → Rising l → Rising (select f l)
select_rising f [] a = tt
select_rising f (y ∷ l) a = go (f y) (select_rising f l (above_rising y l a))
  where
    go : (b : Bool) → Rising (select f l) → Rising (if b then y ∷ select f l else select f l)
    go true ih = in_above (select f l) ih (λ z m. above_in l a (select_in f l m).0)
    go false ih = ih

-- The members of a table by name

pub in_ids : {m : Member} {ms : List Member} → In m ms → In m.id (ids ms)
in_ids (here e) = here (ap (λ (k : Member). k.id) e)
in_ids (there i) = there (in_ids i)

pub length_ids : (ms : List Member) → length (ids ms) ≡ length ms
length_ids [] = refl
length_ids (m ∷ ms) = ap suc (length_ids ms)

pub ids_take : (n : ℕ) (ms : List Member) → ids (take n ms) ≡ take n (ids ms)
ids_take zero ms = refl
ids_take (suc n) [] = refl
ids_take (suc n) (m ∷ ms) = ap (λ (l : List ℕ). m.id ∷ l) (ids_take n ms)

pub ids_drop : (n : ℕ) (ms : List Member) → ids (drop n ms) ≡ drop n (ids ms)
ids_drop zero ms = refl
ids_drop (suc n) [] = refl
ids_drop (suc n) (m ∷ ms) = ids_drop n ms

-- the member with a live identifier is a member, and has it
pub found : {x : ℕ} (ms : List Member) → In x (ids ms) → In (named ms x) ms × ((named ms x).id ≡ x)
found [] i = absurd (in_nil i)
found {x} (m ∷ ms) i = go (found ms) (eqb m.id x) refl (in_cons i)
  where
    go : (In x (ids ms) → In (named ms x) ms × ((named ms x).id ≡ x)) → (b : Bool) → eqb m.id x ≡ b → (x ≡ m.id) ⊎ In x (ids ms)
        → In (if b then m else named ms x) (m ∷ ms) × ((if b then m else named ms x).id ≡ x)
    go ih true e k = (here refl, eqb-true m.id x e)
    go ih false e (inl q) = absurd (eqb-false m.id x e (sym q))
    go ih false e (inr k) = let w = ih k in (there w.0, w.1)

pub named_none : {x : ℕ} (ms : List Member) → (In x (ids ms) → ⊥) → named ms x ≡ nobody
named_none [] n = refl
named_none {x} (m ∷ ms) n = rw (ne_eqb m.id x (λ e. n (here (sym e)))) (named_none ms (λ i. n (there i)))

-- where no identifier stands twice, each member is the one with its identifier
pub named_in : {m : Member} (ms : List Member) → NoDup (ids ms) → In m ms → named ms m.id ≡ m
named_in [] nd i = absurd (in_nil i)
named_in {m} (k ∷ ms) nd i = go (named_in ms nd.1) (eqb k.id m.id) refl (in_cons i)
  where
    go : (In m ms → named ms m.id ≡ m) → (b : Bool) → eqb k.id m.id ≡ b → (m ≡ k) ⊎ In m ms → (if b then k else named ms m.id) ≡ m
    go ih true e (inl q) = sym q
    go ih true e (inr j) = absurd (nd.0 (rw (eqb-true k.id m.id e) (in_ids j)))
    go ih false e (inl q) = absurd (eqb-false k.id m.id e (ap (λ (k : Member). k.id) (sym q)))
    go ih false e (inr j) = ih j

-- live, as a test
pub live_in : (ms : List Member) (x : ℕ) → live ms x ≡ true → In x (ids ms)
live_in ms x h = contains_in x (ids ms) h

pub in_live : (ms : List Member) {x : ℕ} → In x (ids ms) → live ms x ≡ true
in_live ms i = in_contains i
