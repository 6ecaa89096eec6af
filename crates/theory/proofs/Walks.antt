-- Walks by moves from member to member, on every table: who comes back does so in as many moves as there are members, so ring membership
-- as computed is document 01's; and who comes onto the ring does so in fewer.
use Rattle.std.specs.Prelude.{◌≡◌, refl, ◌⊎◌, Bool, true, false, ◌||◌, List, [], ◌∷◌, ℕ, zero, suc, ◌-◌, ◌≤◌, eqb, length}
use Rattle.std.proofs.Common.{inl, inr, arith, eqb-true, eq-eqb}
use Rattle.std.proofs.lemmas.Bool.{false≢true}
use Rattle.std.proofs.Math.Option.{Option, some, none}
use Rattle.model.specs.Lists.{option}
use Rattle.model.specs.Table.{Member, ids}
use Rattle.model.specs.Ring.{named, best_successor, moved, reaches, on_ring}
use Rattle.laws.specs.Lists.{In, in_cons, in_nil, in?, NoDup, pigeonhole, true_or, length_ids}
use Rattle.theory.specs.Claim.{ComesBack, ComesOn, RingAsComputed}
use Rattle.theory.specs.Entries.{first_live_in}

module _ (ms : List Member) where
  -- the moves from x to z, one or more, by the places that they lead to
  data Walk (z : ℕ) : ℕ → List ℕ → Type 0 where
    one : {x : ℕ} → best_successor ms x ≡ some z → Walk z x (z ∷ [])
    more : {x y : ℕ} {l : List ℕ} → best_successor ms x ≡ some y → Walk z y l → Walk z x (y ∷ l)

  -- moved, reaches and walks

  moved_walk : {z : ℕ} (k x : ℕ) → moved ms (suc k) x ≡ some z → (l : List ℕ) × Walk z x l
  moved_walk {z} zero x h = go (best_successor ms x) refl h
    where
      go : (o : Option ℕ) → best_successor ms x ≡ o → option o none (λ y. some y) ≡ some z → (l : List ℕ) × Walk z x l
      go none e k = let q : ◌≡◌ {A = ℕ} 0 1 = cc in absurd (omega arith)
      go (some y) e k = let q : best_successor ms x ≡ some z = cc in (z ∷ [], one q)
  moved_walk {z} (suc n) x h = go (best_successor ms x) refl (moved_walk n) h
    where
      go : (o : Option ℕ) → best_successor ms x ≡ o → ((y : ℕ) → moved ms (suc n) y ≡ some z → (l : List ℕ) × Walk z y l) → option o none (λ y. moved ms (suc n) y) ≡ some z → (l : List ℕ) × Walk z x l
      go none e ih k = let q : ◌≡◌ {A = ℕ} 0 1 = cc in absurd (omega arith)
      go (some y) e ih k = let w = ih y k in (y ∷ w.0, more e w.1)

  reaches_moved : (n z x : ℕ) → reaches ms n z x ≡ true → (k : ℕ) × (moved ms (suc k) x ≡ some z)
  reaches_moved zero z x h = absurd (false≢true h)
  reaches_moved (suc n) z x h = go (best_successor ms x) refl (reaches_moved n z) h
    where
      go : (o : Option ℕ) → best_successor ms x ≡ o → ((y : ℕ) → reaches ms n z y ≡ true → (k : ℕ) × (moved ms (suc k) y ≡ some z))
          → option o false (λ y. eqb y z || reaches ms n z y) ≡ true → (k : ℕ) × (moved ms (suc k) x ≡ some z)
      go none e ih k = absurd (false≢true k)
      go (some y) e ih k = sub (eqb y z) refl k
        where
          sub : (b : Bool) → eqb y z ≡ b → (b || reaches ms n z y) ≡ true → (k : ℕ) × (moved ms (suc k) x ≡ some z)
          sub true q j = (0, rw (e, eqb-true y z q))
          sub false q j = let w = ih y j in (suc w.0, rw e w.1)

  walk_reaches : {z x : ℕ} {l : List ℕ} → Walk z x l → (n : ℕ) → length l ≤ n → reaches ms n z x ≡ true
  walk_reaches (one e) zero h = absurd (omega arith)
  walk_reaches {z} (one e) (suc n) h = rw (e, eq-eqb z z refl)
  walk_reaches (more e w) zero h = absurd (omega arith)
  walk_reaches {z} (more {x} {y} e w) (suc n) h = rw e (true_or (eqb y z) (walk_reaches w n (omega arith)))

  -- a walk without circles: each of its places is a member, so it is no longer than the table

  walk_in : {z x : ℕ} {l : List ℕ} → Walk z x l → (y : ℕ) → In y l → In y (ids ms)
  walk_in {z} {x} (one e) y i = go (in_cons i)
    where
      go : (y ≡ z) ⊎ In y [] → In y (ids ms)
      go (inl q) = rw q (first_live_in ms (named ms x).successors e).0
      go (inr j) = absurd (in_nil j)
  walk_in {z} (more {x} {y = u} {l} e w) y i = go (in_cons i) (walk_in w y)
    where
      go : (y ≡ u) ⊎ In y l → (In y l → In y (ids ms)) → In y (ids ms)
      go (inl q) ih = rw q (first_live_in ms (named ms x).successors e).0
      go (inr j) ih = ih j

  -- what is left of a walk after its last visit at y
  record Left (z y : ℕ) : Type 0 where
    places : List ℕ
    walk : Walk z y places
    once : NoDup places
    away : In y places → ⊥

  left : {z x : ℕ} {l : List ℕ} → Walk z x l → NoDup l → (y : ℕ) → In y l → (y ≡ z) ⊎ Left z y
  left {z} (one e) nd y i = go (in_cons i)
    where
      go : (y ≡ z) ⊎ In y [] → (y ≡ z) ⊎ Left z y
      go (inl q) = inl q
      go (inr j) = absurd (in_nil j)
  left {z} (more {x} {y = u} {l} e w) nd y i = go (in_cons i) (left w nd.1 y)
    where
      go : (y ≡ u) ⊎ In y l → (In y l → (y ≡ z) ⊎ Left z y) → (y ≡ z) ⊎ Left z y
      go (inl q) ih = inr (rw q (record { places = l; walk = w; once = nd.1; away = nd.0 }))
      go (inr j) ih = ih j

  straight : {z x : ℕ} {l : List ℕ} → Walk z x l → (k : List ℕ) × Walk z x k × NoDup k
  straight {z} (one e) = (z ∷ [], one e, (in_nil, tt))
  straight {z} (more {x} {y} e w) = go (straight w)
    where
      go : (k : List ℕ) × Walk z y k × NoDup k → (k : List ℕ) × Walk z x k × NoDup k
      go (k, v, nd) = sub (in? y k)
        where
          cut : (y ≡ z) ⊎ Left z y → (k : List ℕ) × Walk z x k × NoDup k
          cut (inl q) = (z ∷ [], one (rw q at e), (in_nil, tt))
          cut (inr c) = (y ∷ c.places, more e c.walk, (c.away, c.once))

          sub : In y k ⊎ (In y k → ⊥) → (k : List ℕ) × Walk z x k × NoDup k
          sub (inl i) = cut (left v nd y i)
          sub (inr n) = (y ∷ k, more e v, (n, nd))

  pub moved_reaches : (z k x : ℕ) → moved ms (suc k) x ≡ some z → reaches ms (length ms) z x ≡ true
  moved_reaches z k x h =
      let s = straight (moved_walk k x h).1 in
      walk_reaches s.1 (length ms) (omega (arith, pigeonhole s.0 (ids ms) s.2 (walk_in s.1), length_ids ms))

  pub back_on_ring : {x : ℕ} → ComesBack ms x → on_ring ms x ≡ true
  back_on_ring {x} c = moved_reaches x c.more x c.back

  pub on_ring_back : (x : ℕ) → on_ring ms x ≡ true → ComesBack ms x
  on_ring_back x h = let w = reaches_moved (length ms) x x h in record { more = w.0; back = w.1 }

  -- Who comes onto the ring from a member does so in fewer moves than there are members

  walk_moved : {z x : ℕ} {l : List ℕ} → Walk z x l → moved ms (length l) x ≡ some z
  walk_moved (one e) = rw e
  walk_moved (more e w) = rw e (walk_moved w)

  -- a place on a walk is come to
  walk_to : {z x : ℕ} {l : List ℕ} → Walk z x l → (y : ℕ) → In y l → (k : ℕ) × (moved ms (suc k) x ≡ some y)
  walk_to {z} (one {x} e) y i = go (in_cons i)
    where
      go : (y ≡ z) ⊎ In y [] → (k : ℕ) × (moved ms (suc k) x ≡ some y)
      go (inl q) = (0, rw (e, q))
      go (inr j) = absurd (in_nil j)
  walk_to {z} (more {x} {y = u} {l} e w) y i = go (in_cons i) (walk_to w y)
    where
      go : (y ≡ u) ⊎ In y l → (In y l → (k : ℕ) × (moved ms (suc k) u ≡ some y)) → (k : ℕ) × (moved ms (suc k) x ≡ some y)
      go (inl q) ih = (0, rw (e, q))
      go (inr j) ih = let v = ih j in (suc v.0, rw e v.1)

  on_already : (x : ℕ) → on_ring ms x ≡ true → ComesOn ms (length ms - 1) x
  on_already x o = record { moves = 0; few = omega arith; place = x; leads = refl; on = o }

  pub sooner : (x j : ℕ) {place : ℕ} → In x (ids ms) → moved ms j x ≡ some place → on_ring ms place ≡ true → ComesOn ms (length ms - 1) x
  sooner x zero {place} i h o = let q : x ≡ place = cc in on_already x (rw q o)
  sooner x (suc j) {place} i h o = go (straight (moved_walk j x h).1)
    where
      go : (k : List ℕ) × Walk place x k × NoDup k → ComesOn ms (length ms - 1) x
      go (k, v, nd) = sub (in? x k)
        where
          member : (y : ℕ) → In y (x ∷ k) → In y (ids ms)
          member y m = fit (in_cons m)
            where
              fit : (y ≡ x) ⊎ In y k → In y (ids ms)
              fit (inl q) = rw q i
              fit (inr n) = walk_in v y n

          sub : In x k ⊎ (In x k → ⊥) → ComesOn ms (length ms - 1) x
          sub (inl m) = let b = walk_to v x m in on_already x (back_on_ring (record { more = b.0; back = b.1 }))
          sub (inr n) = record { moves = length k; few = omega (arith, pigeonhole (x ∷ k) (ids ms) (n, nd) member, length_ids ms); place = place; leads = walk_moved v; on = o }

pub ring_as_computed : RingAsComputed
ring_as_computed ws wf x h = (on_ring_back _ x, back_on_ring _)
