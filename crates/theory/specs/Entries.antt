-- One successor list: what its pairs skip, that it goes once round at most and in ring order, and that its first live entry passes no principal.
use Rattle.std.specs.Prelude.{◌≡◌, refl, ◌⊎◌, Bool, true, false, not, ◌||◌, List, [], ◌∷◌, ℕ, zero, suc, ◌+◌, ◌≤◌, ◌<◌, length, get_or, if◌then◌else◌}
use Rattle.std.proofs.Common.{sym, ap, ◌∙◌, inl, inr, true≢false, arith}
use Rattle.std.proofs.lemmas.Bool.{false≢true, not-true}
use Rattle.std.proofs.Math.Option.{some}
use Rattle.model.specs.Lists.{any}
use Rattle.model.specs.Table.{Member, ids}
use Rattle.model.specs.Ring.{live, named, skips, principal, first_live}
use Rattle.laws.specs.Order.{Inside, Outside, inside?, inside_true, outside_false, inside_outside, outside_join, Before, Placed, earlier, together, later, placed, before_trans, before_irrefl, before_start, before_inside, stay_passes, back_passes}
use Rattle.laws.specs.Lists.{In, here, there, NoDup, pigeonhole, every_in, in_every, live_in, in_live, found}
use Rattle.laws.specs.Searches.{first_next}
use Rattle.theory.specs.Claim.{InRingOrder}

-- no pair of the extended list a ∷ l skips q
abbrev pub Clear : ℕ → ℕ → List ℕ → Type 0
Clear q a [] = Unit {0}
Clear q a (b ∷ l) = Outside a q b × Clear q b l

pub false_clear : (q a : ℕ) (l : List ℕ) → skips q a l ≡ false → Clear q a l
false_clear q a [] h = tt
false_clear q a (b ∷ l) h = go (false_clear q b l) (inside? a q b)
  where
    go : (skips q b l ≡ false → Clear q b l) → Inside a q b ⊎ Outside a q b → Outside a q b × Clear q b l
    go ih (inl i) = absurd (true≢false (rw (inside_true i) at h))
    go ih (inr o) = (o, ih (rw (outside_false o) at h))

pub clear_false : (q a : ℕ) (l : List ℕ) → Clear q a l → skips q a l ≡ false
clear_false q a [] h = refl
clear_false q a (b ∷ l) h = rw (outside_false h.0) (clear_false q b l h.1)

-- a principal is one that no member's extended list skips
pub principal_clear : (q : ℕ) {ms : List Member} {m : Member} → principal ms q ≡ true → In m ms → Clear q m.id m.successors
principal_clear q {ms} {m} h i = false_clear q m.id m.successors (not-true _ (every_in (λ k. not (skips q k.id k.successors)) h i))

pub clear_principal : (q : ℕ) (ms : List Member) → ((m : Member) → In m ms → Clear q m.id m.successors) → principal ms q ≡ true
clear_principal q ms h = in_every _ ms (λ m i. ap not (clear_false q m.id m.successors (h m i)))

-- what holds of each member's identifier and list holds of each live identifier and the list named by it
pub of_named : (P : ℕ → List ℕ → Type 0) {x : ℕ} (ms : List Member) → ((m : Member) → In m ms → P m.id m.successors) → In x (ids ms) → P x (named ms x).successors
of_named P {x} ms h i = let f = found ms i in rw f.1 at (h (named ms x) f.0)

-- the list x ∷ l goes forward on the way round from s
abbrev pub Forward : ℕ → ℕ → List ℕ → Type 0
Forward s x [] = Unit {0}
Forward s x (y ∷ l) = Before s x y × Forward s y l

-- The list of s, shorter than a list ps of different identifiers that it does not skip, goes forward on the way round from s:
-- before an entry that did not go forward, all of ps would have been entries
module _ (s : ℕ) (ps : List ℕ) (nd : NoDup ps) where
  forward : (x : ℕ) (l seen : List ℕ) → ((q : ℕ) → In q ps → Clear q x l) → ((q : ℕ) → In q ps → In q seen ⊎ Before s x q) → length seen + length l ≤ length ps → Forward s x l
  forward x [] seen cl inv h = tt
  forward x (y ∷ l) seen cl inv h = go (placed s x y) (forward y l (y ∷ seen) (λ q m. (cl q m).1))
    where
      stuck : ((q : ℕ) → Before s x q → Inside x q y) → ⊥
      stuck f = let k = pigeonhole ps seen nd (λ q m. old q m (inv q m)) in omega arith
        where
          old : (q : ℕ) → In q ps → In q seen ⊎ Before s x q → In q seen
          old q m (inl i) = i
          old q m (inr b) = absurd (inside_outside (f q b) (cl q m).0)

      keep : Before s x y → (q : ℕ) → In q ps → In q seen ⊎ Before s x q → In q (y ∷ seen) ⊎ Before s y q
      keep b q m (inl i) = inl (there i)
      keep b q m (inr k) = sub (placed s q y)
        where
          sub : Placed s q y → In q (y ∷ seen) ⊎ Before s y q
          sub (earlier j) = absurd (inside_outside (before_inside k j) (cl q m).0)
          sub (together e) = inl (here e)
          sub (later j) = inr j

      go : Placed s x y → (((q : ℕ) → In q ps → In q (y ∷ seen) ⊎ Before s y q) → suc (length seen) + length l ≤ length ps → Forward s y l) → Before s x y × Forward s y l
      go (earlier b) ih = (b, ih (λ q m. keep b q m (inv q m)) (omega arith))
      go (together e) ih = absurd (stuck (λ q k. rw (← e) (stay_passes k)))
      go (later b) ih = absurd (stuck (λ q k. back_passes k b))

  pub once_round : (l : List ℕ) → ((q : ℕ) → In q ps → Clear q s l) → length l < length ps → Forward s s l
  once_round l cl h = forward s l (s ∷ []) cl (λ q m. go q (placed s s q)) (omega arith)
    where
      go : (q : ℕ) → Placed s s q → In q (s ∷ []) ⊎ Before s s q
      go q (earlier b) = inr b
      go q (together e) = inl (here (sym e))
      go q (later b) = absurd (before_start b)

-- any two entries of a list that goes forward, in their order
forward_from : (s x : ℕ) (l : List ℕ) → Forward s x l → (j : ℕ) → j < length l → Before s x (get_or l j 0)
forward_from s x [] r j h = absurd (omega arith)
forward_from s x (y ∷ l) r zero h = r.0
forward_from s x (y ∷ l) r (suc j) h = before_trans r.0 (forward_from s y l r.1 j (omega arith))

pub forward_two : (s x : ℕ) (l : List ℕ) → Forward s x l → (i j : ℕ) → i < j → j < length (x ∷ l) → Before s (get_or (x ∷ l) i 0) (get_or (x ∷ l) j 0)
forward_two s x l r zero zero h k = absurd (omega arith)
forward_two s x l r zero (suc j) h k = forward_from s x l r j (omega arith)
forward_two s x [] r (suc i) j h k = absurd (omega arith)
forward_two s x (y ∷ l) r (suc i) zero h k = absurd (omega arith)
forward_two s x (y ∷ l) r (suc i) (suc j) h k = forward_two s y l r.1 i j (omega arith) (omega arith)

-- such a list is in ring order, and no entry stands twice
pub in_ring_order : (ps : List ℕ) (s : ℕ) (l : List ℕ) → NoDup ps → ((q : ℕ) → In q ps → Clear q s l) → length l < length ps → InRingOrder (length l) s l
in_ring_order ps s l nd cl h = record {
  many = refl;
  different = λ i j p q e. before_irrefl (rw e at (two i j p q));
  ordered = λ i j k p q o. inside_true (before_inside (two i j p (omega arith)) (two j k q o));
}
  where
    two : (i j : ℕ) → i < j → j < length (s ∷ l) → Before s (get_or (s ∷ l) i 0) (get_or (s ∷ l) j 0)
    two i j = forward_two s s l (once_round s ps nd l cl h) i j

-- The first live entry

-- it is a live entry
pub first_live_in : {y : ℕ} (ms : List Member) (l : List ℕ) → first_live ms l ≡ some y → In y (ids ms) × In y l
first_live_in ms [] h = let z : ◌≡◌ {A = ℕ} 0 1 = cc in absurd (omega arith)
first_live_in {y} ms (x ∷ l) h = go (first_live_in ms l) (live ms x) refl (sym (first_next ms x l) ∙ h)
  where
    go : (first_live ms l ≡ some y → In y (ids ms) × In y l) → (b : Bool) → live ms x ≡ b → (if b then some x else first_live ms l) ≡ some y → In y (ids ms) × In y (x ∷ l)
    go ih true e k = let q : x ≡ y = cc in (rw q at (live_in ms x e), here (sym q))
    go ih false e k = let w = ih k in (w.0, there w.1)

-- there is one where some entry is live
pub first_live_some : (ms : List Member) (l : List ℕ) → any (live ms) l ≡ true → (y : ℕ) × (first_live ms l ≡ some y)
first_live_some ms [] h = absurd (false≢true h)
first_live_some ms (x ∷ l) h = let w = go (first_live_some ms l) (live ms x) h in (w.0, first_next ms x l ∙ w.1)
  where
    go : (any (live ms) l ≡ true → (y : ℕ) × (first_live ms l ≡ some y)) → (b : Bool) → (b || any (live ms) l) ≡ true → (y : ℕ) × ((if b then some x else first_live ms l) ≡ some y)
    go ih true k = (x, refl)
    go ih false k = ih k

-- the way to it passes no member that no pair skips: the entries before it are dead
pub first_live_outside : {p y : ℕ} (ms : List Member) (a : ℕ) (l : List ℕ) → In p (ids ms) → Clear p a l → first_live ms l ≡ some y → Outside a p y
first_live_outside ms a [] m c h = let z : ◌≡◌ {A = ℕ} 0 1 = cc in absurd (omega arith)
first_live_outside {p} {y} ms a (x ∷ l) m c h = go (first_live_outside ms x l m c.1) (live ms x) refl (sym (first_next ms x l) ∙ h)
  where
    go : (first_live ms l ≡ some y → Outside x p y) → (b : Bool) → live ms x ≡ b → (if b then some x else first_live ms l) ≡ some y → Outside a p y
    go ih true e k = let q : x ≡ y = cc in rw q at c.0
    go ih false e k = outside_join c.0 (λ q. true≢false (sym (in_live ms (rw q at m)) ∙ e)) (ih k)
