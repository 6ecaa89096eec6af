-- The ring of any moves f among members that never pass the member p: every walk comes to p, so there is one ring, it goes round in order,
-- and the moves onto it are at most as many as the members outside it. Tables come in Static.
use Rattle.std.specs.Prelude.{◌≡◌, refl, ◌⊎◌, Bool, true, false, ◌&&◌, List, ℕ, zero, suc, ◌≤◌, ◌<◌, eqb}
use Rattle.std.proofs.Common.{sym, subst, ◌∙◌, inl, inr, arith, eqb-true, eq-eqb}
use Rattle.std.proofs.Math.Path.{ap}
use Rattle.std.proofs.Math.Bool.{not, true≢false}
use Rattle.std.proofs.lemmas.Bool.{eqb-false, not-true}
use Rattle.model.specs.Lists.{count}
use Rattle.laws.specs.Order.{Inside, Outside, inside_ends, equal?, onward, passed, passed_from_end, Before, is_before, before_true, before_false, false_before, before_trans, before_irrefl, before_asym}
use Rattle.laws.specs.Lists.{In, count_le, count_lt, and-true}
use Rattle.laws.specs.Iterate.{iterate, iterate_move}

-- x comes back to itself by one or more moves
pub record Returns (f : ℕ → ℕ) (x : ℕ) : Type 0 where
  pub more : ℕ
  pub back : iterate f (suc more) x ≡ x

-- moves from a member lead to a member
abbrev pub Closed : List ℕ → (ℕ → ℕ) → Type 0
Closed members f = (x : ℕ) → In x members → In (f x) members

-- moves from x come to a place where the test holds, the first such place, and are at most n
pub data Arrival (f : ℕ → ℕ) (test : ℕ → Bool) : ℕ → ℕ → Type 0 where
  arrived : {n x : ℕ} → test x ≡ true → Arrival f test n x
  move : {n x : ℕ} → test x ≡ false → Arrival f test n (f x) → Arrival f test (suc n) x

-- moves from x come to y, none of them from p
data Route (f : ℕ → ℕ) (p y : ℕ) : ℕ → Type 0 where
  stop : {x : ℕ} → x ≡ y → Route f p y x
  step : {x : ℕ} → (x ≡ p → ⊥) → Route f p y (f x) → Route f p y x

pub returns_next : {f : ℕ → ℕ} {x : ℕ} → Returns f x → Returns f (f x)
returns_next {f} {x} o = record { more = o.more; back = iterate_move f o.more (f x) ∙ ap f o.back }

module _ {f : ℕ → ℕ} {p : ℕ} where
  route_iterate : {y x : ℕ} → Route f p y x → (k : ℕ) × (iterate f k x ≡ y)
  route_iterate (stop e) = (0, e)
  route_iterate (step n d) = let w = route_iterate d in (suc w.0, w.1)

  -- of two routes from one place, one is a part of the other
  one_route : {y x z : ℕ} → Route f p y x → Route f p z x → Route f p z y ⊎ Route f p y z
  one_route (stop e) d = inl (subst (Route f p _) e d)
  one_route (step n d) (stop e) = inr (subst (Route f p _) e (step n d))
  one_route (step n d) (step m c) = one_route d c

  -- moves that lead to a place do so without a move from p, or so from the last time that they left p
  iterate_route : (k x : ℕ) → Route f p (iterate f k x) x ⊎ Route f p (iterate f k x) (f p)
  iterate_route zero x = inl (stop refl)
  iterate_route (suc k) x = go (equal? x p) (iterate_route k (f x))
    where
      go : (x ≡ p) ⊎ (x ≡ p → ⊥) → Route f p (iterate f k (f x)) (f x) ⊎ Route f p (iterate f k (f x)) (f p) → Route f p (iterate f k (f x)) x ⊎ Route f p (iterate f k (f x)) (f p)
      go t (inr d) = inr d
      go (inl e) (inl d) = inr (subst (λ (u : ℕ). Route f p (iterate f k (f x)) (f u)) e d)
      go (inr n) (inl d) = inl (step n d)

  arrival_route : {n x : ℕ} → Arrival f (λ y. eqb y p) n x → Route f p p x
  arrival_route {n} {x} (arrived e) = stop (eqb-true x p e)
  arrival_route {n} {x} (move e a) = step (eqb-false x p e) (arrival_route a)

-- m is x or ahead of it, on the way round that ends at p
ahead : ℕ → ℕ → ℕ → Bool
ahead p x m = not (is_before (suc p) m x)

ahead_fewer : {p x y : ℕ} → Before (suc p) x y → (m : ℕ) → ahead p y m ≡ true → ahead p x m ≡ true
unfolding ahead
ahead_fewer {p} {x} {y} b m h = ap not (before_false (λ c. false_before (suc p) m y (not-true _ h) (before_trans c b)))

ahead_self : (p x : ℕ) → ahead p x x ≡ true
unfolding ahead
ahead_self p x = ap not (before_false before_irrefl)

ahead_left : {p x y : ℕ} → Before (suc p) x y → ahead p y x ≡ false
unfolding ahead
ahead_left b = ap not (before_true b)

module _ (members : List ℕ) (f : ℕ → ℕ) (p : ℕ) (ip : In p members) (closed : Closed members f) (None-passes : (x : ℕ) → In x members → Outside x p (f x)) where
  forwards : {x : ℕ} → In x members → (x ≡ p → ⊥) → Before (suc p) x (f x)
  forwards {x} i n = onward (None-passes x i) n

  -- how many members outside the test are still ahead: a move from one of them leaves fewer
  left : (ℕ → Bool) → ℕ → ℕ
  left test x = count (λ m. not (test m) && ahead p x m) members

  left_less : (test : ℕ → Bool) → test p ≡ true → {x : ℕ} → In x members → test x ≡ false → left test (f x) < left test x
  unfolding left
  left_less test tp {x} i e =
      let b = forwards i (λ q. true≢false (sym tp ∙ ap test (sym q) ∙ e)) in
      count_lt (λ m. not (test m) && ahead p (f x) m) (λ m. not (test m) && ahead p x m)
      (λ y j h. let w = and-true (not (test y)) _ h in rw w.0 (ahead_fewer b y w.1)) i (rw (e, ahead_left b)) (rw (e, ahead_self p x))

  arrives_in : (test : ℕ → Bool) → test p ≡ true → (n x : ℕ) → left test x ≤ n → In x members → Arrival f test n x
  arrives_in test tp zero x h i = go (test x) refl
    where
      go : (b : Bool) → test x ≡ b → Arrival f test 0 x
      go true e = arrived e
      go false e = absurd (omega (arith, left_less test tp i e))
  arrives_in test tp (suc n) x h i = go (test x) refl (λ k. arrives_in test tp n (f x) k (closed x i))
    where
      go : (b : Bool) → test x ≡ b → (left test (f x) ≤ n → Arrival f test n (f x)) → Arrival f test (suc n) x
      go true e ih = arrived e
      go false e ih = move e (ih (omega (arith, left_less test tp i e)))

  -- where the test holds of p: every member comes to where it holds in at most as many moves as there are members of which it does not
  pub arrives : (test : ℕ → Bool) → test p ≡ true → (x : ℕ) → In x members → Arrival f test (count (λ m. not (test m)) members) x
  unfolding left
  arrives test tp x i = arrives_in test tp (count (λ m. not (test m)) members) x (count_le (λ m. not (test m) && ahead p x m) (λ m. not (test m)) members (λ y j h. (and-true _ _ h).0)) i

  -- so every member comes to p, and p comes back
  pub returns : Returns f p
  returns = let w = route_iterate (arrival_route (arrives (λ y. eqb y p) (eq-eqb p p refl) (f p) (closed p ip))) in record { more = w.0; back = w.1 }

  -- a route without a move from p goes forward
  route_forward : {y x : ℕ} → In x members → Route f p y x → (x ≡ y) ⊎ Before (suc p) x y
  route_forward i (stop e) = inl e
  route_forward {y} i (step {x} n d) = inr (go (route_forward (closed x i) d))
    where
      go : (f x ≡ y) ⊎ Before (suc p) (f x) y → Before (suc p) x y
      go (inl e) = rw e at (forwards i n)
      go (inr b) = before_trans (forwards i n) b

  -- every ring goes through p: who comes back is on the way from p
  ring_route : (z : ℕ) → In z members → Returns f z → Route f p z (f p)
  ring_route z i o = go (equal? z p) (subst (λ (u : ℕ). Route f p u (f z) ⊎ Route f p u (f p)) o.back (iterate_route o.more (f z)))
    where
      never : (z ≡ p → ⊥) → (f z ≡ z) ⊎ Before (suc p) (f z) z → ⊥
      never n (inl e) = before_irrefl (rw e at (forwards i n))
      never n (inr b) = before_asym b (forwards i n)

      go : (z ≡ p) ⊎ (z ≡ p → ⊥) → Route f p z (f z) ⊎ Route f p z (f p) → Route f p z (f p)
      go t (inr d) = d
      go (inl e) (inl d) = subst (λ (u : ℕ). Route f p z (f u)) e d
      go (inr n) (inl d) = absurd (never n (route_forward (closed z i) d))

  -- the move from a ring member passes no ring member
  pub ring_next : (x z : ℕ) → In x members → In z members → Returns f x → Returns f z → Inside x z (f x) → ⊥
  ring_next x z ix iz ox oz b = go (equal? x p) (ring_route z iz oz)
    where
      -- z further on than x
      further : (x ≡ p → ⊥) → (f x ≡ z) ⊎ Before (suc p) (f x) z → ⊥
      further n (inl e) = (inside_ends b).1 (sym e)
      further n (inr k) = before_asym k (passed b (forwards ix n)).1

      -- z not so far as x
      nearer : (x ≡ p → ⊥) → (z ≡ x) ⊎ Before (suc p) z x → ⊥
      nearer n (inl e) = (inside_ends b).0 e
      nearer n (inr k) = before_asym k (passed b (forwards ix n)).0

      apart : (x ≡ p → ⊥) → Route f p z x ⊎ Route f p x z → ⊥
      apart n (inl (stop e)) = (inside_ends b).0 (sym e)
      apart n (inl (step _ d)) = further n (route_forward (closed x ix) d)
      apart n (inr d) = nearer n (route_forward iz d)

      from_p : x ≡ p → (f p ≡ z) ⊎ Before (suc p) (f p) z → ⊥
      from_p e (inl k) = (inside_ends b).1 (sym k ∙ ap f (sym e))
      from_p e (inr k) = passed_from_end (rw e at b) k

      go : (x ≡ p) ⊎ (x ≡ p → ⊥) → Route f p z (f p) → ⊥
      go (inl e) d = from_p e (route_forward (closed p ip) d)
      go (inr n) d = apart n (one_route (ring_route x ix ox) d)
