-- The new table is well-formed, sound and ideal: no member lies between one of them and the next up.
use Rattle.std.specs.Prelude.{◌≡◌, refl, ◌⊎◌, Bool, false, not, List, [], ◌∷◌, map, ℕ, zero, suc, ◌+◌, ◌≤◌, ◌<◌, length, get_or, ltb, if◌then◌else◌}
use Rattle.std.proofs.Math.Path.{ap}
use Rattle.std.proofs.Common.{◌∙◌, inl, inr, ⊎_elim, ltb-true, ltb-false, lt-ltb, le-ltb, leb-true}
use Rattle.std.proofs.Math.Bool.{true}
use native.Mathlib.Omega.{arith}
use Rattle.std.proofs.lemmas.List.{length-map}
use Rattle.std.proofs.lemmas.Bool.{not-false}
use Rattle.model.specs.Lists.{every, count, last_of}
use Rattle.model.specs.Table.{Member, space_of, ids, size, table_of}
use Rattle.model.specs.Ring.{live, skips, principal, has_live, candidate_inside, first_above, last_below, next_up, next_down, next_ups, ideal, verdict}
use Rattle.model.specs.New.{new_member, new_table}
use Rattle.model.specs.Refusals.{no_new_table, new_refusal}
use Rattle.model.specs.Calls.{new_words}
use Rattle.laws.specs.Places.{next_ups_length, first_least, last_most}
use Rattle.laws.specs.Order.{less?, Outside, below, beyond, rest, outside_false}
use Rattle.laws.specs.Lists.{and-true, In, here, there, in_cons, in_nil, in_live, every_in, in_every, in_any, count_le, count_all, Above, Rising, above_in, above_rising, rising_true}
use Rattle.laws.specs.Tables.{Formed, FormedMember, idle_formed, table_formed, Sound, IdealMember, facts_sound, facts_ideal, formed_lists}
use Rattle.laws.specs.Words.{written_table}
use Rattle.laws.specs.Extended.{head_in, last_in}
use Rattle.laws.specs.Accepted.{none_applies}
use Rattle.theory.specs.Runs.{Good, written_good}

-- The next up and the next down

-- the first above x is one of them and above x, or there is none
first_above_law : (x : ℕ) (l : List ℕ) (d : ℕ) → (In (first_above x l d) l × (x < first_above x l d)) ⊎ (first_above x l d ≡ d)
first_above_law x [] d = inr refl
first_above_law x (y ∷ l) d = go (ltb x y) refl (first_above_law x l d)
  where
    go : (b : Bool) → ltb x y ≡ b → (In (first_above x l d) l × (x < first_above x l d)) ⊎ (first_above x l d ≡ d)
        → (In (if b then y else first_above x l d) (y ∷ l) × (x < (if b then y else first_above x l d))) ⊎ ((if b then y else first_above x l d) ≡ d)
    go true e ih = inl (here refl, ltb-true x y e)
    go false e (inl i) = inl (there i.0, i.1)
    go false e (inr i) = inr i

last_below_law : (x : ℕ) (l : List ℕ) (d : ℕ) → In (last_below x l d) l ⊎ (last_below x l d ≡ d)
last_below_law x [] d = inr refl
last_below_law x (y ∷ l) d = go (ltb y x) (last_below_law x l y)
  where
    go : (b : Bool) → In (last_below x l y) l ⊎ (last_below x l y ≡ y) → In (if b then last_below x l y else d) (y ∷ l) ⊎ ((if b then last_below x l y else d) ≡ d)
    go true ih = inl (⊎_elim (λ i. there i) (λ e. here e) ih)
    go false ih = inr refl

-- none of rising numbers lies between x and the first of them above x; where none is above, none is above x nor below the lowest
above_spares : (x d q : ℕ) (l : List ℕ) → Rising l → In q l → d ≤ q → Outside x q (first_above x l d)
above_spares x d q [] a i h = absurd (in_nil i)
above_spares x d q (y ∷ l) a i h = go (ltb x y) refl (in_cons i) (first_above_law x l d) (λ j. above_spares x d q l (above_rising y l a) j h)
  where
    go : (b : Bool) → ltb x y ≡ b → (q ≡ y) ⊎ In q l → (In (first_above x l d) l × (x < first_above x l d)) ⊎ (first_above x l d ≡ d)
        → (In q l → Outside x q (first_above x l d)) → Outside x q (if b then y else first_above x l d)
    go true e (inl p) f ih = beyond (ltb-true x y e) (omega arith)
    go true e (inr j) f ih = beyond (ltb-true x y e) (omega (arith, above_in l a j))
    go false e (inl p) (inl f) ih = below (omega (arith, ltb-false x y e)) f.1
    go false e (inl p) (inr f) ih = rest (omega arith) (omega (arith, ltb-false x y e))
    go false e (inr j) f ih = ih j

pub up_spares : (xs : List ℕ) → Rising xs → (x q : ℕ) → In q xs → Outside x q (next_up xs x)
up_spares xs a x q i = above_spares x (get_or xs 0 0) q xs a i (first_least xs a i)

-- nor between the last of them below x and x: of y ∷ l, where y is below x
abbrev Last : ℕ → ℕ → List ℕ → Type 0
Last x y l = (last_below x l y < x) × ((q : ℕ) → In q (y ∷ l) → (q ≤ last_below x l y) ⊎ (x ≤ q))

below_spares : (x y : ℕ) (l : List ℕ) → Above y l → y < x → Last x y l
below_spares x y [] a h = (h, λ q i. ⊎_elim (λ e. inl (omega (arith, e))) (λ j. absurd (in_nil j)) (in_cons i))
below_spares x y (z ∷ l) a h = go (less? z x) (below_spares x z l a.1)
  where
    go : (z < x) ⊎ (x ≤ z) → (z < x → Last x z l) → Last x y (z ∷ l)
    go (inl k) ih =
        let w = ih k in
        let up : z ≤ last_below x l z = ⊎_elim (λ g. g) (λ g. absurd (omega arith)) (w.1 z (here refl)) in
        rw (lt-ltb z x k) (w.0, λ q i. ⊎_elim (λ e. inl (omega (arith, e, a.0))) (w.1 q) (in_cons i))
    go (inr k) ih = rw (le-ltb z x k) (h, λ q i. ⊎_elim (λ e. inl (omega (arith, e))) (λ j. inr (omega (arith, first_least (z ∷ l) a.1 j))) (in_cons i))

pub down_spares : (xs : List ℕ) → Rising xs → (x q : ℕ) → In x xs → In q xs → Outside (next_down xs x) q x
down_spares [] a x q i j = absurd (in_nil i)
down_spares (y ∷ l) a x q i j = go (less? y x)
  where
    go : (y < x) ⊎ (x ≤ y) → Outside (next_down (y ∷ l) x) q x
    go (inl h) = let w = below_spares x y l a h in rw (lt-ltb y x h) (⊎_elim (λ g. below g w.0) (λ g. beyond w.0 g) (w.1 q j))
    go (inr h) = rw (le-ltb y x h) (rest (omega (arith, first_least (y ∷ l) a j)) (last_most (y ∷ l) a j))

-- The records of the new table

map_ids : (r : ℕ) (xs l : List ℕ) → ids (map (new_member r xs) l) ≡ l
map_ids r xs [] = refl
map_ids r xs (x ∷ l) = ap (λ (k : List ℕ). x ∷ k) (map_ids r xs l)

in_map : {A B : Type 0} (f : A → B) {y : B} (l : List A) → In y (map f l) → (x : A) × In x l × (y ≡ f x)
in_map f [] i = absurd (in_nil i)
in_map f (x ∷ l) i = ⊎_elim (λ e. (x, here refl, e)) (λ j. let w = in_map f l j in (w.0, there w.1, w.2)) (in_cons i)

module _ (xs : List ℕ) (some : 1 ≤ length xs) where
  pub up_in : (x : ℕ) → In (next_up xs x) xs
  up_in x = ⊎_elim (λ i. i.0) (λ e. rw e (head_in xs some)) (first_above_law x xs (get_or xs 0 0))

  pub down_in : (x : ℕ) → In (next_down xs x) xs
  down_in x = ⊎_elim (λ i. i) (λ e. rw e (last_in xs some)) (last_below_law x xs (last_of xs))

  pub ups_in : (n x e : ℕ) → In e (next_ups n xs x) → In e xs
  ups_in zero x e i = absurd (in_nil i)
  ups_in (suc n) x e i = ⊎_elim (λ p. rw p (up_in x)) (ups_in n (next_up xs x) e) (in_cons i)

-- the next members up skip none
pub ups_skip : (xs : List ℕ) → Rising xs → (n x q : ℕ) → In q xs → skips q x (next_ups n xs x) ≡ false
ups_skip xs a zero x q i = refl
ups_skip xs a (suc n) x q i = rw (outside_false (up_spares xs a x q i)) (ups_skip xs a n (next_up xs x) q i)

-- what holds of each record of the new table holds of each of its members
pub each_new : (P : Member → Type 0) (r : ℕ) (xs : List ℕ) → ((x : ℕ) → In x xs → P (new_member r xs x)) → (m : Member) → In m (new_table r xs).members → P m
each_new P r xs f m i = let w = in_map (new_member r xs) xs i in rw w.2 (f w.0 w.1)

-- The new table, of r and identifiers that 11 does not decline

pub record Acceptable (r : ℕ) (xs : List ℕ) : Type 0 where
  pub r_low : 1 ≤ r
  pub r_high : r ≤ 8
  pub is_rising : Rising xs
  pub enough : r + 1 ≤ length xs
  pub few : length xs ≤ 256

pub acceptable : (r : ℕ) (xs : List ℕ) → no_new_table r xs ≡ false → Acceptable r xs
unfolding no_new_table
acceptable r xs h =
    let a = and-true _ _ (not-false _ h) in
    let b = and-true _ _ a.0 in
    let c = and-true _ _ b.0 in
    let d = and-true _ _ c.0 in
    record { r_low = leb-true _ _ d.0; r_high = leb-true _ _ d.1; is_rising = rising_true xs c.1; enough = leb-true _ _ b.1; few = leb-true _ _ a.1 }

module _ (r : ℕ) (xs : List ℕ) (ok : Acceptable r xs) where
  some : 1 ≤ length xs
  some = omega (arith, ok.enough)

  pub new_formed : ((x : ℕ) → In x xs → x < space_of (new_table r xs)) → Formed (new_table r xs)
  new_formed small = table_formed r (map (new_member r xs) xs) ok.r_low ok.r_high (rw (length-map xs (new_member r xs)) ok.few)
      (rw (map_ids r xs xs) ok.is_rising) (each_new (FormedMember (space_of (new_table r xs)) r) r xs one)
    where
      one : (x : ℕ) → In x xs → FormedMember (space_of (new_table r xs)) r (new_member r xs x)
      one x i = idle_formed (space_of (new_table r xs)) r x (next_down xs x) (next_ups r xs x) (small x i) (small (next_down xs x) (down_in xs some x))
          (next_ups_length r xs x) (λ e j. small e (ups_in xs some r x e j))

  -- every member is a principal
  all_principal : (q : ℕ) → In q xs → principal (new_table r xs).members q ≡ true
  all_principal q i = in_every (λ m. not (skips q m.id m.successors)) (new_table r xs).members
      (each_new (λ m. not (skips q m.id m.successors) ≡ true) r xs (λ x j. ap not (ups_skip xs ok.is_rising r x q i)))

  pub new_sound : Sound (new_table r xs)
  unfolding candidate_inside
  new_sound = record {
    live_entry = each_new (λ m. has_live (new_table r xs).members m ≡ true) r xs (λ x i. lively x);
    enough = omega (
      arith,
      ok.enough,
      count_all xs,
      count_le (λ x. true) (principal (new_table r xs).members) xs (λ q i e. all_principal q i),
      ap (count (principal (new_table r xs).members)) (map_ids r xs xs),
    );
    candidate_inside_law = each_new (λ m. candidate_inside m ≡ true) r xs (λ x i. refl);
  }
    where
      lively : (x : ℕ) → has_live (new_table r xs).members (new_member r xs x) ≡ true
      lively x =
          let i = head_in (next_ups r xs x) (omega (arith, next_ups_length r xs x, ok.r_low)) in
          in_any (live (new_table r xs).members) i (in_live (new_table r xs).members (rw (map_ids r xs xs) (ups_in xs some r x (get_or (next_ups r xs x) 0 0) i)))

  -- each list is the next r members up, each predecessor the next down, as the definition has them
  pub new_ideal : ideal (new_table r xs) ≡ true
  new_ideal = facts_ideal (new_table r xs) (record {
    each = each_new (IdealMember r (ids (new_table r xs).members)) r xs (λ x i. rw (map_ids r xs xs) (record { list = refl; below = refl }));
  })

-- an accepted new: the slice is well-formed and sound, and the verdict on it is 2
pub new_good : (ws : List ℕ) (r : ℕ) (xs : List ℕ) → every (λ x. ltb x (space_of (new_table r xs))) xs ≡ true → new_refusal (length ws) r xs ≡ 0
    → Good (new_words ws r xs) × (verdict (table_of (new_words ws r xs)) ≡ 2)
unfolding new_refusal new_words verdict
new_good ws r xs h e =
    let a = none_applies 10 (no_new_table r xs) _ e in
    let b = none_applies 9 (ltb (length ws) (size (new_table r xs))) 0 a.1 in
    let ok = acceptable r xs a.0 in
    let f = new_formed r xs ok (λ x i. ltb-true x (space_of (new_table r xs)) (every_in (λ x. ltb x (space_of (new_table r xs))) h i)) in
    let s = new_sound r xs ok in
    let good = written_good (new_table r xs) ws (record { formed = f; is_sound = s }) (ltb-false (length ws) (size (new_table r xs)) b.0) in
    let same = written_table (new_table r xs) ws (formed_lists (new_table r xs) f) in
    rw e (good, ap verdict same ∙ rw (facts_sound (new_table r xs) s, new_ideal r xs ok))
