-- What holds of every sound table, whatever calls led to it: one ring in identifier order, with all principals on it, and the rest of Claim's Holds.
use Rattle.std.specs.Prelude.{◌≡◌, refl, ◌⊎◌, true, List, [], ◌∷◌, ℕ, zero, suc, ◌≤◌, ◌<◌, length, get_or}
use Rattle.std.proofs.Common.{sym, ap, ◌∙◌, inl, inr, arith, lt-ltb, le-ltb}
use Rattle.std.proofs.Math.Option.{Option, some, none}
use Rattle.model.specs.Lists.{option, any, select}
use Rattle.model.specs.Table.{Member, Table, table_of, members_in, ids, well_formed}
use Rattle.model.specs.Ring.{live, named, principal, sound, best_successor, moved, on_ring, first_above, next_up}
use Rattle.laws.specs.Order.{Inside, Outside, below, beyond, rest, inside?, less?}
use Rattle.laws.specs.Lists.{In, here, there, in_cons, in_nil, count_le, select_in, in_select, select_nodup, select_count, select_rising, Rising, above_in, above_rising, rising_nodup, live_in}
use Rattle.laws.specs.Iterate.{iterate}
use Rattle.laws.specs.Tables.{Formed, Sound, well_formed_facts, sound_facts}
use Rattle.theory.specs.Claim.{ComesOn, InRingOrder, ring, appendages, Holds}
use Rattle.theory.specs.Entries.{Clear, principal_clear, of_named, in_ring_order, first_live_in, first_live_some, first_live_outside}
use Rattle.theory.proofs.Walks.{on_ring_back, back_on_ring}
use Rattle.theory.specs.Orbit.{Returns, returns_next, Closed, Arrival, arrived, move, arrives, returns, ring_next}

-- The next up of rising numbers: the one to which the way from x passes none of them

first_above_law : (x y d : ℕ) (xs : List ℕ) → Rising xs → x < y → In y xs → ((z : ℕ) → In z xs → Outside x z y) → first_above x xs d ≡ y
first_above_law x y d [] rise h i out = absurd (in_nil i)
first_above_law x y d (z ∷ l) rise h i out = go (less? x z) (in_cons i) (out z (here refl)) (λ j. first_above_law x y d l (above_rising z l rise) h j (λ u k. out u (there k)))
  where
    go : (x < z) ⊎ (z ≤ x) → (y ≡ z) ⊎ In y l → Outside x z y → (In y l → first_above x l d ≡ y) → first_above x (z ∷ l) d ≡ y
    go (inl k) (inl e) o ih = rw (lt-ltb x z k) (sym e)
    go (inl k) (inr j) (below a b) ih = absurd (omega arith)
    go (inl k) (inr j) (beyond a b) ih = absurd (omega (arith, above_in l rise j))
    go (inl k) (inr j) (rest a b) ih = absurd (omega arith)
    go (inr k) (inl e) o ih = absurd (omega arith)
    go (inr k) (inr j) o ih = rw (le-ltb x z k) (ih j)

none_above : (x d : ℕ) (xs : List ℕ) → ((z : ℕ) → In z xs → z ≤ x) → first_above x xs d ≡ d
none_above x d [] h = refl
none_above x d (z ∷ l) h = rw (le-ltb x z (h z (here refl))) (none_above x d l (λ u k. h u (there k)))

lowest : (y : ℕ) (xs : List ℕ) → Rising xs → In y xs → ((z : ℕ) → In z xs → y ≤ z) → get_or xs 0 0 ≡ y
lowest y [] rise i h = absurd (in_nil i)
lowest y (z ∷ l) rise i h = go (in_cons i)
  where
    go : (y ≡ z) ⊎ In y l → z ≡ y
    go (inl e) = sym e
    go (inr j) = omega (arith, above_in l rise j, h z (here refl))

pub next_up_law : (x y : ℕ) (xs : List ℕ) → Rising xs → In y xs → ((z : ℕ) → In z xs → Outside x z y) → next_up xs x ≡ y
next_up_law x y xs rise i out = go (less? x y)
  where
    apart : y ≤ x → {z : ℕ} → Outside x z y → (y ≤ z) × (z ≤ x)
    apart h (below a b) = absurd (omega arith)
    apart h (beyond a b) = absurd (omega arith)
    apart h (rest a b) = (a, b)

    go : (x < y) ⊎ (y ≤ x) → next_up xs x ≡ y
    go (inl h) = first_above_law x y (get_or xs 0 0) xs rise h i out
    go (inr h) = none_above x (get_or xs 0 0) xs (λ z j. (apart h (out z j)).1) ∙ lowest y xs rise i (λ z j. (apart h (out z j)).0)

-- The moves as a function: the best successor, which each member of a sound table has

abbrev pub best : List Member → ℕ → ℕ
best ms x = option (best_successor ms x) 0 (λ y. y)

module _ (T : Table) (fo : Formed T) (so : Sound T) where
  abbrev ms : List Member
  ms = T.members

  abbrev members : List ℕ
  members = ids T.members

  -- each list is shorter than the list of the principals, and skips none of them
  pub lists_in_order : (x : ℕ) → In x members → InRingOrder T.r x (named ms x).successors
  lists_in_order x i = of_named (λ y l. InRingOrder T.r y l) ms one i
    where
      one : (m : Member) → In m ms → InRingOrder T.r m.id m.successors
      one m j =
          let e = (fo.each m j).list_length in
          rw e at (in_ring_order (select (principal ms) members) m.id m.successors (select_nodup (principal ms) members (rising_nodup members fo.ids_rising))
          (λ q k. principal_clear q (select_in (principal ms) members k).1 j)
          (omega (arith, select_count (principal ms) members, so.enough)))

  -- the function is the move of each member; it leads to a member, and passes no principal
  pub best_is : {x : ℕ} → In x members → best_successor ms x ≡ some (best ms x)
  best_is {x} i =
      let s = first_live_some ms (named ms x).successors (of_named (λ y l. any (live ms) l ≡ true) ms so.live_entry i) in
      rw s.1

  pub closed : Closed members (best ms)
  closed x i = (first_live_in ms (named ms x).successors (best_is i)).0

  none_passes : (p : ℕ) → In p members → principal ms p ≡ true → (x : ℕ) → In x members → Outside x p (best ms x)
  none_passes p ip h x i = first_live_outside ms x (named ms x).successors ip (of_named (λ y l. Clear p y l) ms (λ m j. principal_clear p h j) i) (best_is i)

  -- several moves
  moved_first : (k : ℕ) {x : ℕ} → In x members → moved ms (suc k) x ≡ moved ms k (best ms x)
  moved_first k i = ap (λ (o : Option ℕ). option o none (λ y. moved ms k y)) (best_is i)

  pub moved_iterate : (k x : ℕ) → In x members → moved ms k x ≡ some (iterate (best ms) k x)
  moved_iterate zero x i = refl
  moved_iterate (suc k) x i = moved_first k i ∙ moved_iterate k (best ms x) (closed x i)

  -- on the ring, by the function and as computed
  returns_on_ring : {x : ℕ} → In x members → Returns (best ms) x → on_ring ms x ≡ true
  returns_on_ring {x} i o = back_on_ring ms (record { more = o.more; back = moved_iterate (suc o.more) x i ∙ ap some o.back })

  on_ring_returns : {x : ℕ} → In x members → on_ring ms x ≡ true → Returns (best ms) x
  on_ring_returns {x} i h = let c = on_ring_back ms x h in record { more = c.more; back = cc (moved_iterate (suc c.more) x i, c.back) }

  -- every principal is on the ring, and there is one
  a_principal : (p : ℕ) × In p members × (principal ms p ≡ true)
  a_principal = go (select (principal ms) members) refl
    where
      go : (l : List ℕ) → select (principal ms) members ≡ l → (p : ℕ) × In p members × (principal ms p ≡ true)
      go [] e = absurd (omega (arith, so.enough, select_count (principal ms) members, ap length e))
      go (p ∷ l) e = let k = select_in (principal ms) {x = p} members (rw e (here refl)) in (p, k.0, k.1)

  pub principal_on_ring : (p : ℕ) → In p members → principal ms p ≡ true → on_ring ms p ≡ true
  principal_on_ring p i h = returns_on_ring i (returns members (best ms) p i closed (none_passes p i h))

  -- the move from a ring member passes no ring member
  pub ring_clear : (x z : ℕ) → In x members → on_ring ms x ≡ true → In z members → on_ring ms z ≡ true → Outside x z (best ms x)
  ring_clear x z i h j k = go (inside? x z (best ms x))
    where
      go : Inside x z (best ms x) ⊎ Outside x z (best ms x) → Outside x z (best ms x)
      go (inr r) = r
      go (inl b) = let p = a_principal in absurd (ring_next members (best ms) p.0 p.1 closed (none_passes p.0 p.1 p.2) x z i j (on_ring_returns i h) (on_ring_returns j k) b)

  -- and leads to the next of them
  pub best_on_ring : (x : ℕ) → In x members → on_ring ms x ≡ true → on_ring ms (best ms x) ≡ true
  best_on_ring x i h = returns_on_ring (closed x i) (returns_next (on_ring_returns i h))

  pub best_next : (x : ℕ) → In x members → on_ring ms x ≡ true → best_successor ms x ≡ some (next_up (ring ms) x)
  best_next x i h = best_is i ∙ ap some (sym (next_up_law x (best ms x) (ring ms) (select_rising (on_ring ms) members fo.ids_rising) (in_select (on_ring ms) (closed x i) (best_on_ring x i h)) out))
    where
      out : (z : ℕ) → In z (ring ms) → Outside x z (best ms x)
      out z j = let k = select_in (on_ring ms) members j in ring_clear x z i h k.0 k.1

  -- every member comes onto the ring
  arrival_comes : {n x : ℕ} → In x members → Arrival (best ms) (on_ring ms) n x → ComesOn ms n x
  arrival_comes {n} {x} i (arrived e) = record { moves = 0; few = omega arith; place = x; leads = refl; on = e }
  arrival_comes i (move {n} {x} e a) =
      let c = arrival_comes (closed x i) a in
      record { moves = suc c.moves; few = omega arith; place = c.place; leads = moved_first c.moves i ∙ c.leads; on = c.on }

  pub onto_ring : (x : ℕ) → In x members → ComesOn ms (appendages ms) x
  onto_ring x i =
      let p = a_principal in
      arrival_comes i (arrives members (best ms) p.0 p.1 closed (none_passes p.0 p.1 p.2) (on_ring ms) (principal_on_ring p.0 p.1 p.2) x i)

-- demand 3 for a single table
pub holds : (ws : List ℕ) → well_formed ws ≡ true → sound (table_of ws) ≡ true → Holds ws
holds ws wf s =
    let fo = (well_formed_facts ws wf).table in
    let so = sound_facts (table_of ws) s in
    record {
      is_well_formed = wf;
      is_sound = s;
      one_ring = λ x h. best_next (table_of ws) fo so x (live_in (members_in ws) x h);
      principals_on = λ x h. principal_on_ring (table_of ws) fo so x (live_in (members_in ws) x h);
      ring_size = omega (arith, count_le (principal (members_in ws)) (on_ring (members_in ws)) (ids (members_in ws)) (principal_on_ring (table_of ws) fo so));
      comes_on = λ x h. onto_ring (table_of ws) fo so x (live_in (members_in ws) x h);
      in_order = λ x h. lists_in_order (table_of ws) fo so x (live_in (members_in ws) x h);
    }
