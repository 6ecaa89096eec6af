-- The walk to the ring: one place of it, that it makes no move exactly on the ring, and the moves of a member by those of its best successor.
-- Assumes nothing.
use Prim.Native.Nat.{ℕ, zero, suc, ◌+◌, ◌-◌, ◌≤◌, ◌<◌}
use mathlib.Core.Path.{◌≡◌, refl, ◌∙◌}
use mathlib.Core.List.{List}
use mathlib.Core.Bool.{Bool, true, false}
use mathlib.Core.Option.{Option, some, none}
use native.Mathlib.Omega.{arith}
use borrow.Author.Tests.{ne_eqb}
use lib.Dec.{eqb}
use lib.ListN.{length, get_or}
use Rattle.std.specs.Prelude.{if◌then◌else◌}
use Rattle.model.specs.Lists.{option}
use Rattle.model.specs.Table.{Member, members_in, ids}
use Rattle.model.specs.Ring.{best_successor, on_ring, moves_from, moves_to_ring}
use Rattle.table.specs.FormedWords.{FormedWords}
use Rattle.best_successors.specs.Places.{next_place}
use Rattle.best_successors.proofs.Laws.{best, no_best, member_count}
use Rattle.moves.specs.Ways.{moves_at, no_more}

-- with a place left to look at
look : (ms : List Member) (left m x : ℕ) → 0 < left → moves_from ms left m x ≡ (if on_ring ms x then m else option (best_successor ms x) (length ms) (λ y. moves_from ms (left - 1) (suc m) y))
look ms zero m x h = absurd (omega arith)
look ms (suc left) m x h = let e : suc left - 1 ≡ left = omega arith in rw e

-- The walk from a member is never at 0 once a move is made

module _ (ms : List Member) (h : 0 < length ms) where
  moves_made : (left m x : ℕ) → 0 < moves_from ms left (suc m) x
  moves_made zero m x = h
  moves_made (suc left) m x = go (on_ring ms x) (best_successor ms x) (λ y. moves_made left (suc m) y)
    where
      go : (b : Bool) (o : Option ℕ) → ((y : ℕ) → 0 < moves_from ms left (suc (suc m)) y) → 0 < (if b then suc m else option o (length ms) (λ y. moves_from ms left (suc (suc m)) y))
      go true o ih = omega arith
      go false none ih = h
      go false (some y) ih = ih y

  -- a member is on the ring exactly when it has no move to make
  pub no_moves : (x : ℕ) → eqb 0 (moves_to_ring ms x) ≡ on_ring ms x
  no_moves x = go (on_ring ms x) (best_successor ms x) refl refl
    where
      go : (b : Bool) (o : Option ℕ) → on_ring ms x ≡ b → best_successor ms x ≡ o → eqb 0 (moves_to_ring ms x) ≡ b
      go true o e q = rw (look ms (length ms) 0 x h, e)
      go false none e q = rw (look ms (length ms) 0 x h, e, q) (ne_eqb 0 (length ms) (λ z. omega arith))
      go false (some y) e q = let p = moves_made (length ms - 1) 0 y in rw (look ms (length ms) 0 x h, e, q) (ne_eqb 0 (moves_from ms (length ms - 1) 1 y) (λ z. omega arith))

-- The moves from a member by those from its best successor

module _ (ms : List Member) where
  -- one place more to look at and one move fewer made
  shifted : (left m x : ℕ) → left + suc m ≡ length ms → moves_from ms left (suc m) x ≡ no_more (moves_from ms (suc left) m x + 1) (length ms)
  shifted zero m x h = go (on_ring ms x) (best_successor ms x)
    where
      go : (b : Bool) (o : Option ℕ) → length ms ≡ no_more ((if b then m else option o (length ms) (λ y. length ms)) + 1) (length ms)
      go true o = omega arith
      go false none = omega arith
      go false (some y) = omega arith
  shifted (suc left) m x h = go (on_ring ms x) (best_successor ms x) (λ y. shifted left (suc m) y (omega arith))
    where
      go : (b : Bool) (o : Option ℕ) → ((y : ℕ) → moves_from ms left (suc (suc m)) y ≡ no_more (moves_from ms (suc left) (suc m) y + 1) (length ms))
          → (if b then suc m else option o (length ms) (λ y. moves_from ms left (suc (suc m)) y))
          ≡ no_more ((if b then m else option o (length ms) (λ y. moves_from ms (suc left) (suc m) y)) + 1) (length ms)
      go true o ih = omega arith
      go false none ih = omega arith
      go false (some y) ih = ih y

  fewer : (left m x : ℕ) → 0 < left → left + m ≡ length ms → moves_from ms (left - 1) (suc m) x ≡ no_more (moves_from ms left m x + 1) (length ms)
  fewer zero m x h e = absurd (omega arith)
  fewer (suc left) m x h e = let q : suc left - 1 ≡ left = omega arith in rw q (shifted left m x (omega arith))

  -- never more than the member count
  few : (left m x : ℕ) → m + left ≤ length ms → moves_from ms left m x ≤ length ms
  few zero m x h = omega arith
  few (suc left) m x h = go (on_ring ms x) (best_successor ms x) (λ y. few left (suc m) y (omega arith))
    where
      go : (b : Bool) (o : Option ℕ) → ((y : ℕ) → moves_from ms left (suc m) y ≤ length ms) → (if b then m else option o (length ms) (λ y. moves_from ms left (suc m) y)) ≤ length ms
      go true o ih = omega arith
      go false none ih = omega arith
      go false (some y) ih = ih y

module _ (ws : List ℕ) where
  abbrev ms : List Member
  ms = members_in ws

  abbrev id_at : ℕ → ℕ
  id_at k = get_or (ids ms) k 0

  abbrev n : ℕ
  n = get_or ws 1 0

  pub moves_few : (k : ℕ) → moves_at ws k ≤ n
  moves_few k = omega (arith, few ms (length ms) 0 (id_at k) (omega arith), member_count ws)

  module _ (k : ℕ) (h : k < n) where
    pub on_ring_law : on_ring ms (id_at k) ≡ true → moves_at ws k ≡ 0
    on_ring_law e = look ms (length ms) 0 (id_at k) (omega (arith, member_count ws)) ∙ rw e

    module _ (f : FormedWords ws) (e : on_ring ms (id_at k) ≡ false) where
      pub stuck : n ≤ next_place ms k → moves_at ws k ≡ n
      stuck l = look ms (length ms) 0 (id_at k) (omega (arith, member_count ws)) ∙ rw (e, no_best ws k (next_place ms k) h refl f l) (member_count ws)

      pub one_more : next_place ms k < n → moves_at ws k ≡ no_more (moves_at ws (next_place ms k) + 1) n
      one_more l =
          let j : ℕ = next_place ms k in
          let w : moves_at ws k ≡ moves_from ms (length ms - 1) 1 (id_at j) = look ms (length ms) 0 (id_at k) (omega (arith, member_count ws)) ∙ rw (e, best ws k j h refl f l) in
          let v = fewer ms (length ms) 0 (id_at j) (omega (arith, member_count ws)) (omega arith) in
          omega (arith, w, v, member_count ws)
