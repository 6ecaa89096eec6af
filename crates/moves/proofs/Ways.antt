-- A way measured and its places stored, and arrays in which some moves are not known yet. Assumes nothing.
use Prim.Native.Nat.{ℕ, zero, suc, ◌+◌, ◌-◌, ◌≤◌, ◌<◌}
use mathlib.Core.Path.{◌≡◌, refl, sym, ◌∙◌}
use mathlib.Core.Bool.{Bool, true, false}
use mathlib.Core.List.{List}
use mathlib.Core.Logic.{◌⊎◌, inl, inr}
use native.Mathlib.Omega.{arith}
use lib.ListN.{get_or, set, length-set}
use lib.Seq.{get_or-set_same, get_or-set_other}
use Rattle.model.specs.Lists.{bit}
use Rattle.model.specs.Table.{Member, members_in, ids}
use Rattle.model.specs.Ring.{on_ring}
use Rattle.laws.specs.Order.{equal?}
use Rattle.table.specs.FormedWords.{FormedWords}
use Rattle.places.specs.Each.{Each}
use Rattle.best_successors.specs.Places.{next_place}
use Rattle.ring.specs.Far.{ring_bit}
use Rattle.moves.specs.Ways.{moves_at, no_more, SoFar, known, unknown, AllSoFar, Along, Measured}
use Rattle.moves.proofs.Moves.{moves_few, on_ring_law, stuck, one_more}

module _ (ws : List ℕ) where
  abbrev ms : List Member
  ms = members_in ws

  abbrev id_at : ℕ → ℕ
  id_at k = get_or (ids ms) k 0

  abbrev n : ℕ
  n = get_or ws 1 0

  abbrev off : ℕ → Type 0
  off k = on_ring ms (id_at k) ≡ false

  -- Arrays

  pub ring_known : (a : List ℕ) → Each ms (ring_bit ms) n a → AllSoFar ws a
  ring_known a e = record { size = e.size; at = λ j l. go j l (on_ring ms (id_at j)) refl (e.at j l) }
    where
      go : (j : ℕ) → j < n → (b : Bool) → on_ring ms (id_at j) ≡ b → get_or a j 0 ≡ bit (on_ring ms (id_at j)) → SoFar ws a j
      go j l true q v = known (v ∙ rw (q, on_ring_law ws j l q))
      go j l false q v = unknown (v ∙ rw q) q

  module _ (a : List ℕ) (j : ℕ) where
    pub is_known : SoFar ws a j → 0 < get_or a j 0 → get_or a j 0 ≡ moves_at ws j + 1
    is_known (known e) h = e
    is_known (unknown e o) h = absurd (omega arith)

    pub is_off : SoFar ws a j → get_or a j 0 ≡ 0 → off j
    is_off (known e) h = absurd (omega arith)
    is_off (unknown e o) h = o

  -- with the moves at place y stored
  module _ (a : List ℕ) (y v : ℕ) (h : y < n) (b : AllSoFar ws a) (e : v ≡ moves_at ws y + 1) where
    stored_here : get_or (set a y v) y 0 ≡ moves_at ws y + 1
    stored_here = get_or-set_same a y v 0 (omega (arith, b.size)) ∙ e

    stored_known : (k : ℕ) → get_or a k 0 ≡ moves_at ws k + 1 → get_or (set a y v) k 0 ≡ moves_at ws k + 1
    stored_known k q = go (equal? k y)
      where
        go : (k ≡ y) ⊎ (k ≡ y → ⊥) → get_or (set a y v) k 0 ≡ moves_at ws k + 1
        go (inl r) = rw r stored_here
        go (inr r) = get_or-set_other a y k v 0 r ∙ q

    stored_at : (k : ℕ) → y ≡ k → get_or (set a y v) k 0 ≡ moves_at ws k + 1
    stored_at k r = rw (← r) stored_here

    -- place k is known once it is stored, as the first of a way of so many
    pub stored_first : (k left steps : ℕ) → left ≤ steps → (left ≡ steps → y ≡ k) → (left < steps → get_or a k 0 ≡ moves_at ws k + 1) → get_or (set a y v) k 0 ≡ moves_at ws k + 1
    stored_first k left steps l f q = go (equal? left steps)
      where
        go : (left ≡ steps) ⊎ (left ≡ steps → ⊥) → get_or (set a y v) k 0 ≡ moves_at ws k + 1
        go (inl r) = stored_at k (f r)
        go (inr r) = stored_known k (q (omega arith))

    pub stored_so_far : AllSoFar ws (set a y v)
    stored_so_far = record { size = simp length-set b.size; at = λ j l. go j (b.at j l) (equal? j y) }
      where
        go : (j : ℕ) → SoFar ws a j → (j ≡ y) ⊎ (j ≡ y → ⊥) → SoFar ws (set a y v) j
        go j i (inl r) = known (stored_at j (sym r))
        go j (known q) (inr r) = known (stored_known j q)
        go j (unknown q o) (inr r) = unknown (get_or-set_other a y j v 0 r ∙ q) o

  -- Ways

  -- the first place of a way, and the others
  pub along : (v c k : ℕ) → 0 < c → Along ws v c k → (k < n) × (moves_at ws k ≡ no_more (v + c) n) × Along ws v (c - 1) (next_place ms k)
  along v zero k h w = absurd (omega arith)
  along v (suc c) k h w = let q : suc c - 1 ≡ c = omega arith in (w.0, w.1, rw q w.2)

  -- c moves lead from k to y: a way from y makes one from k
  abbrev pub Leads : ℕ → ℕ → ℕ → Type 0
  Leads k c y = (e v : ℕ) → moves_at ws y ≡ no_more (v + e) n → Along ws v e y → Along ws v (c + e) k

  pub leads_none : (k : ℕ) → Leads k 0 k
  leads_none k e v q w = let z : 0 + e ≡ e = omega arith in rw z w

  -- c moves lead from k to a place y whose moves are not known, and one more to j
  pub record Onward (a : List ℕ) (k c y j : ℕ) : Type 0 where
    pub formed : FormedWords ws
    pub so_far : AllSoFar ws a
    pub within : y < n
    pub not_known : get_or a y 0 ≡ 0
    pub next : j ≡ next_place ms y
    pub leads : Leads k c y

  module _ {a : List ℕ} {k c y j : ℕ} (o : Onward a k c y j) where
    off_ring : off y
    off_ring = is_off a y (o.so_far.at y o.within) o.not_known

    -- no move leads on
    pub leads_stuck : n ≤ j → c < n → Measured ws k (c + 1) n
    leads_stuck b l =
        let s = stuck ws y o.within o.formed off_ring (rw o.next at b) in
        record { some = omega arith; most = omega arith; value = omega arith; way = o.leads 1 n (omega arith) (o.within, omega arith, tt) }

    -- one move more
    pub leads_on : j < n → Leads k (c + 1) j
    leads_on b e v q w =
        let m = one_more ws y o.within o.formed off_ring (rw o.next at b) in
        let q' : moves_at ws (next_place ms y) ≡ no_more (v + e) n = rw (← o.next) q in
        let z : c + 1 + e ≡ c + suc e = omega arith in
        rw z (o.leads (suc e) v (omega arith) (o.within, omega arith, rw (← o.next) w))

  module _ (k c y : ℕ) (l : Leads k c y) where
    pub known_moves : Along ws (moves_at ws y) c k
    known_moves = let z : c + 0 ≡ c = omega arith in rw z at (l 0 (moves_at ws y) (omega (arith, moves_few ws y)) tt)

    -- the moves from y are known
    pub leads_known : (a : List ℕ) → AllSoFar ws a → y < n → 0 < get_or a y 0 → 0 < c → c ≤ n → Measured ws k c (get_or a y 0 - 1)
    leads_known a b h p s m =
        let q : get_or a y 0 - 1 ≡ moves_at ws y = omega (arith, is_known a y (b.at y h) p) in
        record { some = s; most = m; value = omega (arith, q, moves_few ws y); way = rw q known_moves }

    -- n moves are made: the walk never comes to the ring
    pub leads_never : k < n → n ≤ c → Measured ws k 1 n
    leads_never h b =
        let w = along (moves_at ws y) c k (omega arith) known_moves in
        record { some = omega arith; most = omega arith; value = omega arith; way = (h, omega arith, tt) }
