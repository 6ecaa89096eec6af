-- Demand 3, stated: what holds of the table after every list of the seven calls. With model this is all that its reader must believe.
use Rattle.std.specs.Prelude.{ℕ, suc, ◌+◌, ◌≤◌, ◌<◌, ◌≡◌, true, not, List, ◌∷◌, ltb, length, get_or}
use Rattle.std.proofs.Math.Option.{some}
use Rattle.model.specs.Lists.{every, select, count}
use Rattle.model.specs.Identifier.{between}
use Rattle.model.specs.Table.{Member, space_of, table_of, members_in, ids, well_formed}
use Rattle.model.specs.Ring.{live, named, principal, sound, best_successor, moved, on_ring, ring_members, next_up}
use Rattle.model.specs.Run.{Call, numbers_of, run, granted}

-- x comes back to itself by one or more moves
pub record ComesBack (ms : List Member) (x : ℕ) : Type 0 where
  pub more : ℕ
  pub back : moved ms (suc more) x ≡ some x

-- x comes onto the ring in at most n moves
pub record ComesOn (ms : List Member) (n x : ℕ) : Type 0 where
  pub moves : ℕ
  pub few : moves ≤ n
  pub place : ℕ
  pub leads : moved ms moves x ≡ some place
  pub on : on_ring ms place ≡ true

-- the list of the member x: r identifiers, all different, none of them x, and in ring order after x
pub record InRingOrder (r x : ℕ) (l : List ℕ) : Type 0 where
  pub many : length l ≡ r
  pub different : (i j : ℕ) → i < j → j < length (x ∷ l) → get_or (x ∷ l) i 0 ≡ get_or (x ∷ l) j 0 → ⊥
  pub ordered : (i j k : ℕ) → i < j → j < k → k < length (x ∷ l) → between (get_or (x ∷ l) i 0) (get_or (x ∷ l) j 0) (get_or (x ∷ l) k 0) ≡ true

-- the ring's members, in order
abbrev pub ring : List Member → List ℕ
ring ms = select (on_ring ms) (ids ms)

-- how many members are outside the ring
abbrev pub appendages : List Member → ℕ
appendages ms = count (λ x. not (on_ring ms x)) (ids ms)

-- what holds of a slice with members ms: the table is sound; the move from each ring member goes to the next higher of them,
-- and from the highest to the lowest; every principal is on the ring, which has at least r + 1 members; every other member comes
-- onto it in at most as many moves as there are members outside it; each list names r different identifiers in ring order
pub record Holds (ws : List ℕ) : Type 0 where
  pub is_well_formed : well_formed ws ≡ true
  pub is_sound : sound (table_of ws) ≡ true
  pub one_ring : (x : ℕ) → live (members_in ws) x ≡ true → on_ring (members_in ws) x ≡ true → best_successor (members_in ws) x ≡ some (next_up (ring (members_in ws)) x)
  pub principals_on : (x : ℕ) → live (members_in ws) x ≡ true → principal (members_in ws) x ≡ true → on_ring (members_in ws) x ≡ true
  pub ring_size : (table_of ws).r + 1 ≤ ring_members (members_in ws)
  pub comes_on : (x : ℕ) → live (members_in ws) x ≡ true → ComesOn (members_in ws) (appendages (members_in ws)) x
  pub in_order : (x : ℕ) → live (members_in ws) x ≡ true → InRingOrder (table_of ws).r x (named (members_in ws) x).successors

-- where a list of calls may start: a sound table, identifiers in the calls, and each accepted loss one that a withdrawal would have been granted
pub record Starts (cs : List Call) (ws : List ℕ) : Type 0 where
  pub identifiers : every (λ c. every (λ x. ltb x (space_of (table_of ws))) (numbers_of c)) cs ≡ true
  pub is_well_formed : well_formed ws ≡ true
  pub is_sound : sound (table_of ws) ≡ true
  pub grants : granted cs ws ≡ true

-- demand 3: the ring never splits
abbrev pub Demand3 : Type 0
Demand3 = (cs : List Call) (ws : List ℕ) → Starts cs ws → Holds (run cs ws)

-- ring membership as computed is document 01's, on every well-formed table
abbrev pub RingAsComputed : Type 0
RingAsComputed = (ws : List ℕ) → well_formed ws ≡ true → (x : ℕ) → live (members_in ws) x ≡ true
    → (on_ring (members_in ws) x ≡ true → ComesBack (members_in ws) x) × (ComesBack (members_in ws) x → on_ring (members_in ws) x ≡ true)
