-- The objects a shelf holds: each key lies in exactly one run of exactly one member, its holder; and on an ideal table find gives the holder as owner.
use Rattle.std.specs.Prelude.{◌≡◌, Bool, true, ◌&&◌, List, [], ◌∷◌, ℕ, ◌+◌, ◌≤◌, ◌<◌, ltb, eqb, get_or}
use Rattle.std.proofs.Math.Dec.{leb}
use Rattle.std.proofs.Math.ListN.{length}
use Rattle.model.specs.Lists.{bit}
use Rattle.model.specs.Table.{Member, table_of, members_in, well_formed}
use Rattle.model.specs.Ring.{live, ideal}
use Rattle.model.specs.Held.{holder, Run, runs_of}
use Rattle.laws.specs.Lists.{In}
use Rattle.theory.specs.KeyOwners.{Finds}

-- The statement

-- the position p lies in the run
abbrev pub lies : ℕ → Run → Bool
lies p u = leb u.start p && ltb p u.end

-- how many of the runs it lies in
abbrev pub runs_at : ℕ → List Run → ℕ
runs_at p [] = 0
runs_at p (u ∷ us) = bit (lies p u) + runs_at p us

-- the members' runs part the positions of the keys: each key's holder is a member; each position lies in one run of its key's holder, and in
-- none of any other member; and no run ends before it starts or past the list
pub record Parted (ms : List Member) (ks : List ℕ) : Type 0 where
  pub holder_live : (k : ℕ) → live ms (holder ms k) ≡ true
  pub in_one : (p : ℕ) → p < length ks → (x : ℕ) → live ms x ≡ true → runs_at p (runs_of ms x ks) ≡ bit (eqb x (holder ms (get_or ks p 0)))
  pub within : (x : ℕ) → live ms x ≡ true → (u : Run) → In u (runs_of ms x ks) → (u.start ≤ u.end) × (u.end ≤ length ks)

-- on an ideal table find gives the holder: from every member, for every key
abbrev pub FindsHolder : Type 0
FindsHolder = (ws : List ℕ) (wf : well_formed ws ≡ true) (h : ideal (table_of ws) ≡ true) (n k : ℕ) → live (members_in ws) n ≡ true → Finds ws n k (holder (members_in ws) k)
