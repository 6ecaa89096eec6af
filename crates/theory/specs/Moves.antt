-- The moves to the ring that the audit tells of a member, on every table, sound or not: the fewest that lead onto the ring where some do, and the
-- member count exactly where none do. On a sound table they are at most as many as there are members outside the ring.
use Rattle.std.specs.Prelude.{◌≡◌, true, false, List, ℕ, ◌<◌, length}
use Rattle.std.proofs.Math.Option.{some}
use Rattle.model.specs.Table.{Member}
use Rattle.model.specs.Ring.{moved, on_ring}
use Rattle.theory.specs.Claim.{ComesOn}

-- some number of moves from x leads onto the ring
abbrev pub LeadsOn : List Member → ℕ → Type 0
LeadsOn ms x = (n : ℕ) × ComesOn ms n x

-- i moves from x lead onto the ring, and fewer do not
pub record First (ms : List Member) (x i : ℕ) : Type 0 where
  pub place : ℕ
  pub leads : moved ms i x ≡ some place
  pub on : on_ring ms place ≡ true
  pub off : (k y : ℕ) → k < i → moved ms k x ≡ some y → on_ring ms y ≡ false

-- what m tells of x: the fewest moves that lead onto the ring, and fewer than there are members; or the member count, and no moves lead there
pub data Told (ms : List Member) (x m : ℕ) : Type 0 where
  fewest : First ms x m → m < length ms → Told ms x m
  never : m ≡ length ms → (LeadsOn ms x → ⊥) → Told ms x m
