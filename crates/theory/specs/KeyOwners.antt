-- Find on a sound table: every member answers with an owner, and all ring members with the same one.
use Rattle.std.specs.Prelude.{◌≡◌, ◌⊎◌, true, List, [], ◌∷◌, ℕ}
use Rattle.model.specs.Identifier.{between}
use Rattle.model.specs.Table.{members_in}
use Rattle.model.specs.Ring.{live, on_ring}
use Rattle.model.specs.Answer.{accepted}
use Rattle.model.specs.Calls.{lookup_answer}

-- find for the key k from n gives this owner, found at some member after some moves, with some entries passed over
pub record Finds (ws : List ℕ) (n k owner : ℕ) : Type 0 where
  pub place : ℕ
  pub moves : ℕ
  pub passed : ℕ
  pub answer : lookup_answer ws n k ≡ accepted (owner ∷ place ∷ moves ∷ passed ∷ [])

-- find for the key k from n and from m gives one owner, a ring member
pub record OneOwner (ws : List ℕ) (n m k : ℕ) : Type 0 where
  pub owner : ℕ
  pub on : on_ring (members_in ws) owner ≡ true
  pub from_n : Finds ws n k owner
  pub from_m : Finds ws m k owner

-- k belongs to b on the move from q to b
abbrev pub Owns : ℕ → ℕ → ℕ → Type 0
Owns q k b = (k ≡ b) ⊎ (between q k b ≡ true)

-- all ring members give one owner
abbrev pub AllGiveOne : List ℕ → Type 0
AllGiveOne ws = (n m k : ℕ) → live (members_in ws) n ≡ true → on_ring (members_in ws) n ≡ true → live (members_in ws) m ≡ true → on_ring (members_in ws) m ≡ true → OneOwner ws n m k
