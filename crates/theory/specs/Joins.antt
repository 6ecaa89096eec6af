-- By whom to join. Where find of j replies and j is no member, the member that it stands at is one to join by: behind a live first entry nothing
-- but 5 declines the join, and on an ideal table each first entry is live.
use Rattle.std.specs.Prelude.{ℕ, ◌≡◌, Bool, false, not, ◌&&◌, List, [], ◌∷◌, if◌then◌else◌}
use Rattle.model.specs.Identifier.{between}
use Rattle.model.specs.Table.{members_in}
use Rattle.model.specs.Ring.{live, named, successor}
use Rattle.model.specs.Answer.{◌when◌, first_of}
use Rattle.model.specs.Refusals.{full}
use Rattle.model.specs.Calls.{join_answer}
use Rattle.theory.specs.KeyOwners.{Finds}

-- the first entry of the member p is live
abbrev pub live_first : List ℕ → ℕ → Bool
live_first ws p = live (members_in ws) (successor (named (members_in ws) p))

-- what a join of j answers by the member p that find of j stood at: behind a live first entry only 5 can decline it, behind a dead one 4 or 13 does
unfoldable pub found_join : List ℕ → ℕ → ℕ → ℕ
found_join ws j p = first_of (
    (4 when not (live_first ws p) && not (between p j (successor (named (members_in ws) p)))) ∷
    (13 when not (live_first ws p)) ∷
    (5 when full ws) ∷ [])

-- wherever find replies and j is no member, it does
abbrev pub FoundJoins : Type 0
FoundJoins = (ws : List ℕ) (n j owner : ℕ) → live (members_in ws) j ≡ false → (f : Finds ws n j owner) → (join_answer ws j f.place).number ≡ found_join ws j f.place

-- on an ideal table find replies, from every member, and nothing but 5 declines the join by the member that it stands at
pub record Admits (ws : List ℕ) (n j : ℕ) : Type 0 where
  pub owner : ℕ
  pub finds : Finds ws n j owner
  pub joins : (join_answer ws j finds.place).number ≡ (if full ws then 5 else 0)
