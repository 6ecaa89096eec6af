-- What a lookup answers, on every table: the owner of the key after fewer moves than there are members, or a member whose list has no live entry.
-- So the bound in its definition is never what ends the walk.
use Rattle.std.specs.Prelude.{◌≡◌, ◌⊎◌, true, List, [], ◌∷◌, ℕ, zero, suc, ◌+◌, ◌<◌, length}
use Rattle.std.proofs.Math.Option.{some, none}
use Rattle.model.specs.Lists.{option}
use Rattle.model.specs.Identifier.{between}
use Rattle.model.specs.Table.{Member}
use Rattle.model.specs.Ring.{live, named, best_successor, passed_by, moved}
use Rattle.model.specs.Answer.{Answer, accepted}

-- what the searches at the members stood at pass over, added up: at x and at the members that k moves from it lead to
abbrev pub passed_on : List Member → ℕ → ℕ → ℕ
passed_on ms zero x = passed_by ms (named ms x)
passed_on ms (suc k) x = passed_by ms (named ms x) + option (best_successor ms x) 0 (λ y. passed_on ms k y)

-- the answer is the owner b of the key, the member q whose best successor it is, the moves from n to q, and what was passed over on the way, at q too
pub record Owned (ms : List Member) (n k : ℕ) (a : Answer) : Type 0 where
  pub b : ℕ
  pub q : ℕ
  pub moves : ℕ
  pub passed : ℕ
  pub answer : a ≡ accepted (b ∷ q ∷ moves ∷ passed ∷ [])
  pub few : moves < length ms
  pub leads : moved ms moves n ≡ some q
  pub added : passed ≡ passed_on ms moves n
  pub place_live : live ms q ≡ true
  pub owner_live : live ms b ≡ true
  pub move : best_successor ms q ≡ some b
  pub owns : (k ≡ b) ⊎ (between q k b ≡ true)

-- the answer is 8 and a member q that moves from n lead to, whose list has no live entry
pub record CutOff (ms : List Member) (n : ℕ) (a : Answer) : Type 0 where
  pub q : ℕ
  pub moves : ℕ
  pub answer : a ≡ record { number = 8; values = q ∷ [] }
  pub few : moves < length ms
  pub leads : moved ms moves n ≡ some q
  pub place_live : live ms q ≡ true
  pub no_move : best_successor ms q ≡ none

-- a lookup from n for the key k is answered by the one or the other
abbrev pub Answered : List Member → ℕ → ℕ → Answer → Type 0
Answered ms n k a = Owned ms n k a ⊎ CutOff ms n a
