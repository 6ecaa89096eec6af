-- What verdict 2 allows: k withdrawals of different members, one after the other, are all granted, if k is at most r - 1 and at most members - r - 1.
use Rattle.std.specs.Prelude.{◌≡◌, List, [], ◌∷◌, ◌++◌, map, ℕ, ◌-◌, ◌≤◌, length}
use Rattle.std.proofs.Math.Bool.{true}
use Rattle.model.specs.Lists.{every}
use Rattle.model.specs.Table.{table_of, members_in, well_formed}
use Rattle.model.specs.Ring.{live, verdict}
use Rattle.model.specs.Answer.{accepted}
use Rattle.model.specs.Calls.{leave_answer}
use Rattle.model.specs.Run.{Leave, run}
use Rattle.laws.specs.Lists.{NoDup}

-- The statement

-- a table with verdict 2, and members that may withdraw from it: different ones, at most r - 1, and at most members - r - 1
pub record MaySpare (ws ns : List ℕ) : Type 0 where
  pub is_well_formed : well_formed ws ≡ true
  pub verdict_2 : verdict (table_of ws) ≡ 2
  pub are_members : every (live (members_in ws)) ns ≡ true
  pub different : NoDup ns
  pub few : length ns ≤ (table_of ws).r - 1
  pub enough_left : length ns ≤ length (members_in ws) - (table_of ws).r - 1

-- each of them is granted its withdrawal on the slice that the withdrawals before it left, and the reply is the member count afterwards
abbrev pub AllGranted : List ℕ → List ℕ → Type 0
AllGranted ws ns = (before : List ℕ) (n : ℕ) (later : List ℕ) → ns ≡ before ++ (n ∷ later) →
    leave_answer (run (map Leave before) ws) n ≡ accepted ((length (members_in ws) - length before - 1) ∷ [])
