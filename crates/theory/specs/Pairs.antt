-- The principal test: its first value is `principal`; the last pair taken of a member that is none skips it, and no earlier one does; it takes
-- members × r pairs exactly where the member is a principal or only the very last pair skips it.
use Rattle.std.specs.Prelude.{ℕ, ◌*◌, ◌≡◌, ◌⊎◌, true, false, List, [], ◌∷◌, ◌++◌, length}
use Rattle.model.specs.Lists.{any, bit}
use Rattle.model.specs.Table.{table_of, members_in}
use Rattle.model.specs.Ring.{principal}
use Rattle.model.specs.Answer.{accepted}
use Rattle.model.specs.Pairs.{Pair, pairs, skipped_by, taken}
use Rattle.model.specs.Calls.{principal_answer}

-- The statement

-- the test of x is ended by a pair: the last one taken skips x, none before it does, and none after it is taken
pub record EndedByPair (x : ℕ) (ps : List Pair) : Type 0 where
  pub before : List Pair
  pub last : Pair
  pub after : List Pair
  pub in_order : ps ≡ before ++ (last ∷ after)
  pub are_taken : taken x ps ≡ before ++ (last ∷ [])
  pub skips : skipped_by x last ≡ true
  pub none_earlier : any (skipped_by x) before ≡ false

-- only the very last of the pairs skips x
pub record OnlyLast (x : ℕ) (ps : List Pair) : Type 0 where
  pub others : List Pair
  pub last : Pair
  pub in_order : ps ≡ others ++ (last ∷ [])
  pub skips : skipped_by x last ≡ true
  pub none_else : any (skipped_by x) others ≡ false

-- how many pairs the test of n takes
abbrev pub pairs_taken : List ℕ → ℕ → ℕ
pairs_taken ws n = length (taken n (pairs (members_in ws)))

-- the member n is a principal, or only the very last pair of the table skips it
abbrev pub ToTheEnd : List ℕ → ℕ → Type 0
ToTheEnd ws n = (principal (members_in ws) n ≡ true) ⊎ OnlyLast n (pairs (members_in ws))

-- the test of the member n: what it answers, where it ends, and when it takes members × r pairs
pub record PrincipalTest (ws : List ℕ) (n : ℕ) : Type 0 where
  pub answers : principal_answer ws n ≡ accepted (bit (principal (members_in ws) n) ∷ pairs_taken ws n ∷ [])
  pub ends : principal (members_in ws) n ≡ false → EndedByPair n (pairs (members_in ws))
  pub all_taken : ToTheEnd ws n → pairs_taken ws n ≡ length (members_in ws) * (table_of ws).r
  pub only_then : pairs_taken ws n ≡ length (members_in ws) * (table_of ws).r → ToTheEnd ws n
