-- Skipped members by place, kept as reaches: a number h at place k says that the members from place k to below h are skipped.
use Rattle.std.specs.Prelude.{ℕ, suc, ◌<◌, ◌≡◌, Bool, not, ◌||◌, List, ltb, length, get_or, take}
use Rattle.model.specs.Lists.{any, bit}
use Rattle.model.specs.Table.{Member, members_in, ids}
use Rattle.model.specs.Ring.{principal}

-- the member at place j is within a reach that starts at its place or before it
abbrev pub covered : List ℕ → ℕ → Bool
covered a j = any (ltb j) (take (suc j) a)

-- of the first n members those that f tells are marked in b besides those marked in a
pub record Marks (n : ℕ) (f : ℕ → Bool) (a b : List ℕ) : Type 0 where
  pub size : length b ≡ length a
  pub at : (j : ℕ) → j < n → covered b j ≡ (covered a j || f j)

-- 1 for a principal, else 0
abbrev pub principal_bit : List Member → ℕ → ℕ
principal_bit ms x = bit (principal ms x)

-- the marks of a table: just the members that are no principals
pub record Skipped (ws a : List ℕ) : Type 0 where
  pub at : (j : ℕ) → j < get_or ws 1 0 → principal (members_in ws) (get_or (ids (members_in ws)) j 0) ≡ not (covered a j)
