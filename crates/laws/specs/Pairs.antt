-- The pairs of a table, and those that the test of a member takes: how many they are, and what they skip. Principals by lists and by pairs.
use Rattle.std.specs.Prelude.{ℕ, ◌*◌, ◌≡◌, refl, Bool, true, false, not, ◌&&◌, ◌||◌, List, [], ◌∷◌, ◌++◌, length, if◌then◌else◌}
use Rattle.std.proofs.Common.{sym, ap, ◌∙◌, suc-mul, arith, length-append}
use Rattle.std.proofs.Math.Bool.{or_assoc}
use Rattle.model.specs.Lists.{any}
use Rattle.model.specs.Table.{Member}
use Rattle.model.specs.Ring.{skips, principal}
use Rattle.model.specs.Pairs.{Pair, neighbours, pairs, skipped_by, taken}
use Rattle.laws.specs.Lists.{here, there}
use Rattle.laws.specs.Words.{Lengths}

-- How many pairs

pub list_pairs : (a : ℕ) (l : List ℕ) → length (neighbours a l) ≡ length l
list_pairs a [] = refl
list_pairs a (b ∷ l) = rw (list_pairs b l)

-- members × r
pub table_pairs : (r : ℕ) (ms : List Member) → Lengths r ms → length (pairs ms) ≡ length ms * r
table_pairs r [] h = omega arith
table_pairs r (m ∷ ms) h =
    rw (
      length-append (neighbours m.id m.successors) (pairs ms),
      list_pairs m.id m.successors,
      h m (here refl),
      table_pairs r ms (λ k i. h k (there i)),
      suc-mul (length ms) r,
    ) (omega arith)

-- What they skip

any_append : {A : Type 0} (f : A → Bool) (l k : List A) → any f (l ++ k) ≡ (any f l || any f k)
any_append f [] k = refl
any_append f (x ∷ l) k = rw (any_append f l k) (sym (or_assoc (f x) (any f l) (any f k)))

-- the extended list of m skips x
abbrev pub skips_it : ℕ → Member → Bool
skips_it x m = skips x m.id m.successors

module _ (x : ℕ) where
  -- a principal is what no list skips
  pub no_list : (ms : List Member) → principal ms x ≡ not (any (skips_it x) ms)
  no_list [] = refl
  no_list (m ∷ ms) = go (skips_it x m) (no_list ms)
    where
      go : (b : Bool) → principal ms x ≡ not (any (skips_it x) ms) → (not b && principal ms x) ≡ not (b || any (skips_it x) ms)
      go true e = refl
      go false e = e

  list_skips : (a : ℕ) (l : List ℕ) → any (skipped_by x) (neighbours a l) ≡ skips x a l
  list_skips a [] = refl
  list_skips a (b ∷ l) = rw (list_skips b l)

  table_skips : (ms : List Member) → any (skipped_by x) (pairs ms) ≡ any (skips_it x) ms
  table_skips [] = refl
  table_skips (m ∷ ms) = rw (any_append (skipped_by x) (neighbours m.id m.successors) (pairs ms), list_skips m.id m.successors, table_skips ms)

  -- and what no pair skips
  pub no_pair : (ms : List Member) → not (any (skipped_by x) (pairs ms)) ≡ principal ms x
  no_pair ms = ap not (table_skips ms) ∙ sym (no_list ms)

  -- The pairs taken

  -- they tell what all do
  pub taken_tells : (ps : List Pair) → any (skipped_by x) (taken x ps) ≡ any (skipped_by x) ps
  taken_tells [] = refl
  taken_tells (p ∷ ps) = go (skipped_by x p) (taken_tells ps)
    where
      go : (b : Bool) → any (skipped_by x) (taken x ps) ≡ any (skipped_by x) ps → (b || any (skipped_by x) (if b then [] else taken x ps)) ≡ (b || any (skipped_by x) ps)
      go true e = refl
      go false e = e
