-- Document 02, Req 02: the test whether a member is a principal, pair by pair, which ends at the first pair that skips it.
use Rattle.std.specs.Prelude.{ℕ, Bool, not, List, [], ◌∷◌, ◌++◌, length, if◌then◌else◌}
use Rattle.model.specs.Lists.{any, bit}
use Rattle.model.specs.Identifier.{between}
use Rattle.model.specs.Table.{Member}

-- two neighbours (a, b) of an extended successor list
abbrev pub Pair : Type 0
Pair = ℕ × ℕ

-- the pairs of the list a ∷ l, from its front
abbrev pub neighbours : ℕ → List ℕ → List Pair
neighbours a [] = []
neighbours a (b ∷ l) = (a, b) ∷ neighbours b l

-- the pairs of a table: record by record, each extended successor list from its front
abbrev pub pairs : List Member → List Pair
pairs [] = []
pairs (m ∷ ms) = neighbours m.id m.successors ++ pairs ms

-- the pair (a, b) skips x
abbrev pub skipped_by : ℕ → Pair → Bool
skipped_by x p = between p.0 x p.1

-- the pairs that the test of x takes, one after the other: up to the first that skips x, that one included, or all of them
abbrev pub taken : ℕ → List Pair → List Pair
taken x [] = []
taken x (p ∷ ps) = p ∷ (if skipped_by x p then [] else taken x ps)

-- the reply of the test of x: 1 if no pair taken skips it, 0 if one does, and the number of pairs taken
abbrev pub principal_reply : List Member → ℕ → List ℕ
principal_reply ms x = bit (not (any (skipped_by x) (taken x (pairs ms)))) ∷ length (taken x (pairs ms)) ∷ []
