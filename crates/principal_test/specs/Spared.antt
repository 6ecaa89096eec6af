-- How far the test of a member goes through one list.
use Rattle.std.specs.Prelude.{ℕ, suc, List, [], ◌∷◌, if◌then◌else◌}
use Rattle.model.specs.Pairs.{Pair, skipped_by}

-- how many pairs come before the first that skips x; all of them if none does
abbrev pub spared : ℕ → List Pair → ℕ
spared x [] = 0
spared x (p ∷ ps) = if skipped_by x p then 0 else suc (spared x ps)
