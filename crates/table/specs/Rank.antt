-- The place of an identifier among members by rising identifier.
use Rattle.std.specs.Prelude.{ℕ, suc, List, [], ◌∷◌, ltb, if◌then◌else◌}

-- how many of the rising identifiers are below x
abbrev pub rank : List ℕ → ℕ → ℕ
rank [] x = 0
rank (y ∷ l) x = if ltb y x then suc (rank l x) else 0
