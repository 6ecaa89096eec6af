-- A run of bytes or words in its place.
use Rattle.std.specs.Prelude.{ℕ, ◌+◌, List, ◌++◌, length, take, drop}

-- a list with the elements of v in the place of those from at on
abbrev pub placed : ℕ → List ℕ → List ℕ → List ℕ
placed at v l = take at l ++ v ++ drop (at + length v) l
