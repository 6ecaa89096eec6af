-- What the functions that read a line give, by the definitions of a session.
use Rattle.std.specs.Prelude.{ℕ, ◌≤◌, List, [], ◌∷◌, take, Option as Answer, Some, None}
use Rattle.script.specs.Lines.{Meaning, Unreadable, Asks, parts}
use Rattle.script.specs.declared.Word.{Word}

-- the parts after a space, which stands before each; none where nothing follows
abbrev pub following : List ℕ → List (List ℕ)
following [] = []
following (b ∷ l) = parts l

-- the first 258 numbers: r of `new`, and one identifier more than a table can have
abbrev pub firsts : List ℕ → List ℕ
firsts ns = take 258 ns

-- what a line asks, with the numbers kept in a list of 258
abbrev pub viewed : Answer (Word × ℕ) → List ℕ → Meaning
viewed (Some (w, n)) xs = Asks w (take n xs)
viewed None xs = Unreadable

abbrev pub InLine : Answer (Word × ℕ) → Type 0
InLine (Some (w, n)) = n ≤ 258
InLine None = Unit {0}

-- what a line asks, with its first 258 numbers only
abbrev pub cut : Meaning → Meaning
cut Unreadable = Unreadable
cut (Asks w ns) = Asks w (firsts ns)
