-- A word as it is printed.
use Rattle.std.specs.Prelude.{ℕ, List, ◌∷◌}
use Rattle.script.specs.Lines.{letters}
use Rattle.script.specs.declared.Word.{Word}

-- a word after a space
abbrev pub word_text : Word → List ℕ
word_text w = 32 ∷ letters w
