-- What a method that writes needs and leaves.
use Rattle.std.specs.Prelude.{ℕ, ◌+◌, ◌≤◌, ◌≡◌, List, length}
use Rattle.std.proofs.lemmas.List.Edits.{sets}
use Rattle.put.specs.declared.Output.{Output}

-- the bytes s find room
abbrev pub Room : List ℕ → Output → Type 0
Room s o = o.at + length s ≤ length o.bytes.now

-- the bytes s were written: the place after them, the bytes afterwards, and the same slice
pub record Wrote (s : List ℕ) (o n : Output) : Type 0 where
  pub place : n.at ≡ o.at + length s
  pub bytes : n.bytes.now ≡ sets o.bytes.now o.at s
  pub lent : n.bytes.ghost_name ≡ o.bytes.ghost_name
