-- A list of calls, of any kind, on a state of any kind: the state that it leads to, what each call tells, and what it meets at its moment.
use Rattle.std.specs.Prelude.{Bool, true, ◌&&◌, List, [], ◌∷◌}

module _ {S C : Type 0} (next : S → C → S) where
  -- the state after a list of calls, each on what the last one left
  abbrev pub after_all : List C → S → S
  after_all [] s = s
  after_all (c ∷ cs) s = after_all cs (next s c)

  -- what each call of the list tells, in order, on the state that it is given
  abbrev pub each_tells : {A : Type 0} → (S → C → A) → List C → S → List A
  each_tells tell [] s = []
  each_tells tell (c ∷ cs) s = tell s c ∷ each_tells tell cs (next s c)

  -- the test holds of each call of the list, on the state that it is given
  abbrev pub each_meets : (S → C → Bool) → List C → S → Bool
  each_meets test [] s = true
  each_meets test (c ∷ cs) s = test s c && each_meets test cs (next s c)
