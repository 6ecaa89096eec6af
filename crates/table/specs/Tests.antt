-- What `well_formed` tests of the records. Document 01 asks more, which holds of each slice of words long enough.
use Rattle.std.specs.Prelude.{ℕ, ◌+◌, Bool, true, ◌&&◌, ◌||◌, List, [], ◌∷◌, leb, eqb}
use Rattle.model.specs.Table.{Member}

-- pending is 0 or 1, and the candidate 0 where pending is 0
unfoldable pub right_pending : ℕ → ℕ → Bool
right_pending p c = leb p 1 && (eqb p 1 || eqb c 0)

-- each member is right in that, and the identifiers rise, the first from lo on
abbrev pub right_from : ℕ → List Member → Bool
right_from lo [] = true
right_from lo (m ∷ ms) = leb lo m.id && right_pending m.pending m.candidate && right_from (m.id + 1) ms
