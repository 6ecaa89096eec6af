-- Document 01, "Starting, saving, and the rest": which of two replies' lists a shelf takes over.
use Rattle.std.specs.Prelude.{ℕ, Bool, ◌&&◌, List, ltb, length, if◌then◌else◌}
use Rattle.model.specs.Lists.{without_last}
use Rattle.model.specs.Identifier.{between}

-- the list of c is chosen: it is nonempty, and between(own, c, h)
unfoldable pub chooses_candidate : ℕ → ℕ → ℕ → List ℕ → Bool
chooses_candidate own h c cl = ltb 0 (length cl) && between own c h

-- the part taken over: c's list or h's list hl, without its last entry
unfoldable pub take_over : ℕ → ℕ → ℕ → List ℕ → List ℕ → List ℕ
take_over own h c hl cl = if chooses_candidate own h c cl then without_last cl else without_last hl
