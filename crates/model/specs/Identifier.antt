-- Document 01, "Identifiers": the order round the ring, and the identifier after another.
use Rattle.std.specs.Prelude.{ℕ, suc, ◌^◌, Bool, ◌&&◌, ◌||◌, ltb, if◌then◌else◌}

-- the size of the identifier space: an identifier is any number below it
unfoldable pub space : ℕ
space = 2 ^ 32

-- n lies strictly inside the way up from a to b, round the end if need be
unfoldable pub between : ℕ → ℕ → ℕ → Bool
between a n b = if ltb a b then ltb a n && ltb n b else ltb a n || ltb n b

-- the identifier after n, in a space of size w: n + 1, and 0 after the largest
unfoldable pub after : ℕ → ℕ → ℕ
after w n = if ltb (suc n) w then suc n else 0
