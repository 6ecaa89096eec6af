-- What `session` gives, for every input: ten bytes of output for each input byte that counts, and ten more, are enough.
use Rattle.std.specs.Prelude.{ℕ, ◌+◌, ◌*◌, ◌≤◌, ◌≡◌, Bool, List, leb, length, take, if◌then◌else◌, Result, Ok, Err}
use Rattle.model.specs.Lists.{overlay}
use Rattle.script.specs.Lines.{counted}
use Rattle.script.specs.Session.{session_text, session_words}
use Rattle.rehearsal.specs.declared.TooShort.{TooShort}

-- the slice `out` is long enough for the output of the input bs
abbrev pub roomy : List ℕ → List ℕ → Bool
roomy bs out = leb (10 * length (counted bs) + 10) (length out)

abbrev pub too_short : TooShort
too_short = record {}

-- the count of bytes written, or too short
unfoldable pub outcome : List ℕ → List ℕ → List ℕ → Result ℕ TooShort
outcome bs ws out = if roomy bs out then Ok (length (session_text bs ws)) else Err too_short

-- the slice `out` afterwards: the output, and later bytes as they were
unfoldable pub out_after : List ℕ → List ℕ → List ℕ → List ℕ
out_after bs ws out = if roomy bs out then overlay (session_text bs ws) out else out

-- the table's words afterwards
unfoldable pub words_after : List ℕ → List ℕ → List ℕ → List ℕ
words_after bs ws out = if roomy bs out then session_words bs ws else ws

-- the bytes written are there
abbrev pub Within : Result ℕ TooShort → List ℕ → Type 0
Within (Ok k) out = (k ≤ length out) × (k ≡ length (take k out))
Within (Err e) out = Unit {0}
