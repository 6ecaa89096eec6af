-- What is asked of the minute and of the number of words before a pass over the windows; how far ahead one is first open, and the lesser of two such distances.
use Rattle.std.specs.Prelude.{ℕ, ◌+◌, ◌-◌, ◌%◌, Bool, ◌&&◌, ltb, leb, eqb, if◌then◌else◌}
use Rattle.model.specs.Windows.{Window, week, in_window}

-- the minutes from m to the first one that the window holds: none where it holds m, else up to its start, going round
unfoldable pub ahead_of : ℕ → Window → ℕ
ahead_of m w = if in_window m w then 0 else (if leb m w.start then w.start - m else (w.start + week) - m)

-- the lesser of two distances
abbrev pub lesser_of : ℕ → ℕ → ℕ
lesser_of a b = if ltb b a then b else a

-- m is a minute of the week, and so many words are those of at most 16 windows, none of them without a partner
abbrev pub may_ask : ℕ → ℕ → Bool
may_ask n m = ltb m week && leb n 32 && eqb (n % 2) 0
