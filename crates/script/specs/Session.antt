-- Document 01, "The rehearsal program": a session, from input bytes and a table's words to output bytes and the words afterwards.
use Rattle.std.specs.Prelude.{ℕ, suc, List, [], ◌∷◌, ◌++◌, get_or, drop}
use Rattle.std.proofs.Math.Option.{Option, some, none}
use Rattle.model.specs.Lists.{option}
use Rattle.model.specs.Answer.{Answer}
use Rattle.model.specs.Calls.{new_answer, new_words}
use Rattle.model.specs.Run.{Call as CallOf, Join as JoinOf, Leave as LeaveOf, Fail as FailOf, Stabilize as StabilizeOf, Rectify as RectifyOf, Lookup as LookupOf, Audit as AuditOf, call_answer, call_words}
use Rattle.script.specs.declared.Word.{Word}
use Rattle.script.specs.declared.Word.TheVariants.{New, Join, Stab, Rect, Out, Drop, Find, Audit}
use Rattle.script.specs.Lines.{Meaning, Unreadable, Asks, counted, lines, meaning}
use Rattle.script.specs.Text.{answered, unread}

-- the call that a word with its numbers is; `new` is none of the seven
abbrev pub call_named : Word → List ℕ → Option CallOf
call_named New ns = none
call_named Join ns = some (JoinOf (get_or ns 0 0) (get_or ns 1 0))
call_named Stab ns = some (StabilizeOf (get_or ns 0 0))
call_named Rect ns = some (RectifyOf (get_or ns 0 0) (get_or ns 1 0))
call_named Out ns = some (LeaveOf (get_or ns 0 0))
call_named Drop ns = some (FailOf (get_or ns 0 0))
call_named Find ns = some (LookupOf (get_or ns 0 0) (get_or ns 1 0))
call_named Audit ns = some AuditOf

-- what a word with its numbers answers on the words ws of a table
unfoldable pub word_answer : List ℕ → Word → List ℕ → Answer
word_answer ws w ns = option (call_named w ns) (new_answer ws (get_or ns 0 0) (drop 1 ns)) (λ c. call_answer ws c)

-- the words afterwards
unfoldable pub word_words : List ℕ → Word → List ℕ → List ℕ
word_words ws w ns = option (call_named w ns) (new_words ws (get_or ns 0 0) (drop 1 ns)) (λ c. call_words ws c)

-- the line that is printed for line n
unfoldable pub line_text : ℕ → List ℕ → Meaning → List ℕ
line_text n ws Unreadable = unread n
line_text n ws (Asks w ns) = answered n w (word_answer ws w ns)

-- the words after a line
unfoldable pub line_words : List ℕ → Meaning → List ℕ
line_words ws Unreadable = ws
line_words ws (Asks w ns) = word_words ws w ns

-- what is printed for some lines, the first of which is line n
abbrev pub text_from : ℕ → List ℕ → List (List ℕ) → List ℕ
text_from n ws [] = []
text_from n ws (l ∷ ls) = line_text n ws (meaning l) ++ text_from (suc n) (line_words ws (meaning l)) ls

-- the words after some lines
abbrev pub words_from : List ℕ → List (List ℕ) → List ℕ
words_from ws [] = ws
words_from ws (l ∷ ls) = words_from (line_words ws (meaning l)) ls

-- the output of a session
unfoldable pub session_text : List ℕ → List ℕ → List ℕ
session_text bs ws = text_from 1 ws (lines (counted bs))

-- the words after a session
unfoldable pub session_words : List ℕ → List ℕ → List ℕ
session_words bs ws = words_from ws (lines (counted bs))
