-- Document 01, "The rehearsal program": the lines of the input, and what a line asks.
use Rattle.std.specs.Prelude.{ℕ, ◌+◌, ◌*◌, ◌-◌, Bool, ◌&&◌, List, [], ◌∷◌, map, leb, eqb, length, take, if◌then◌else◌}
use Rattle.std.proofs.Math.Option.{Option, some, none}
use Rattle.model.specs.Lists.{every, same}
use Rattle.script.specs.declared.Word.{Word}
use Rattle.script.specs.declared.Word.TheVariants.{New, Join, Stab, Rect, Out, Drop, Find, Audit}

-- the bytes of the input that count: the first 65,536
abbrev pub counted : List ℕ → List ℕ
counted bs = take 65536 bs

-- a byte before the first of some strings, or as a string where there is none
abbrev pub on_first : ℕ → List (List ℕ) → List (List ℕ)
on_first b [] = (b ∷ []) ∷ []
on_first b (s ∷ ss) = (b ∷ s) ∷ ss

-- the strings that a byte c parts or ends; e is what stands after the last byte
abbrev pub split : ℕ → List (List ℕ) → List ℕ → List (List ℕ)
split c e [] = e
split c e (b ∷ l) = if eqb b c then [] ∷ split c e l else on_first b (split c e l)

-- the lines: each ends with a line feed, which the last may lack; nothing stands after the last byte
abbrev pub lines : List ℕ → List (List ℕ)
lines bs = split 10 [] bs

-- the parts of a line, parted by single spaces; after the last byte the last part ends
abbrev pub parts : List ℕ → List (List ℕ)
parts l = split 32 ([] ∷ []) l

abbrev pub is_digit : ℕ → Bool
is_digit b = leb 48 b && leb b 57

-- the base-ten number of some digits after those that make v
abbrev pub value_from : ℕ → List ℕ → ℕ
value_from v [] = v
value_from v (b ∷ l) = value_from (v * 10 + (b - 48)) l

abbrev pub value : List ℕ → ℕ
value p = value_from 0 p

-- a number: 1 to 10 digits, and at most 4294967295
unfoldable pub is_number : List ℕ → Bool
is_number p = leb 1 (length p) && leb (length p) 10 && every is_digit p && leb (value p) 4294967295

-- the bytes of a word
abbrev pub letters : Word → List ℕ
letters New = 110 ∷ 101 ∷ 119 ∷ []
letters Join = 106 ∷ 111 ∷ 105 ∷ 110 ∷ []
letters Stab = 115 ∷ 116 ∷ 97 ∷ 98 ∷ []
letters Rect = 114 ∷ 101 ∷ 99 ∷ 116 ∷ []
letters Out = 111 ∷ 117 ∷ 116 ∷ []
letters Drop = 100 ∷ 114 ∷ 111 ∷ 112 ∷ []
letters Find = 102 ∷ 105 ∷ 110 ∷ 100 ∷ []
letters Audit = 97 ∷ 117 ∷ 100 ∷ 105 ∷ 116 ∷ []

-- the word among some that has the bytes p
abbrev pub word_among : List Word → List ℕ → Option Word
word_among [] p = none
word_among (w ∷ ws) p = if same p (letters w) then some w else word_among ws p

unfoldable pub word_of : List ℕ → Option Word
word_of p = word_among (New ∷ Join ∷ Stab ∷ Rect ∷ Out ∷ Drop ∷ Find ∷ Audit ∷ []) p

-- n numbers are those of the word: exactly its numbers, and r and any count of identifiers for `new`
abbrev pub takes : Word → ℕ → Bool
takes New n = leb 1 n
takes Join n = eqb n 2
takes Stab n = eqb n 1
takes Rect n = eqb n 2
takes Out n = eqb n 1
takes Drop n = eqb n 1
takes Find n = eqb n 2
takes Audit n = eqb n 0

-- what a line asks: a word with its numbers, or it is unreadable
pub data Meaning : Type 0 where
  Unreadable : Meaning
  Asks : (w : Word) (ns : List ℕ) → Meaning

-- a word with its numbers, where there is a word and they are its own
abbrev pub asks : Option Word → Option (List ℕ) → Meaning
asks none ns = Unreadable
asks (some w) none = Unreadable
asks (some w) (some ns) = if takes w (length ns) then Asks w ns else Unreadable

-- the numbers of some parts, where each is a number
unfoldable pub numbers_of : List (List ℕ) → Option (List ℕ)
numbers_of ps = if every is_number ps then some (map value ps) else none

abbrev pub meaning_of : List (List ℕ) → Meaning
meaning_of [] = Unreadable
meaning_of (p ∷ ps) = asks (word_of p) (numbers_of ps)

unfoldable pub meaning : List ℕ → Meaning
meaning l = meaning_of (parts l)
