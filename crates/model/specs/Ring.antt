-- Document 01, "The table", second part: live, principal, sound, the ring, and the ideal table.
use Rattle.std.specs.Prelude.{ℕ, zero, suc, ◌+◌, Bool, false, not, ◌&&◌, ◌||◌, List, [], ◌∷◌, map, ltb, leb, eqb, length, get_or, if◌then◌else◌}
use Rattle.std.proofs.Math.Option.{Option, some, none}
use Rattle.model.specs.Lists.{option, every, any, count, sum, contains, last_of, same}
use Rattle.model.specs.Identifier.{between}
use Rattle.model.specs.Table.{Member, idle, Table, ids}

-- an identifier is live if it is a member's
abbrev pub live : List Member → ℕ → Bool
live ms x = contains (ids ms) x

-- no member: what stands for one where there is none
abbrev pub nobody : Member
nobody = idle 0 0 []

-- the member with the identifier x
abbrev pub named : List Member → ℕ → Member
named [] x = nobody
named (m ∷ ms) x = if eqb m.id x then m else named ms x

-- a member's successor: the first entry of its list
abbrev pub successor : Member → ℕ
successor m = get_or m.successors 0 0

-- some two neighbours (a, b) of the list a ∷ l have between(a, x, b)
abbrev pub skips : ℕ → ℕ → List ℕ → Bool
skips x a [] = false
skips x a (b ∷ l) = between a x b || skips x b l

-- the member x is a principal: no member's extended successor list, its identifier and then its list, skips it
abbrev pub principal : List Member → ℕ → Bool
principal ms x = every (λ m. not (skips x m.id m.successors)) ms

-- how many members are principals
abbrev pub principals : List Member → ℕ
principals ms = count (principal ms) (ids ms)

-- the member's list has a live entry
abbrev pub has_live : List Member → Member → Bool
has_live ms m = any (live ms) m.successors

-- the member has a pending candidate
abbrev pub is_pending : Member → Bool
is_pending m = eqb m.pending 1

-- a pending candidate c of a member n has between(n, c, first entry of n)
unfoldable pub candidate_inside : Member → Bool
candidate_inside m = not (is_pending m) || between m.id m.candidate (successor m)

-- a well-formed table is sound
unfoldable pub sound : Table → Bool
sound T =
    every (has_live T.members) T.members
    && leb (T.r + 1) (principals T.members)
    && every candidate_inside T.members

-- what a search for the first live entry of a list tells: the entry, if there is one, and how many entries it passed over (document 02, Req 06)
pub record Search : Type 0 where
  pub entry : Option ℕ
  pub passed : ℕ

-- one entry more passed over, before the others
abbrev pub past : Search → Search
past s = record { entry = s.entry; passed = suc s.passed }

-- the search, entry by entry; a list without a live entry is passed over whole
abbrev pub searched : List Member → List ℕ → Search
searched ms [] = record { entry = none; passed = 0 }
searched ms (x ∷ l) = if live ms x then record { entry = some x; passed = 0 } else past (searched ms l)

-- the first live entry of a list
abbrev pub first_live : List Member → List ℕ → Option ℕ
first_live ms l = (searched ms l).entry

-- a move: from x to its best successor, the first live entry of its list
abbrev pub best_successor : List Member → ℕ → Option ℕ
best_successor ms x = first_live ms (named ms x).successors

-- how many entries of the member's list the search for its best successor passes over
abbrev pub passed_by : List Member → Member → ℕ
passed_by ms m = (searched ms m.successors).passed

-- the same of all members, added up
abbrev pub passed_by_all : List Member → ℕ
passed_by_all ms = sum (map (passed_by ms) ms)

-- where k moves lead from x, if each of them can be made
abbrev pub moved : List Member → ℕ → ℕ → Option ℕ
moved ms zero x = some x
moved ms (suc k) x = option (best_successor ms x) none (λ y. moved ms k y)

-- one to n moves from x lead to z
abbrev pub reaches : List Member → ℕ → ℕ → ℕ → Bool
reaches ms zero z x = false
reaches ms (suc n) z x = option (best_successor ms x) false (λ y. eqb y z || reaches ms n z y)

-- x is on the ring: it comes back to itself by one or more moves; looking at as many as there are members misses none
-- (`ring_as_computed`: theory, Walks)
abbrev pub on_ring : List Member → ℕ → Bool
on_ring ms x = reaches ms (length ms) x x

-- how many members are on the ring
abbrev pub ring_members : List Member → ℕ
ring_members ms = count (on_ring ms) (ids ms)

-- the moves to the ring from x, after k of them and with n places left to look at; the member count if the walk never comes there.
-- With as many places as members the bound never ends a walk (`moves_told`: theory, Moves)
abbrev pub moves_from : List Member → ℕ → ℕ → ℕ → ℕ
moves_from ms zero k x = length ms
moves_from ms (suc n) k x = if on_ring ms x then k else option (best_successor ms x) (length ms) (λ y. moves_from ms n (suc k) y)

-- the moves to the ring from the member x: 0 on it
abbrev pub moves_to_ring : List Member → ℕ → ℕ
moves_to_ring ms x = moves_from ms (length ms) 0 x

-- the first of the rising identifiers that is above x, or d
abbrev pub first_above : ℕ → List ℕ → ℕ → ℕ
first_above x [] d = d
first_above x (y ∷ l) d = if ltb x y then y else first_above x l d

-- the last of the rising identifiers that is below x, or d
abbrev pub last_below : ℕ → List ℕ → ℕ → ℕ
last_below x [] d = d
last_below x (y ∷ l) d = if ltb y x then last_below x l y else d

-- of rising identifiers the next up from x, round the end
abbrev pub next_up : List ℕ → ℕ → ℕ
next_up xs x = first_above x xs (get_or xs 0 0)

-- of rising identifiers the next down from x, round the end
abbrev pub next_down : List ℕ → ℕ → ℕ
next_down xs x = last_below x xs (last_of xs)

-- of rising identifiers the next n up from x, in order, round the end; of n or fewer they repeat, and x itself is among them
abbrev pub next_ups : ℕ → List ℕ → ℕ → List ℕ
next_ups zero xs x = []
next_ups (suc n) xs x = next_up xs x ∷ next_ups n xs (next_up xs x)

-- a member's list is the next r members up, in order, and its predecessor the next member down (document 02, Req 04: the whole list)
unfoldable pub ideal_member : ℕ → List ℕ → Member → Bool
ideal_member r xs m = same m.successors (next_ups r xs m.id) && eqb m.predecessor (next_down xs m.id)

-- a table is ideal
unfoldable pub ideal : Table → Bool
ideal T = every (ideal_member T.r (ids T.members)) T.members

-- the audit's verdict: 0 not sound, 1 sound, 2 sound and ideal
unfoldable pub verdict : Table → ℕ
verdict T = if sound T then if ideal T then 2 else 1 else 0
