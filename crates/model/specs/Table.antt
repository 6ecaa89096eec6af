-- Document 01, "The table", first part: members, the words of a table, and when a table is well-formed.
use Rattle.std.specs.Prelude.{ℕ, zero, suc, ◌+◌, ◌*◌, ◌^◌, Bool, ◌&&◌, ◌||◌, List, [], ◌∷◌, ◌++◌, ltb, leb, eqb, length, get_or, take, drop}
use Rattle.model.specs.Lists.{every, rising}
use Rattle.model.specs.Identifier.{space}

-- the numbers below it fit a word of the table
abbrev pub word_limit : ℕ
word_limit = 2 ^ 32

-- one member, as its record has it; document 01's list is the successor list, steps the member's own step count (document 02, Req 07)
pub record Member : Type 0 where
  pub id : ℕ
  pub predecessor : ℕ
  pub pending : ℕ
  pub candidate : ℕ
  pub successors : List ℕ
  pub steps : ℕ

-- a member with nothing pending and no step counted: its identifier, its predecessor and its list
abbrev pub idle : ℕ → ℕ → List ℕ → Member
idle x p l = record { id = x; predecessor = p; pending = 0; candidate = 0; successors = l; steps = 0 }

-- a table: the length r of each successor list, and the members in the order of their records
pub record Table : Type 0 where
  pub r : ℕ
  pub members : List Member

-- the table of lists of r entries with these members
abbrev pub table_with : ℕ → List Member → Table
table_with r ms = record { r = r; members = ms }

-- the size of its identifier space
abbrev pub space_of : Table → ℕ
space_of T = space

-- how many words the header has
abbrev pub header_size : ℕ
header_size = 3

-- the words of one record: identifier, predecessor, pending, candidate, r entries, and the step count
abbrev pub record_size : ℕ → ℕ
record_size r = r + 5

-- the words that the header and the records take
abbrev pub size : Table → ℕ
size T = header_size + length T.members * record_size T.r

-- the member that a record's words say
abbrev pub member_of : ℕ → List ℕ → Member
member_of r ws = record { id = get_or ws 0 0; predecessor = get_or ws 1 0; pending = get_or ws 2 0; candidate = get_or ws 3 0; successors = take r (drop 4 ws); steps = get_or (drop 4 ws) r 0 }

-- the words of a member's record
abbrev pub record_of : Member → List ℕ
record_of m = m.id ∷ m.predecessor ∷ m.pending ∷ m.candidate ∷ (m.successors ++ (m.steps ∷ []))

-- the members that n records say, one after the other
abbrev pub members_of : ℕ → ℕ → List ℕ → List Member
members_of r zero ws = []
members_of r (suc n) ws = member_of r ws ∷ members_of r n (drop (record_size r) ws)

-- the words of the members' records
abbrev pub records_of : List Member → List ℕ
records_of [] = []
records_of (m ∷ ms) = record_of m ++ records_of ms

-- the table that a slice's words say
abbrev pub table_of : List ℕ → Table
table_of ws = record { r = get_or ws 0 0; members = members_of (get_or ws 0 0) (get_or ws 1 0) (drop header_size ws) }

-- the members of the table in a slice
abbrev pub members_in : List ℕ → List Member
members_in ws = (table_of ws).members

-- the words of a table's header: r, member count, and a step count that is 0 always
abbrev pub header_of : Table → List ℕ
header_of T = T.r ∷ length T.members ∷ 0 ∷ []

-- the words of a table
abbrev pub words_of : Table → List ℕ
words_of T = header_of T ++ records_of T.members

-- the members' identifiers, in order
abbrev pub ids : List Member → List ℕ
ids [] = []
ids (m ∷ ms) = m.id ∷ ids ms

-- a record is right: pending is 0 or 1, the candidate 0 where pending is 0, r entries, a step count of one word, and identifiers only
unfoldable pub formed_member : ℕ → ℕ → Member → Bool
formed_member w r m =
    leb m.pending 1
    && (eqb m.pending 1 || eqb m.candidate 0)
    && eqb (length m.successors) r
    && ltb m.steps word_limit
    && every (λ x. ltb x w) (m.id ∷ m.predecessor ∷ m.candidate ∷ m.successors)

-- a table is well-formed: r is 1 to 8, 0 to 256 members, records by rising identifier, each of them right
unfoldable pub formed : Table → Bool
formed T =
    leb 1 T.r && leb T.r 8
    && leb (length T.members) 256
    && rising (ids T.members)
    && every (formed_member (space_of T) T.r) T.members

-- a slice holds a well-formed table: it is no shorter than its header and its table, the header's step count is 0, and the table is well-formed
unfoldable pub well_formed : List ℕ → Bool
well_formed ws = leb header_size (length ws) && leb (size (table_of ws)) (length ws) && eqb (get_or ws 2 0) 0 && formed (table_of ws)
