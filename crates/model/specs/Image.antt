-- Document 01, "Starting, saving, and the rest": the image of a table, in tagged fields, and the field due at a position.
use Rattle.std.specs.Prelude.{ℕ, zero, suc, ◌+◌, ◌-◌, ◌*◌, ◌/◌, ◌%◌, Bool, ◌&&◌, List, [], ◌∷◌, ◌++◌, ltb, leb, eqb, length, get_or, take, drop, if◌then◌else◌}
use Rattle.std.proofs.Math.Option.{Option, some, none}
use Rattle.model.specs.Lists.{option, same}
use Rattle.model.specs.Table.{Member, Table, formed}
use Rattle.model.specs.Answer.{Answer, accepted, declined}

-- n in k bytes, high byte first
abbrev pub bytes_of : ℕ → ℕ → List ℕ
bytes_of zero n = []
bytes_of (suc k) n = bytes_of k (n / 256) ++ (n % 256 ∷ [])

-- the number that bytes say, high byte first, after those that said a
abbrev pub number_from : ℕ → List ℕ → ℕ
number_from a [] = a
number_from a (b ∷ bs) = number_from (a * 256 + b) bs

-- the number in the k bytes at a position
abbrev pub number_at : List ℕ → ℕ → ℕ → ℕ
number_at bs at k = number_from 0 (take k (drop at bs))

-- a field: one-byte tag, two-byte length, contents
abbrev pub field : ℕ → List ℕ → List ℕ
field tag bs = tag ∷ (bytes_of 2 (length bs) ++ bs)

-- numbers of four bytes each
abbrev pub words4 : List ℕ → List ℕ
words4 [] = []
words4 (x ∷ l) = bytes_of 4 x ++ words4 l

-- tag 1: r (one byte), member count (two), and a step count (four) that is 0 always
abbrev pub header_contents : ℕ → ℕ → List ℕ
header_contents r n = bytes_of 1 r ++ (bytes_of 2 n ++ bytes_of 4 0)

abbrev pub header_field : Table → List ℕ
header_field T = field 1 (header_contents T.r (length T.members))

-- tag 2: identifier, predecessor, pending (one byte), candidate, list, step count
abbrev pub member_contents : Member → List ℕ
member_contents m = words4 (m.id ∷ m.predecessor ∷ []) ++ (bytes_of 1 m.pending ++ words4 (m.candidate ∷ (m.successors ++ (m.steps ∷ []))))

abbrev pub member_field : Member → List ℕ
member_field m = field 2 (member_contents m)

-- one tag 2 field a member, in order
abbrev pub member_fields : List Member → List ℕ
member_fields [] = []
member_fields (m ∷ ms) = member_field m ++ member_fields ms

-- the writing of a table; tag 3, with no contents, ends it
abbrev pub image_of : Table → List ℕ
image_of T = header_field T ++ (member_fields T.members ++ field 3 [])

-- the bytes before a field's contents, and of the tag 1 field
abbrev pub field_head : ℕ
field_head = 3

abbrev pub header_length : ℕ
header_length = 7

-- the contents' length of a tag 2 field
abbrev pub member_length : ℕ → ℕ
member_length r = 17 + 4 * r

-- n numbers of four bytes
abbrev pub numbers_at : ℕ → List ℕ → List ℕ
numbers_at zero bs = []
numbers_at (suc n) bs = number_at bs 0 4 ∷ numbers_at n (drop 4 bs)

-- the member that the contents of a tag 2 field say
abbrev pub field_member : ℕ → List ℕ → Member
field_member r bs = record { id = number_at bs 0 4; predecessor = number_at bs 4 4; pending = number_at bs 8 1; candidate = number_at bs 9 4; successors = numbers_at r (drop 13 bs); steps = number_at (drop 13 bs) (4 * r) 4 }

-- the members that n tag 2 fields say, one after the other
abbrev pub field_members : ℕ → ℕ → List ℕ → List Member
field_members r zero bs = []
field_members r (suc n) bs = field_member r (drop field_head bs) ∷ field_members r n (drop (field_head + member_length r) bs)

-- r and the member count that the tag 1 field at position 0 says
abbrev pub image_r : List ℕ → ℕ
image_r bs = number_at bs 3 1

abbrev pub image_count : List ℕ → ℕ
image_count bs = number_at bs 4 2

-- the table that bytes say, wherever they are an image
abbrev pub table_in : List ℕ → Table
table_in bs = record { r = image_r bs; members = field_members (image_r bs) (image_count bs) (drop (field_head + header_length) bs) }

-- bytes are an image: the writing of a well-formed table
unfoldable pub is_image : List ℕ → Bool
is_image bs = formed (table_in bs) && same (image_of (table_in bs)) bs

-- a field that is due: its tag and the length of its contents
pub record Due : Type 0 where
  pub tag : ℕ
  pub length : ℕ

-- a field of this tag and length stands whole at a position
unfoldable pub field_stands : List ℕ → ℕ → Due → Bool
field_stands bs at d = leb (at + field_head + d.length) (length bs) && eqb (get_or bs at 0) d.tag && eqb (number_at bs (at + 1) 2) d.length

-- tag 1 is due at position 0
abbrev pub header_due : Due
header_due = record { tag = 1; length = header_length }

-- the field due so many bytes after the tag 1 field of an image with n members and lists of length r
unfoldable pub due_after : ℕ → ℕ → ℕ → Option Due
due_after r n o =
    if eqb o (n * (field_head + member_length r))
    then some (record { tag = 3; length = 0 })
    else if ltb o (n * (field_head + member_length r)) && eqb (o % (field_head + member_length r)) 0
    then some (record { tag = 2; length = member_length r })
    else none

-- the field due at a position: tag 1 at 0; then, where that stands, what its r and its member count say
unfoldable pub due : List ℕ → ℕ → Option Due
due bs at =
    if eqb at 0
    then some header_due
    else if leb (field_head + header_length) at && field_stands bs 0 header_due
    then due_after (image_r bs) (image_count bs) (at - (field_head + header_length))
    else none

-- the answer of a field: its tag, where its contents start and how long they are, and the position after it
abbrev pub field_answer : ℕ → Due → Answer
field_answer at d = accepted (d.tag ∷ (at + field_head) ∷ d.length ∷ (at + field_head + d.length) ∷ [])

-- the answer where a field is due at a position: that of the field, or 9 where it does not stand
abbrev pub field_reply : List ℕ → ℕ → Due → Answer
field_reply bs at d = if field_stands bs at d then field_answer at d else declined 9

-- the field at a position, or 9
unfoldable pub field_at : List ℕ → ℕ → Answer
field_at bs at = option (due bs at) (declined 9) (λ d. field_reply bs at d)
