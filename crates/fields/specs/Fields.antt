-- The size of an image, the head of a field, and what the first field and a member's say.
use Rattle.std.specs.Prelude.{ℕ, ◌+◌, ◌*◌, Bool, ◌&&◌, List, eqb, get_or, drop}
use Rattle.model.specs.Image.{number_at, field, header_contents, field_head, header_length, field_member}
use Rattle.laws.specs.Bytes.{field_size}

-- the bytes of the first field: after them the members' start
abbrev pub first_size : ℕ
first_size = field_head + header_length

-- the bytes of an image with n members and lists of length r: the first field, the last, and one a member
abbrev pub image_size : ℕ → ℕ → ℕ
image_size r n = first_size + field_head + n * field_size r

-- a field of this tag and length begins at the front
abbrev pub head_is : List ℕ → ℕ → ℕ → Bool
head_is bs tag len = eqb (get_or bs 0 0) tag && eqb (number_at bs 1 2) len

-- the first field of an image: r, member count, step count 0
abbrev pub header_bytes : ℕ → ℕ → List ℕ
header_bytes r n = field 1 (header_contents r n)

-- the step count that it says
abbrev pub image_steps : List ℕ → ℕ
image_steps bs = number_at bs 6 4

-- identifier, pending and candidate that the member's field at the front says: its list is no part of them
abbrev pub id_in : List ℕ → ℕ
id_in bs = (field_member 0 (drop field_head bs)).id

abbrev pub pending_in : List ℕ → ℕ
pending_in bs = (field_member 0 (drop field_head bs)).pending

abbrev pub candidate_in : List ℕ → ℕ
candidate_in bs = (field_member 0 (drop field_head bs)).candidate
