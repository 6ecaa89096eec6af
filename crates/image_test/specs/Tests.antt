-- What `is_image` tests of the fields after the first. Document 01 asks more, which holds of any bytes.
use Rattle.std.specs.Prelude.{ℕ, zero, suc, ◌+◌, Bool, ◌&&◌, List, leb, drop}
use Rattle.model.specs.Image.{member_length}
use Rattle.laws.specs.Bytes.{field_size}
use Rattle.table.specs.Tests.{right_pending}
use Rattle.fields.specs.Fields.{head_is, id_in, pending_in, candidate_in}

-- the field at the front is a member's, with an identifier of at least lo, and right in what is pending
unfoldable pub field_right : ℕ → ℕ → List ℕ → Bool
field_right r lo bs = head_is bs 2 (member_length r) && leb lo (id_in bs) && right_pending (pending_in bs) (candidate_in bs)

-- n members' fields, by rising identifier from lo on, and the last field
abbrev pub fields_right : ℕ → ℕ → ℕ → List ℕ → Bool
fields_right r lo zero bs = head_is bs 3 0
fields_right r lo (suc n) bs = field_right r lo bs && fields_right r (id_in bs + 1) n (drop (field_size r) bs)
