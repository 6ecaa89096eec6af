-- What the answer of a reader says of the image: where the reader stands afterwards, and the part that is the contents of a field.
use Rattle.std.specs.Prelude.{ℕ, ◌+◌, List, [], leb, length, get_or, take, drop, Option, Some, None, if◌then◌else◌}
use Rattle.model.specs.Answer.{Answer, accepted, declined}
use Rattle.model.specs.Image.{field_at}
use Rattle.answers.specs.Field.{values_of}
use Rattle.answers.specs.declared.field.Field.{Field}
use Rattle.reader.specs.declared.Reader.{Reader}

-- a field's answer has four values: tag, start and length of its contents, next position. A declined one has none

-- the answer that a field is, or that none is
abbrev pub told : Option Field → Answer
told (Some f) = accepted (values_of f)
told None = declined 9

-- where a reader stands after an answer at a position: at the field's next position, or where it was
abbrev pub next_of : Answer → ℕ → ℕ
next_of a at = get_or a.values 3 at

-- the part of a list that starts at a place and has a size, where it lies within the list; else the empty part
abbrev pub part_of : ℕ → ℕ → List ℕ → List ℕ
part_of start size bs = if leb (start + size) (length bs) then take size (drop start bs) else []

-- the part of an image that is the contents of the field of an answer; of a declined one, the empty part
abbrev pub contents_of : Answer → List ℕ → List ℕ
contents_of a bs = part_of (get_or a.values 1 0) (get_or a.values 2 0) bs

-- the reader after one call: it holds the same image, past the field at its position; where none is due or it does not stand, at that position
abbrev pub advanced : Reader → Reader
advanced r = record { image = r.image; at = next_of (field_at r.image.now r.at) r.at }
