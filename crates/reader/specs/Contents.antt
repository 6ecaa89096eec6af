-- What a reader hands out: the whole contents of the field that is due and stands at its position, or 9 and nothing; proved in proofs/Handing.antt.
use Rattle.std.specs.Prelude.{ℕ, ◌+◌, ◌≡◌, List, [], length, get_or, take, drop}
use Rattle.std.proofs.Math.Option.{some}
use Rattle.model.specs.Answer.{declined}
use Rattle.model.specs.Image.{Due, field_head, number_at, due, field_at}
use Rattle.reader.specs.Read.{next_of, contents_of}

-- at an accepted position
pub record Handed (bs : List ℕ) (at : ℕ) : Type 0 where
  -- the field that is due there
  pub field : Due
  pub is_due : due bs at ≡ some field
  -- the bytes there have its tag and its length
  pub tag : get_or bs at 0 ≡ field.tag
  pub size : number_at bs (at + 1) 2 ≡ field.length
  -- its contents are the bytes after its head, as many as its length says: never the empty part in their place
  pub contents : contents_of (field_at bs at) bs ≡ take field.length (drop (at + field_head) bs)
  pub whole : length (contents_of (field_at bs at) bs) ≡ field.length
  -- the next position is the one after them
  pub next : next_of (field_at bs at) at ≡ at + field_head + field.length

-- at a declined position: 9, the position stays, and there are no contents
pub record NotHanded (bs : List ℕ) (at : ℕ) : Type 0 where
  pub nine : field_at bs at ≡ declined 9
  pub stays : next_of (field_at bs at) at ≡ at
  pub empty : contents_of (field_at bs at) bs ≡ []

-- at every position of all bytes
pub record FieldContents (bs : List ℕ) (at : ℕ) : Type 0 where
  pub where_accepted : (field_at bs at).number ≡ 0 → Handed bs at
  pub where_declined : ((field_at bs at).number ≡ 0 → ⊥) → NotHanded bs at
