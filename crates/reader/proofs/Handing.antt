-- What a reader hands out at every position of all bytes. Assumes nothing.
use Rattle.std.specs.Prelude.{ℕ, ◌+◌, ◌≤◌, ◌≡◌, refl, Bool, true, false, ◌&&◌, List, [], leb, length, get_or, take, drop, if◌then◌else◌}
use Rattle.std.proofs.Common.{ap, arith, length-drop, length-take-le}
use Rattle.std.proofs.Math.Option.{Option, some, none}
use Rattle.std.proofs.Math.Dec.{eqb}
use borrow.Author.Tests.{leb-true, le-leb, eqb-true}
use Rattle.model.specs.Answer.{declined}
use Rattle.model.specs.Image.{Due, field_head, number_at, due, field_stands, field_answer, field_at}
use Rattle.laws.specs.Lists.{and-true}
use Rattle.reader.specs.Read.{part_of, contents_of}
use Rattle.reader.specs.Contents.{Handed, NotHanded, FieldContents}

module _ (bs : List ℕ) (at : ℕ) where
  -- what `field_at` tests for a field that is due
  stands : (d : Due) → field_stands bs at d ≡ true → (at + field_head + d.length ≤ length bs) × (get_or bs at 0 ≡ d.tag) × (number_at bs (at + 1) 2 ≡ d.length)
  unfolding field_stands
  stands d h =
      let a = and-true (leb (at + field_head + d.length) (length bs) && eqb (get_or bs at 0) d.tag) _ h in
      let b = and-true (leb (at + field_head + d.length) (length bs)) _ a.0 in
      (leb-true _ _ b.0, eqb-true _ _ b.1, eqb-true _ _ a.1)

  -- so the part is within the bytes, and has its length
  part_is : (d : Due) → at + field_head + d.length ≤ length bs → part_of (at + field_head) d.length bs ≡ take d.length (drop (at + field_head) bs)
  part_is d h = ap (λ b. if b then take d.length (drop (at + field_head) bs) else []) (le-leb (at + field_head + d.length) (length bs) h)

  part_length : (d : Due) → at + field_head + d.length ≤ length bs → length (take d.length (drop (at + field_head) bs)) ≡ d.length
  part_length d h = length-take-le d.length (drop (at + field_head) bs) (omega (arith, length-drop (at + field_head) bs))

  handed : (d : Due) → due bs at ≡ some d → field_stands bs at d ≡ true → field_at bs at ≡ field_answer at d → Handed bs at
  handed d e t f =
      let s = stands d t in
      let c : contents_of (field_at bs at) bs ≡ take d.length (drop (at + field_head) bs) = rw f (part_is d s.0) in
      record { field = d; is_due = e; tag = s.1; size = s.2; contents = c; whole = rw c (part_length d s.0); next = rw f }

  not_handed : field_at bs at ≡ declined 9 → NotHanded bs at
  not_handed f = record { nine = f; stays = rw f; empty = rw (f, le-leb 0 (length bs) (omega arith)) }

  -- the three ways of `field_at`
  none_due : due bs at ≡ none → field_at bs at ≡ declined 9
  unfolding field_at
  none_due e = rw e

  one_due : (d : Due) (b : Bool) → due bs at ≡ some d → field_stands bs at d ≡ b → field_at bs at ≡ (if b then field_answer at d else declined 9)
  unfolding field_at
  one_due d b e s = rw (e, s)

  accepts : (d : Due) → due bs at ≡ some d → field_stands bs at d ≡ true → FieldContents bs at
  accepts d e s = let f = one_due d true e s in record { where_accepted = λ n. handed d e s f; where_declined = λ n. absurd (n (ap (λ a. a.number) f)) }

  declines : field_at bs at ≡ declined 9 → FieldContents bs at
  declines f = record { where_accepted = λ n. let nine : (field_at bs at).number ≡ 9 = ap (λ a. a.number) f in absurd (omega (arith, n, nine)); where_declined = λ n. not_handed f }

  tested : (d : Due) → due bs at ≡ some d → (b : Bool) → field_stands bs at d ≡ b → FieldContents bs at
  tested d e true s = accepts d e s
  tested d e false s = declines (one_due d false e s)

  by_due : (o : Option Due) → due bs at ≡ o → FieldContents bs at
  by_due none e = declines (none_due e)
  by_due (some d) e = tested d e (field_stands bs at d) refl

pub field_contents : (bs : List ℕ) (at : ℕ) → FieldContents bs at
field_contents bs at = by_due bs at (due bs at) refl
