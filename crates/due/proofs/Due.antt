-- `field_at`: which field is due at a position, test by test. Assumes nothing.
use Prim.Native.Nat.{ℕ, ◌+◌, ◌-◌, ◌*◌, ◌%◌, ◌≤◌, ◌<◌}
use mathlib.Core.Path.{◌≡◌, sym, ap, ◌∙◌}
use mathlib.Core.Bool.{Bool, true, false}
use mathlib.Core.List.{List}
use mathlib.Core.Option.{Option, some, none}
use native.Mathlib.Nat.{mul-le-mul, add-zero}
use native.Mathlib.Numerals.{lt_of_le_of_ne}
use native.Mathlib.Omega.{arith}
use lib.ListN.{length, take, drop}
use lib.Seq.{drop-drop, get_or-drop}
use Rattle.laws.specs.Parts.{part_from}
use borrow.Author.Tests.{lt-leb, le-leb, lt-ltb, le-ltb, eq-eqb, ne_eqb}
use Rattle.std.specs.Prelude.{if◌then◌else◌}
use Rattle.model.specs.Lists.{option}
use Rattle.model.specs.Answer.{declined}
use Rattle.model.specs.Image.{Due, field_head, header_length, header_due, member_length, image_r, image_count, field_stands, due_after, due, field_at, field_reply}
use Rattle.laws.specs.Bytes.{field_size}
use Rattle.fields.specs.Fields.{first_size, head_is}

-- as many fields as two bytes say, with lists as long as one byte says, are the most
pub most_due : (n r : ℕ) → n < 65536 → r < 256 → n * field_size r ≤ 65535 * field_size 255
most_due n r hn hr = let a : n ≤ 65535 = omega arith in let b : field_size r ≤ field_size 255 = omega arith in mul-le-mul a b

-- a field stands if its head does
pub stands : (bs : List ℕ) (at tag len : ℕ) (b : Bool) → at + field_head + len ≤ length bs → head_is (take (length bs - at) (drop at bs)) tag len ≡ b
    → field_stands bs at (record { tag = tag; length = len }) ≡ b
unfolding field_stands
stands bs at tag len b l e = rw (le-leb (at + field_head + len) (length bs) l, ← e, part_from at bs, get_or-drop, drop-drop, add-zero)

-- The field due after the first one

-- the first field stands, its r and its member count give the members' fields w bytes each and all together
pub record Behind (bs : List ℕ) (at all w : ℕ) : Type 0 where
  pub some_way : at ≡ 0 → ⊥
  pub past_first : first_size ≤ at
  pub whole : first_size ≤ length bs
  pub head : head_is bs 1 header_length ≡ true
  pub one : w ≡ field_size (image_r bs)
  pub together : all ≡ image_count bs * field_size (image_r bs)

-- that r, n and the first field's tests give this
pub known : {bs : List ℕ} {at r n l : ℕ} → (at ≡ 0 → ⊥) → first_size ≤ at → first_size ≤ length bs → head_is bs 1 header_length ≡ true → r ≡ image_r bs → n ≡ image_count bs → l ≡ member_length r
    → Behind bs at (n * (field_head + l)) (field_head + l)
known {bs} {at} {r} {n} {l} a p q h e f g =
    let w : field_head + l ≡ field_size (image_r bs) = rw (g, e) in
    record { some_way = a; past_first = p; whole = q; head = h; one = w; together = rw (w, f) }

module _ (r n o : ℕ) where
  after_last : o ≡ n * field_size r → due_after r n o ≡ some (record { tag = 3; length = 0 })
  unfolding due_after
  after_last e = rw (eq-eqb o (n * field_size r) e)

  after_all : n * field_size r < o → due_after r n o ≡ none
  unfolding due_after
  after_all h = rw (ne_eqb o (n * field_size r) (λ e. omega arith), le-ltb o (n * field_size r) (omega arith))

  module _ (h : o < n * field_size r) where
    after_members : o % field_size r ≡ 0 → due_after r n o ≡ some (record { tag = 2; length = member_length r })
    unfolding due_after
    after_members e = rw (ne_eqb o (n * field_size r) (λ e. omega arith), lt-ltb o (n * field_size r) h, eq-eqb (o % field_size r) 0 e)

    after_none : (o % field_size r ≡ 0 → ⊥) → due_after r n o ≡ none
    unfolding due_after
    after_none e = rw (ne_eqb o (n * field_size r) (λ e. omega arith), lt-ltb o (n * field_size r) h, ne_eqb (o % field_size r) 0 e)

-- In an image

module _ (bs : List ℕ) (at : ℕ) where
  pub first_due : at ≡ 0 → field_reply bs 0 header_due ≡ field_at bs at
  unfolding field_at due
  first_due e = rw e

  pub early : (at ≡ 0 → ⊥) → at < first_size → declined 9 ≡ field_at bs at
  unfolding field_at due
  early n h = rw (ne_eqb at 0 n, lt-leb first_size at h)

  pub cut_short : (at ≡ 0 → ⊥) → first_size ≤ at → length bs < first_size → declined 9 ≡ field_at bs at
  unfolding field_at due field_stands
  cut_short n h s = rw (ne_eqb at 0 n, le-leb first_size at h, lt-leb first_size (length bs) s)

  -- after the first field: what is due by its r and its member count
  module _ (n : at ≡ 0 → ⊥) (h : first_size ≤ at) (l : first_size ≤ length bs) where
    behind : (b : Bool) → head_is bs 1 header_length ≡ b → option (if b then due_after (image_r bs) (image_count bs) (at - first_size) else none) (declined 9) (field_reply bs at) ≡ field_at bs at
    unfolding field_at due field_stands
    behind b e = rw (ne_eqb at 0 n, le-leb first_size at h, le-leb first_size (length bs) l, ← e)

    pub other_head : head_is bs 1 header_length ≡ false → declined 9 ≡ field_at bs at
    other_head e = behind false e

module _ {bs : List ℕ} {at all w : ℕ} (k : Behind bs at all w) where
  by : (o : Option Due) → due_after (image_r bs) (image_count bs) (at - first_size) ≡ o → option o (declined 9) (field_reply bs at) ≡ field_at bs at
  by o p = ap (λ (x : Option Due). option x (declined 9) (field_reply bs at)) (sym p) ∙ behind bs at k.some_way k.past_first k.whole true k.head

  pub last_due : at - first_size ≡ all → field_reply bs at (record { tag = 3; length = 0 }) ≡ field_at bs at
  last_due d = by (some (record { tag = 3; length = 0 })) (after_last (image_r bs) (image_count bs) (at - first_size) (d ∙ k.together))

  pub too_far : all < at - first_size → declined 9 ≡ field_at bs at
  too_far d = by none (after_all (image_r bs) (image_count bs) (at - first_size) (omega arith))

  module _ (d : at - first_size ≤ all) (p : at - first_size ≡ all → ⊥) where
    at_most : at - first_size < image_count bs * field_size (image_r bs)
    at_most = omega (arith, lt_of_le_of_ne d p)

    pub member_due : (at - first_size) % w ≡ 0 → field_reply bs at (record { tag = 2; length = member_length (image_r bs) }) ≡ field_at bs at
    member_due z = by (some (record { tag = 2; length = member_length (image_r bs) })) (after_members (image_r bs) (image_count bs) (at - first_size) at_most (rw k.one at z))

    pub within : ((at - first_size) % w ≡ 0 → ⊥) → declined 9 ≡ field_at bs at
    within z = by none (after_none (image_r bs) (image_count bs) (at - first_size) at_most (rw k.one at z))
