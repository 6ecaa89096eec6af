-- `field_at` meets its contract: what is due there, test by test. Assumes nothing.
use Rattle.std.proofs.Common.{ℕ, sym, ap, ◌∙◌}
use Rattle.model.specs.Image.{member_length, field_reply}
use Rattle.due.proofs.Due.{known, first_due, early, cut_short, other_head, last_due, too_far, member_due, within}
use Rattle.due.proofs.field_at.Goals as goal
use Rattle.due.proofs.field_at.Goals.{then-all-o-via-then-all-o, then-all-o-via-else-all-o+then-not-starts}

pub returns-then-at-eq0 : goal.returns-then-at-eq0
returns-then-at-eq0 c = c.field_here.ensures ∙ first_due _ _ c.if-at-eq0.true

pub returns-then-at-lt-MEMBERS : goal.returns-then-at-lt-MEMBERS
returns-then-at-lt-MEMBERS c = early _ _ c.if-at-eq0.false c.if-at-lt-MEMBERS.true

pub returns-then-image-lt-MEMBERS : goal.returns-then-image-lt-MEMBERS
returns-then-image-lt-MEMBERS c = cut_short _ _ c.if-at-eq0.false c.if-at-lt-MEMBERS.false c.if-image-lt-MEMBERS.true

pub returns-then-not-head_is : goal.returns-then-not-head_is
returns-then-not-head_is c = other_head _ _ c.if-at-eq0.false c.if-at-lt-MEMBERS.false c.if-image-lt-MEMBERS.false (sym c.head_is.ensures ∙ c.if-not-head_is.true)

pub returns-then-o-all : goal.returns-then-o-all
returns-then-o-all c =
    let k = known c.if-at-eq0.false c.if-at-lt-MEMBERS.false c.if-image-lt-MEMBERS.false (sym c.head_is.ensures ∙ c.if-not-head_is.false) c.image_r-r.ensures.0 c.image_count.ensures.0 c.member_length-len.ensures in
    c.field_here-then-o-all.ensures ∙ last_due k c.if-o-all.true

pub returns-then-all-o : goal.returns-then-all-o
returns-then-all-o c =
    let k = known c.if-at-eq0.false c.if-at-lt-MEMBERS.false c.if-image-lt-MEMBERS.false (sym c.head_is.ensures ∙ c.if-not-head_is.false) c.image_r-r.ensures.0 c.image_count.ensures.0 c.member_length-len.ensures in
    elim c.then-all-o.branch [
      | then-all-o-via-then-all-o w ↦ too_far k w.if-all-o.true
      | then-all-o-via-else-all-o+then-not-starts w ↦ within k w.if-all-o.false c.if-o-all.false w.if-not-starts.true
    ]

pub returns : goal.returns
returns c =
    let a = c.args in
    let k = known c.if-at-eq0.false c.if-at-lt-MEMBERS.false c.if-image-lt-MEMBERS.false (sym c.head_is.ensures ∙ c.if-not-head_is.false) c.image_r-r.ensures.0 c.image_count.ensures.0 c.member_length-len.ensures in
    let size = c.member_length-len.ensures ∙ ap member_length c.image_r-r.ensures.0 in
    c.field_here-2.ensures ∙ ap (λ (n : ℕ). field_reply a.image.now a.at (record { tag = 2; length = n })) size
    ∙ member_due k c.if-all-o.false c.if-o-all.false c.if-not-starts.false
