-- `is_image` meets its contract. What it does not test holds of any bytes. Assumes nothing.
use mathlib.Core.Bool.{◌&&◌}
use mathlib.Core.Path.{◌≡◌, sym, ap₂, ◌∙◌}
use native.Mathlib.Omega.{arith}
use lib.ListN.{drop}
use Rattle.model.specs.Image.{header_length, image_r, image_count, is_image}
use Rattle.laws.specs.Parts.{part_from}
use Rattle.fields.specs.Fields.{first_size, image_size, head_is}
use Rattle.image_test.proofs.IsImage.{is_image_law, wrong_length, r_low, r_high, many, counting, right_head, wrong_head}
use Rattle.image_test.specs.Tests.{fields_right}
use Rattle.image_test.proofs.is_image.Goals as goal

pub returns-then-bs-lt-MEMBERS : goal.returns-then-bs-lt-MEMBERS
returns-then-bs-lt-MEMBERS c = sym (wrong_length c.args.bs.now (λ e. omega arith))

pub returns-then-r-lt1 : goal.returns-then-r-lt1
returns-then-r-lt1 c = sym (r_low _ (rw (← c.image_r-r.ensures.0) c.if-r-lt1.true))

pub returns-then-r-gt8 : goal.returns-then-r-gt8
returns-then-r-gt8 c = sym (r_high _ (rw (← c.image_r-r.ensures.0) c.if-r-gt8.true))

pub returns-then-n-gt256 : goal.returns-then-n-gt256
returns-then-n-gt256 c = sym (many _ (rw (← c.image_count-n.ensures.0) c.if-n-gt256.true))

pub returns-then-image_steps-ne0 : goal.returns-then-image_steps-ne0
returns-then-image_steps-ne0 c = sym (counting _ (rw (← c.image_steps.ensures) c.if-image_steps-ne0.true))

pub returns-then-head_is : goal.returns-then-head_is
returns-then-head_is c =
    let is-size : let bs = c.args.bs.now in c.image_size-size.result ≡ image_size (image_r bs) (image_count bs) = c.image_size-size.ensures.0 ∙ ap₂ image_size c.image_r-r.ensures.0 c.image_count-n.ensures.0 in
    let left : let bs = c.args.bs.now in is_image bs ≡ (head_is bs 1 header_length && fields_right (image_r bs) 0 (image_count bs) (drop first_size bs)) = (
    let bytes = c.shared_slice_known-1.given in
    is_image_law c.args.bs.now (λ i. omega (arith, bytes i)) (rw (← c.image_r-r.ensures.0) c.if-r-lt1.false)
    (rw (← c.image_r-r.ensures.0) c.if-r-gt8.false) (rw (← c.image_count-n.ensures.0) c.if-n-gt256.false)
    (sym c.image_steps.ensures ∙ c.if-image_steps-ne0.false) (c.if-bs-size.true ∙ is-size)) in
    c.fields_ok.ensures ∙ rw (part_from, c.image_count-n.ensures.0, c.image_r-r.ensures.0)
    (right_head _ _ left (sym c.head_is.ensures ∙ c.if-head_is.true))

pub returns-else-head_is : goal.returns-else-head_is
returns-else-head_is c =
    let is-size : let bs = c.args.bs.now in c.image_size-size.result ≡ image_size (image_r bs) (image_count bs) = c.image_size-size.ensures.0 ∙ ap₂ image_size c.image_r-r.ensures.0 c.image_count-n.ensures.0 in
    let left : let bs = c.args.bs.now in is_image bs ≡ (head_is bs 1 header_length && fields_right (image_r bs) 0 (image_count bs) (drop first_size bs)) = (
    let bytes = c.shared_slice_known-1.given in
    is_image_law c.args.bs.now (λ i. omega (arith, bytes i)) (rw (← c.image_r-r.ensures.0) c.if-r-lt1.false)
    (rw (← c.image_r-r.ensures.0) c.if-r-gt8.false) (rw (← c.image_count-n.ensures.0) c.if-n-gt256.false)
    (sym c.image_steps.ensures ∙ c.if-image_steps-ne0.false) (c.if-bs-size.true ∙ is-size)) in
    wrong_head _ _ left (sym c.head_is.ensures ∙ c.if-head_is.false)

pub returns-else-bs-size : goal.returns-else-bs-size
returns-else-bs-size c =
    let is-size : let bs = c.args.bs.now in c.image_size-size.result ≡ image_size (image_r bs) (image_count bs) = c.image_size-size.ensures.0 ∙ ap₂ image_size c.image_r-r.ensures.0 c.image_count-n.ensures.0 in
    sym (wrong_length _ (λ e. c.if-bs-size.false (e ∙ sym is-size)))
