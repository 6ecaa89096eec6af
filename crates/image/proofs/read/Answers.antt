-- `read` meets its contract. Assumes nothing.
use Prim.Native.Nat.{ℕ, ◌+◌, ◌*◌}
use mathlib.Core.Bool.{true}
use mathlib.Core.Path.{◌≡◌, sym, ap₂, ◌∙◌}
use native.Mathlib.Omega.{arith}
use Rattle.model.specs.Image.{image_r, image_count, is_image}
use Rattle.model.specs.Table.{header_size, record_size}
use Rattle.image.proofs.Whole.{Sizes, image_sizes, no_image, no_words, read}
use Rattle.image.proofs.read.Goals as goal

pub image_count-n-requires : goal.image_count-n-requires
image_count-n-requires c =
    let judged : is_image c.args.image.now ≡ true = sym c.is_image.ensures ∙ c.if-not-is_image.false in
    let known : Sizes c.args.image.now = image_sizes c.args.image.now judged in
    let f = known in omega arith

pub image_r-requires : goal.image_r-requires
image_r-requires c =
    let judged : is_image c.args.image.now ≡ true = sym c.is_image.ensures ∙ c.if-not-is_image.false in
    let known : Sizes c.args.image.now = image_sizes c.args.image.now judged in
    let f = known in omega arith

pub offset-requires : goal.offset-requires
offset-requires c =
    let judged : is_image c.args.image.now ≡ true = sym c.is_image.ensures ∙ c.if-not-is_image.false in
    let known : Sizes c.args.image.now = image_sizes c.args.image.now judged in
    let f = known in
    (rw c.image_r.ensures.0 f.r_high, rw c.image_count-n.ensures.0 f.few)

pub returns-then-t-offset : goal.returns-then-t-offset
returns-then-t-offset c =
    let judged : is_image c.args.image.now ≡ true = sym c.is_image.ensures ∙ c.if-not-is_image.false in
    let is-size : let bs = c.args.image.now in c.offset.result ≡ header_size + image_count bs * record_size (image_r bs) = c.offset.ensures.0 ∙ ap₂ (λ (n r : ℕ). header_size + n * record_size r) c.image_count-n.ensures.0 c.image_r.ensures.0 in
    no_words _ _ judged (rw (← is-size) c.if-t-offset.true)

pub read_image-requires : goal.read_image-requires
read_image-requires c =
    let judged : is_image c.args.image.now ≡ true = sym c.is_image.ensures ∙ c.if-not-is_image.false in
    let known : Sizes c.args.image.now = image_sizes c.args.image.now judged in
    let is-size : let bs = c.args.image.now in c.offset.result ≡ header_size + image_count bs * record_size (image_r bs) = c.offset.ensures.0 ∙ ap₂ (λ (n r : ℕ). header_size + n * record_size r) c.image_count-n.ensures.0 c.image_r.ensures.0 in
    let f = known in (f.r_high, omega arith, rw (← is-size) c.if-t-offset.false)

pub returns : goal.returns
returns c =
    let judged : is_image c.args.image.now ≡ true = sym c.is_image.ensures ∙ c.if-not-is_image.false in
    let is-size : let bs = c.args.image.now in c.offset.result ≡ header_size + image_count bs * record_size (image_r bs) = c.offset.ensures.0 ∙ ap₂ (λ (n r : ℕ). header_size + n * record_size r) c.image_count-n.ensures.0 c.image_r.ensures.0 in
    read _ _ judged c.image_count-n.result _ c.image_count-n.ensures.0 (rw (← is-size) c.if-t-offset.false) c.read_image.ensures

pub returns-then-not-is_image : goal.returns-then-not-is_image
returns-then-not-is_image c = no_image _ _ (sym c.is_image.ensures ∙ c.if-not-is_image.true)
