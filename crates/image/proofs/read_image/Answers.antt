-- `read_image` meets its contract: the header and the records. Assumes nothing.
use Prim.Native.Nat.{ℕ, ◌*◌, ◌-◌, ◌≤◌}
use mathlib.Core.Path.{ap₂, ◌∙◌}
use mathlib.Core.List.{[], ◌∷◌}
use native.Mathlib.Omega.{arith}
use lib.ListN.{length, drop, length-set, length-drop}
use lib.Seq.{sets}
use Rattle.model.specs.Table.{header_size, records_of}
use Rattle.model.specs.Image.{image_r, image_count, field_members}
use Rattle.laws.specs.Bytes.{field_size}
use Rattle.laws.specs.Parts.{part_from}
use Rattle.fields.specs.Fields.{first_size}
use Rattle.octets.specs.Placed.{placed}
use Rattle.image.proofs.Whole.{header_read, table_read}
use Rattle.image.proofs.read_image.Goals as goal

pub bounds-t-1 : goal.bounds-t-1
bounds-t-1 c = simp length-set (omega arith)

pub bounds-t-2 : goal.bounds-t-2
bounds-t-2 c = simp length-set (omega arith)

pub read_fields-requires : goal.read_fields-requires
read_fields-requires c =
    let bs = c.args.image.now in
    let r = c.image_r-r.ensures.0 in
    let n = c.image_count-n.ensures.0 in
    let l : image_count bs * field_size (image_r bs) ≤ length bs - first_size = omega arith in
    (omega (arith, r), rw (part_from, length-drop, n, r) l, rw (length-set, length-set, length-set, n, r) c.requires.2)

pub shape_of-t : goal.shape_of-t
shape_of-t c = c.t-1.given ∙ simp length-set

pub returns : goal.returns
returns c =
    let a = c.args in
    let r = c.image_r-r.ensures.0 in
    let n = c.image_count-n.ensures.0 in
    let records = ap₂ (λ (i j : ℕ). placed header_size (records_of (field_members i j (drop first_size a.image.now)))
    (sets a.t.now 0 (c.image_r-r.result ∷ c.image_count-n.result ∷ 0 ∷ []))) r n in
    table_read a.image.now a.t.now _ _ (header_read a.image.now _ _ r n) (omega arith)
    ((rw part_from at c.read_fields.ensures) ∙ records)
