-- `image_size` meets its contract: its numbers stay small. Assumes nothing.
use native.Mathlib.Omega.{arith}
use Rattle.fields.proofs.Fields.{most_bytes}
use Rattle.fields.proofs.image_size.Goals as goal

pub overflow_mul-result : goal.overflow_mul-result
overflow_mul-result c =
    let small = most_bytes c.args.n c.args.r c.field_size.result c.requires.1 c.requires.0 (c.field_size.ensures c.args.r c.record_size.ensures) in
    omega arith

pub overflow_add-result-2 : goal.overflow_add-result-2
overflow_add-result-2 c =
    let small = most_bytes c.args.n c.args.r c.field_size.result c.requires.1 c.requires.0 (c.field_size.ensures c.args.r c.record_size.ensures) in
    omega arith

pub returns : goal.returns
returns c =
    let small = most_bytes c.args.n c.args.r c.field_size.result c.requires.1 c.requires.0 (c.field_size.ensures c.args.r c.record_size.ensures) in
    omega arith
