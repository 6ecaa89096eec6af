-- `member_length` meets its contract. Assumes nothing.
use mathlib.Core.Path.{◌≡◌}
use native.Mathlib.Omega.{arith}
use Rattle.laws.specs.Bytes.{field_size}
use Rattle.fields.proofs.member_length.Goals as goal

pub overflow_sub-result : goal.overflow_sub-result
overflow_sub-result c =
    let field : c.field_size.result ≡ field_size c.args.r = c.field_size.ensures c.args.r c.record_size.ensures in
    omega (arith, field)

pub returns : goal.returns
returns c =
    let field : c.field_size.result ≡ field_size c.args.r = c.field_size.ensures c.args.r c.record_size.ensures in
    omega (arith, field)
