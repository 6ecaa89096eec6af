-- `put_header` meets its contract. Assumes nothing.
use Rattle.fields.proofs.Fields.{header_placed}
use Rattle.fields.proofs.put_header.Goals as goal

pub returns : goal.returns
returns c =
    let a = c.args in
    header_placed a.r a.n a.out.now c.put_head.new.out c.put2.new.out _ c.requires c.put_head.ensures c.put2.ensures c.put4.ensures
