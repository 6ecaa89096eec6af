-- `read_field` meets its contract: two words, pending and the other words. Assumes nothing.
use Rattle.std.proofs.Common.{arith}
use Rattle.laws.specs.Parts.{part_from}
use Rattle.fields.proofs.Fields.{record_placed}
use Rattle.fields.proofs.read_field.Goals as goal

pub returns : goal.returns
returns c =
    let a = c.args in
    record_placed a.at a.r a.bs.now a.t.now c.get_words.new.t _ (omega arith) (omega arith) (rw part_from at c.get_words.ensures)
    (rw (part_from, c.record_size.ensures, c.from.ensures) at c.get_words-2.ensures)
