-- `write_field` meets its contract: head, two words, pending and the other words. Assumes nothing.
use Rattle.laws.specs.Parts.{part_from}
use Rattle.fields.proofs.Fields.{field_placed}
use Rattle.fields.proofs.write_field.Goals as goal

pub returns : goal.returns
returns c =
    let a = c.args in
    field_placed a.at a.r a.ws.now a.out.now c.put_head.new.out c.put_words.new.out _ c.requires.1 c.requires.2
    (rw c.member_length.ensures at c.put_head.ensures) c.put_words.ensures (rw part_from at c.put_words-2.ensures)
