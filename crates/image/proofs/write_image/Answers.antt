-- `write_image` meets its contract: the first field, the members' fields and the last one. Assumes nothing.
use native.Mathlib.Omega.{arith}
use lib.ListN.{length-drop}
use Rattle.image.proofs.Whole.{header_bytes_law, image_written}
use borrow.Author.Rules.{rules}
use Rattle.image.proofs.write_image.Goals as goal

pub write_fields-end-requires : goal.write_fields-end-requires
write_fields-end-requires c = (search rules, rw (c.records_of.ensures, length-drop) (search rules), search rules)

pub returns : goal.returns
returns c =
    let a = c.args in (
      search rules,
      image_written a.t.now c.requires.formed_words.right c.write_fields-end.result _ a.out.now c.put_header.new.out
          c.write_fields-end.new.out _ (header_bytes_law a.t.now c.requires.formed_words.right) (omega arith) (omega arith) c.put_header.ensures
          (rw c.records_of.ensures at c.write_fields-end.ensures.1) c.put_head.ensures,
    )
