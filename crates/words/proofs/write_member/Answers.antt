-- `write_member` meets its contract: four words, the entries in use, and the step count. Assumes nothing.
use Rattle.std.proofs.Common.{◌≡◌, arith, rules, ◌∙◌, sym, take_all, length}
use Rattle.words.proofs.Records.{record_written}
use Rattle.words.proofs.write_member.Goals as goal
use Rattle.words.proofs.write_member.Goals.{then-r-eq8, else-r-eq8}

pub returns : goal.returns
returns c =
    let m = c.args.m in
    let e : length m.successors ≡ 8 = search rules in
    elim c.if-r-eq8.branch [
      | then-r-eq8 w ↦ rw (w.part-is) (record_written m.id m.predecessor m.pending m.candidate m.steps c.args.part.now m.successors _ c.args.r 8 e c.requires (w.copy_from_slice.ensures.after ∙ sym (take_all c.args.r m.successors (omega (arith, w.if-r-eq8.true)))) (omega (arith, w.if-r-eq8.true)))
      | else-r-eq8 w ↦ rw (w.part-is) (record_written m.id m.predecessor m.pending m.candidate m.steps c.args.part.now m.successors _ c.args.r _ e c.requires w.copy_from_slice-else-r-eq8.ensures.after (omega arith))
    ]
