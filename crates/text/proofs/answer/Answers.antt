-- `answer` meets its contract: `ok` and fields, or `no` and numbers, by the test. Assumes nothing.
use Rattle.put.proofs.Writing.{room_same, wrote_same}
use Rattle.text.proofs.Answers.{answer_ok, answer_no}
use Rattle.text.proofs.answer.Goals as goal

pub ok-requires : goal.ok-requires
ok-requires c = room_same c.args.out.now (answer_ok c.args.w c.args.a c.if-a-eq0.true) c.requires.1

pub returns-then-a-eq0 : goal.returns-then-a-eq0
returns-then-a-eq0 c = wrote_same (answer_ok c.args.w c.args.a c.if-a-eq0.true) c.ok.ensures

pub no-requires : goal.no-requires
no-requires c = room_same c.args.out.now (answer_no c.args.w c.args.a c.if-a-eq0.false) c.requires.1

pub returns-else-a-eq0 : goal.returns-else-a-eq0
returns-else-a-eq0 c = wrote_same (answer_no c.args.w c.args.a c.if-a-eq0.false) c.no.ensures
