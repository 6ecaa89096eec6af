-- `fields` meets its contract, word by word. Assumes nothing.
use Rattle.std.proofs.Common.{◌≡◌, ◌++◌}
use Rattle.script.specs.Text.{numbers_text, fields_text}
use Rattle.put.proofs.Writing.{wrote_then, room_first, room_then, wrote_none, room_same, wrote_same}
use Rattle.told.proofs.Told.{no_fields, plain_fields}
use Rattle.told.proofs.fields.Goals.{in-Stab, in-Rect, Joined-w}
use Rattle.told.proofs.fields.Goals as goal

pub returns-in_default : goal.returns-in_default
returns-in_default c = wrote_same (no_fields c.args.w c.args.vs.now c.in_default.ensures.cases) (wrote_none c.args.out.now)

pub numbers-requires : goal.numbers-requires
numbers-requires c = room_same c.args.out.now (plain_fields c.args.w c.args.vs.now c.in_default-w.not-Stab c.in_default-w.not-Rect) c.requires

pub returns-in_default-w : goal.returns-in_default-w
returns-in_default-w c = wrote_same (plain_fields c.args.w c.args.vs.now c.in_default-w.not-Stab c.in_default-w.not-Rect) c.numbers.ensures

-- the word, and then the other values
worded : (c : Joined-w) → c.match-w.word.now ++ numbers_text c.in-Some.rest.now ≡ fields_text c.args.w c.args.vs.now
unfolding fields_text
worded c = elim c.match-w.branch [
  | in-Stab w ↦ rw (w.in-Stab.is, c.in-Some.ensures.cases.0, w.word-is, w.step-word.ensures)
  | in-Rect w ↦ rw (w.in-Rect.is, c.in-Some.ensures.cases.0, w.word-is, w.notice-word.ensures)
]

pub bytes-requires : goal.bytes-requires
bytes-requires c =
    room_first c.match-w.word.now (numbers_text c.in-Some.rest.now) c.args.out.now (room_same c.args.out.now (worded (goal.at.bytes-requires c).Joined-w) c.requires)

pub numbers-requires-2 : goal.numbers-requires-2
numbers-requires-2 c =
    room_then c.match-w.word.now (numbers_text c.in-Some.rest.now) c.args.out.now c.bytes.new.self (room_same c.args.out.now (worded (goal.at.numbers-requires-2 c).Joined-w) c.requires) c.bytes.ensures

pub returns : goal.returns
returns c = wrote_same (worded (goal.at.returns c).Joined-w) (wrote_then c.bytes.ensures c.numbers-2.ensures)
