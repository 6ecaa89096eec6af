-- `run_line` meets its contract. A readable line has five bytes at least, so that its answer has room. Assumes nothing.
use Prim.Native.Nat.{◌≤◌}
use mathlib.Core.Path.{◌≡◌, ap, ◌∙◌}
use native.Mathlib.Omega.{arith}
use lib.ListN.{length, take}
use Rattle.answers.specs.Packed.{unpacked, says_whole}
use Rattle.script.specs.Text.{answered}
use Rattle.script.specs.Session.{word_answer}
use Rattle.put.proofs.Writing.{wrote_same}
use Rattle.run_line.proofs.Short.{says_few, short_word}
use Rattle.run_line.proofs.Sizes.{answered_most, unread_most}
use Rattle.run_line.proofs.Readable.{Asked, asked_line, unread_line}
use Rattle.run_line.proofs.run_line.Goals.{In-Some, After-call-a}
use Rattle.run_line.proofs.run_line.Goals as goal

-- what the line asks
asked : (c : In-Some) → Asked c.args.n c.args.t.now c.args.l.now c.in-Some.w (take c.in-Some.k c.read.new.xs)
asked c = asked_line c.args.n c.args.t.now c.args.l.now c.in-Some.w (take c.in-Some.k c.read.new.xs) c.in-Some.ensures.0

-- what it is answered, and the most bytes that this takes
told : (c : After-call-a) → (unpacked c.call-a.result ≡ word_answer c.args.t.now c.in-Some.w (take c.in-Some.k c.read.new.xs))
    × (length (answered c.args.n c.in-Some.w (unpacked c.call-a.result)) ≤ 60)
told c =
    let a = word_answer c.args.t.now c.in-Some.w (take c.in-Some.k c.read.new.xs) in
    let whole : unpacked c.call-a.result ≡ a = says_whole c.call-a.result a c.call-a.ensures.0 in
    (whole, rw whole (answered_most c.args.n c.in-Some.w a c.requires.0 (short_word c.args.t.now c.in-Some.w (take c.in-Some.k c.read.new.xs))))

pub call-a-requires : goal.call-a-requires
call-a-requires c = (asked (goal.at.call-a-requires c).In-Some).own

pub answered-requires : goal.answered-requires
answered-requires c =
    let at = goal.at.answered-requires c in
    (says_few c.call-a.ensures.0, omega (arith, (asked at.In-Some).long, c.requires, (told at.After-call-a).1))

pub unread-requires : goal.unread-requires
unread-requires c = omega (arith, c.requires, unread_most c.args.n c.requires.0)

pub returns-in-Some : goal.returns-in-Some
returns-in-Some c =
    let at = goal.at.returns-in-Some c in
    let l = asked at.In-Some in
    let a = told at.After-call-a in
    (wrote_same (ap (answered c.args.n c.in-Some.w) a.0 ∙ l.text) c.answered.ensures, c.call-a.ensures.1 ∙ l.words, omega (arith, c.answered.ensures.place, l.long, a.1))

pub returns-in-None : goal.returns-in-None
returns-in-None c =
    let u = unread_line c.args.n c.args.t.now c.args.l.now c.in-None.ensures.0 in
    (wrote_same u.0 c.unread.ensures, u.1, omega (arith, c.unread.ensures.place, unread_most c.args.n c.requires.0))
