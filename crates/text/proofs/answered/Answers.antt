-- `answered` meets its contract: the four texts, one after the other. Assumes nothing.
use Prim.Native.Nat.{ℕ}
use mathlib.Core.List.{[], ◌∷◌, ◌++◌}
use Rattle.answers.specs.Packed.{unpacked}
use Rattle.model.specs.Answer.{Answer as AnswerOf}
use Rattle.script.specs.declared.Word.{Word}
use Rattle.script.specs.Text.{digits, answer_text, answered as answeredOf}
use Rattle.text.specs.Words.{word_text}
use Rattle.put.specs.Wrote.{Room, Wrote}
use Rattle.put.specs.declared.Output.{Output}
use Rattle.put.proofs.Writing.{wrote_then, room_first, room_then}
use Rattle.text.proofs.answered.Goals.{After-word}
use Rattle.text.proofs.answered.Goals as goal

-- the room that is left after the number
after_number : (n : ℕ) (w : Word) (a : AnswerOf) (o m : Output) → Room (answeredOf n w a) o → Wrote (digits n) o m → Room (word_text w ++ (answer_text w a ++ (10 ∷ []))) m
unfolding answeredOf
after_number n w a o m = room_then (digits n) (word_text w ++ (answer_text w a ++ (10 ∷ []))) o m

-- and after the word
after_word : (c : After-word) → Room (answer_text c.args.w (unpacked c.args.a) ++ (10 ∷ [])) c.word.new.out
after_word c =
    let h = after_number c.args.n c.args.w (unpacked c.args.a) c.args.out.now c.number.new.self c.requires.1 c.number.ensures in
    room_then (word_text c.args.w) (answer_text c.args.w (unpacked c.args.a) ++ (10 ∷ [])) c.number.new.self c.word.new.out h c.word.ensures

pub number-requires : goal.number-requires
unfolding answeredOf
number-requires c = room_first (digits c.args.n) (word_text c.args.w ++ (answer_text c.args.w (unpacked c.args.a) ++ (10 ∷ []))) c.args.out.now c.requires.1

pub word-requires : goal.word-requires
word-requires c =
    let h = after_number c.args.n c.args.w (unpacked c.args.a) c.args.out.now c.number.new.self c.requires.1 c.number.ensures in
    room_first (word_text c.args.w) (answer_text c.args.w (unpacked c.args.a) ++ (10 ∷ [])) c.number.new.self h

pub answer-requires : goal.answer-requires
answer-requires c = (c.requires.0, room_first (answer_text c.args.w (unpacked c.args.a)) (10 ∷ []) c.word.new.out (after_word (goal.at.answer-requires c).After-word))

pub bytes-requires : goal.bytes-requires
bytes-requires c = room_then (answer_text c.args.w (unpacked c.args.a)) (10 ∷ []) c.word.new.out c.answer.new.out (after_word (goal.at.bytes-requires c).After-word) c.answer.ensures

pub returns : goal.returns
unfolding answeredOf
returns c = wrote_then c.number.ensures (wrote_then c.word.ensures (wrote_then c.answer.ensures c.bytes.ensures))
