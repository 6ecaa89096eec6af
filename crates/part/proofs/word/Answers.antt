-- `word` meets its contract: a part is looked for among the words of its length. Assumes nothing.
use Rattle.std.proofs.Common.{rules, tests, [], ◌∷◌, ◌∙◌, sym, ap}
use Rattle.std.specs.Str.{bytes_eq}
use Rattle.std.proofs.lemmas.Iterator.{YieldsList-from_slice}
use Rattle.std.proofs.lemmas.Iterator.Adapters.{option_map_id}
use Rattle.std.proofs.lemmas.Iterator.Consumers.{YieldsList-from_copied}
use Rattle.std.proofs.lemmas.Iterator.Search.{find_from_yields_List}
use Rattle.script.specs.Lines.{letters, word_of}
use Rattle.script.specs.declared.Word.TheVariants.{New, Join, Stab, Rect, Out, Drop, Find, Audit}
use Rattle.part.specs.Part.{maybe_word}
use Rattle.part.proofs.Words.{word_found, of_its_length}
use Rattle.part.proofs.word.Goals as goal

pub returns : goal.returns
unfolding word_of
returns c =
    let p = c.args.p.now in
    let ws = c.words_of_length.result.now in
    let found = find_from_yields_List (λ w. bytes_eq p (letters w)) _ _ c.find.result c.find.ensures.ran (YieldsList-from_copied (YieldsList-from_slice ws cc)) (λ x b q k. search (rules, tests)) in
    sym (option_map_id c.find.result) ∙ found ∙ word_found p ws ∙ rw c.words_of_length.ensures (ap maybe_word (of_its_length p (New ∷ Join ∷ Stab ∷ Rect ∷ Out ∷ Drop ∷ Find ∷ Audit ∷ [])))
