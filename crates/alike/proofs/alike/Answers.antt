-- `alike` meets its contract. Assumes nothing.
use Rattle.std.proofs.Common.{◌≡◌, sym, ap, ◌∙◌, Bool, true, false, refl, [], ◌∷◌}
use mathlib.Core.Bool.{and-false}
use Rattle.model.specs.Lists.{bit}
use Rattle.model.specs.Answer.{accepted}
use Rattle.model.specs.Refusals.{alike_refusal}
use Rattle.model.specs.Calls.{alike_answer}
use Rattle.answers.specs.YesNo.{values_of}
use Rattle.table.proofs.WellFormed.{formed_words}
use Rattle.alike.proofs.alike.Goals as goal
use Rattle.alike.proofs.alike.Goals.{then-not-well_formed-via-then-not-well_formed, then-not-well_formed-via-else-not-well_formed+then-not-well_formed-2}

pub returns-then-not-well_formed : goal.returns-then-not-well_formed
unfolding alike_answer alike_refusal
returns-then-not-well_formed c = elim c.then-not-well_formed.branch [
  | then-not-well_formed-via-then-not-well_formed w ↦ rw (sym c.well_formed-2.ensures ∙ w.if-not-well_formed.true)
  | then-not-well_formed-via-else-not-well_formed+then-not-well_formed-2 w ↦ rw (sym w.well_formed-else-not-well_formed.ensures ∙ w.if-not-well_formed-2.true, and-false)
]

pub tables_alike-requires-clause-formed_words : goal.tables_alike-requires-clause-formed_words
tables_alike-requires-clause-formed_words c = formed_words _ (sym c.well_formed-2.ensures ∙ c.if-not-well_formed.false)

pub tables_alike-requires-clause-formed_words_2 : goal.tables_alike-requires-clause-formed_words_2
tables_alike-requires-clause-formed_words_2 c = formed_words _ (sym c.well_formed-else-not-well_formed.ensures ∙ c.if-not-well_formed-2.false)

said : (b : Bool) → accepted (values_of b) ≡ accepted (bit b ∷ [])
said true = refl
said false = refl

pub returns : goal.returns
unfolding alike_answer alike_refusal
returns c = rw (sym c.well_formed-2.ensures ∙ c.if-not-well_formed.false, sym c.well_formed-else-not-well_formed.ensures ∙ c.if-not-well_formed-2.false)
    (said c.tables_alike.result ∙ ap (λ (b : Bool). accepted (bit b ∷ [])) c.tables_alike.ensures)
