-- `audit` meets its contract. Assumes nothing.
use mathlib.Core.Path.{sym, ◌∙◌}
use Rattle.std.proofs.Common.{ap}
use mathlib.Core.List.{List}
use Prim.Native.Nat.{ℕ}
use Rattle.model.specs.Answer.{accepted}
use Rattle.model.specs.Refusals.{audit_refusal}
use Rattle.model.specs.Calls.{audit_answer}
use Rattle.table.proofs.WellFormed.{formed_words}
use Rattle.audit.proofs.audit.Goals as goal

pub returns-then-not-well_formed : goal.returns-then-not-well_formed
unfolding audit_answer audit_refusal
returns-then-not-well_formed c = rw (sym c.well_formed-2.ensures ∙ c.if-not-well_formed.true)

pub audit_of-requires : goal.audit_of-requires
audit_of-requires c = formed_words _ (sym c.well_formed-2.ensures ∙ c.if-not-well_formed.false)

pub returns : goal.returns
unfolding audit_answer audit_refusal
returns c = ap accepted c.audit_of.ensures ∙ rw (sym c.well_formed-2.ensures ∙ c.if-not-well_formed.false)
