-- `begun_at` meets its contract: each exit is a cause of the list, or what is left is settle's. Assumes nothing.
use mathlib.Core.Path.{◌≡◌, sym, ◌∙◌}
use mathlib.Core.Bool.{true, false}
use borrow.Author.Tests.{not-true, not-false}
use Rattle.model.specs.Table.{well_formed}
use Rattle.model.specs.Refusals.{bad_windows, bad_minutes}
use Rattle.laws.specs.Accepted.{settle_at_left}
use Rattle.table.proofs.WellFormed.{formed_words}
use Rattle.settle.proofs.Laws.{no_table_at, bad_windows_law, bad_minutes_law, judged_formed}
use Rattle.settle.proofs.begun_at.Goals as goal

pub returns-then-not-well_formed : goal.returns-then-not-well_formed
returns-then-not-well_formed c = no_table_at _ _ _ (sym c.well_formed-2.ensures ∙ c.if-not-well_formed.true)

pub returns-then-not-are_windows : goal.returns-then-not-are_windows
returns-then-not-are_windows c =
    let formed : well_formed c.args.t.now ≡ true = sym c.well_formed-2.ensures ∙ c.if-not-well_formed.false in
    bad_windows_law _ _ _ formed (not-false _ (sym c.are_windows.ensures ∙ c.if-not-are_windows.true))

pub returns-then-not-are_minutes : goal.returns-then-not-are_minutes
returns-then-not-are_minutes c =
    let formed : well_formed c.args.t.now ≡ true = sym c.well_formed-2.ensures ∙ c.if-not-well_formed.false in
    let right_windows : bad_windows c.args.ws.now ≡ false = not-true _ (sym c.are_windows.ensures ∙ c.if-not-are_windows.false) in
    bad_minutes_law _ _ _ formed right_windows (not-false _ (sym c.are_minutes.ensures ∙ c.if-not-are_minutes.true))

pub passed_if_sound-requires : goal.passed_if_sound-requires
passed_if_sound-requires c =
    let formed : well_formed c.args.t.now ≡ true = sym c.well_formed-2.ensures ∙ c.if-not-well_formed.false in
    formed_words _ formed

pub returns : goal.returns
returns c =
    let right_windows : bad_windows c.args.ws.now ≡ false = not-true _ (sym c.are_windows.ensures ∙ c.if-not-are_windows.false) in
    let right-minutes : bad_minutes c.args.ts.now ≡ false = not-true _ (sym c.are_minutes.ensures ∙ c.if-not-are_minutes.false) in
    let a = c.args in
    let formed : well_formed a.t.now ≡ true = sym c.well_formed-2.ensures ∙ c.if-not-well_formed.false in
    rw (settle_at_left a.t.now a.ws.now a.ts.now right_windows right-minutes) (judged_formed a.t.now formed _ _ c.passed_if_sound.ensures c.ok_or.ensures.value)
