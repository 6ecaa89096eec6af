-- `write` meets its contract. Assumes nothing.
use mathlib.Core.Path.{sym, ◌∙◌}
use native.Mathlib.Omega.{arith}
use Rattle.table.proofs.WellFormed.{formed_words}
use Rattle.table.specs.FormedWords.{FormedWords}
use Rattle.image.proofs.Whole.{no_table, no_room, written}
use Rattle.image.proofs.write.Goals as goal

pub bounds-t-0 : goal.bounds-t-0
bounds-t-0 c =
    let known : FormedWords c.args.t.now = formed_words c.args.t.now (sym c.well_formed-2.ensures ∙ c.if-not-well_formed.false) in
    let f = known in omega arith

pub bounds-t-1 : goal.bounds-t-1
bounds-t-1 c =
    let known : FormedWords c.args.t.now = formed_words c.args.t.now (sym c.well_formed-2.ensures ∙ c.if-not-well_formed.false) in
    let f = known in omega arith

pub image_size-size-requires : goal.image_size-size-requires
image_size-size-requires c =
    let known : FormedWords c.args.t.now = formed_words c.args.t.now (sym c.well_formed-2.ensures ∙ c.if-not-well_formed.false) in
    let f = known in (omega arith, omega arith)

pub returns-then-out-size : goal.returns-then-out-size
returns-then-out-size c =
    let known : FormedWords c.args.t.now = formed_words c.args.t.now (sym c.well_formed-2.ensures ∙ c.if-not-well_formed.false) in
    no_room _ _ known.right (rw (← c.image_size-size.ensures.0) c.if-out-size.true)

pub write_image-requires : goal.write_image-requires
write_image-requires c =
    let known : FormedWords c.args.t.now = formed_words c.args.t.now (sym c.well_formed-2.ensures ∙ c.if-not-well_formed.false) in
    record { formed_words = known; t_in_bounds = rw (← c.image_size-size.ensures.0) c.if-out-size.false }

pub returns : goal.returns
returns c =
    let known : FormedWords c.args.t.now = formed_words c.args.t.now (sym c.well_formed-2.ensures ∙ c.if-not-well_formed.false) in
    written _ _ known.right c.write_image.result _ c.write_image.ensures.0 (rw (c.write_image.ensures.0 ∙ sym c.image_size-size.ensures.0) c.if-out-size.false)
    c.write_image.ensures.1

pub returns-then-not-well_formed : goal.returns-then-not-well_formed
returns-then-not-well_formed c = no_table _ _ (sym c.well_formed-2.ensures ∙ c.if-not-well_formed.true)
