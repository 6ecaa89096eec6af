-- `tables_alike` meets its contract. Assumes nothing.
use mathlib.Core.Path.{sym, ◌∙◌}
use mathlib.Core.Bool.{and-false}
use borrow.Author.Tests.{ne_eqb}
use native.Mathlib.Omega.{arith}
use lib.ListN.{get_or, drop, length-drop}
use Rattle.model.specs.Table.{header_size, members_in}
use Rattle.model.specs.Alike.{alike}
use Rattle.laws.specs.Words.{members_length}
use Rattle.alike.proofs.Records.{counts_differ, records_decide}
use Rattle.alike.proofs.tables_alike.Goals as goal

pub returns-then-r-s : goal.returns-then-r-s
unfolding alike
returns-then-r-s c =
    let a = c.args in
    rw (ne_eqb (get_or a.us.now 0 0) (get_or a.vs.now 0 0) c.if-r-s.true)

pub returns-then-n-m : goal.returns-then-n-m
unfolding alike
returns-then-n-m c =
    let a = c.args in
    let us = a.us.now in
    let vs = a.vs.now in
    rw (counts_differ (members_in us) (members_in vs) (λ e. c.if-n-m.true (sym (members_length (get_or us 0 0) (get_or us 1 0) (drop header_size us)) ∙ e ∙ members_length (get_or vs 0 0) (get_or vs 1 0) (drop header_size vs))), and-false)

pub records_alike-requires : goal.records_alike-requires
records_alike-requires c = (
  c.requires.formed_words.r_high,
  rw (c.records_of.ensures, length-drop) (omega (arith, c.requires.formed_words.fits)),
  rw (c.records_of-2.ensures, length-drop, c.if-r-s.false, c.if-n-m.false) (omega (arith, c.requires.formed_words_2.fits)),
)

pub returns : goal.returns
returns c =
    let a = c.args in
    records_decide a.us.now a.vs.now _ c.if-r-s.false c.if-n-m.false (rw (c.records_of.ensures, c.records_of-2.ensures) at c.records_alike.ensures)
