-- `judged` meets its contract: each exit is a cause of the list, behind those before it, or the two places. Assumes nothing.
use Prim.Native.Nat.{ℕ}
use mathlib.Core.Path.{◌≡◌, refl, sym, ap, ◌∙◌}
use mathlib.Core.Bool.{Bool, true, false, not}
use mathlib.Core.List.{List}
use Rattle.std.proofs.Common.{Result, Ok}
use Rattle.std.specs.Result.{is_err}
use Rattle.model.specs.Identifier.{between}
use Rattle.model.specs.Table.{members_in, well_formed}
use Rattle.model.specs.Ring.{live, nobody}
use Rattle.member.specs.declared.Member.{Member}
use Rattle.member.specs.View.{view}
use lib.ListN.{get_or}
use Rattle.table.specs.FormedWords.{FormedWords}
use Rattle.table.specs.Located.{Stands, located}
use Rattle.table.proofs.WellFormed.{formed_words}
use Rattle.table.proofs.Place.{present, missing, here, located_dead}
use Rattle.join.proofs.Laws.{Head, first_entry, no_table, already_member, by_nobody, not_between, head_dead, no_room, none_applies}
use Rattle.join.proofs.judged.Goals as goal

-- what is known where p stands at k: its first entry h, and whether j lies before it, as was asked
module _ (ws : List ℕ) (j p k : ℕ) (m : Member) (good : well_formed ws ≡ true) (found : Ok k ≡ located ws p) (read : view (get_or ws 0 0) m ≡ get_or (members_in ws) k nobody) where
  stands : Stands ws k p
  stands = here ws p k (formed_words ws good) found

  first : get_or m.successors 0 0 ≡ Head ws j p
  first = first_entry m (formed_words ws good) stands read

  asked : (b : Bool) → b ≡ between p j (get_or m.successors 0 0) → b ≡ between p j (Head ws j p)
  asked b e = e ∙ ap (between p j) first

  looked_up : (b : Bool) (r : Result ℕ ℕ) → b ≡ is_err r → r ≡ located ws (get_or m.successors 0 0) → not b ≡ live (members_in ws) (Head ws j p)
  looked_up b r e l = ap not (e ∙ (ap is_err l ∙ located_dead ws (get_or m.successors 0 0))) ∙ (twice _ ∙ ap (live (members_in ws)) first)
    where
      twice : (x : Bool) → not (not x) ≡ x
      twice true = refl
      twice false = refl

pub returns-then-not-well_formed : goal.returns-then-not-well_formed
returns-then-not-well_formed c = no_table c.args.t.now c.args.j c.args.p (sym c.well_formed-2.ensures ∙ c.if-not-well_formed.true)

pub locate-requires : goal.locate-requires
locate-requires c = formed_words _ (sym c.well_formed-2.ensures ∙ c.if-not-well_formed.false)

pub returns-in_default : goal.returns-in_default
returns-in_default c =
    let a = c.args in
    already_member a.t.now a.j a.p (sym c.well_formed-2.ensures ∙ c.if-not-well_formed.false) (present a.t.now a.j _ (sym c.in_default.is ∙ c.locate.ensures)).0

pub locate-requires-2 : goal.locate-requires-2
locate-requires-2 c = formed_words _ (sym c.well_formed-2.ensures ∙ c.if-not-well_formed.false)

pub returns-in_default-locate : goal.returns-in_default-locate
returns-in_default-locate c =
    let a = c.args in
    by_nobody a.t.now a.j a.p (sym c.well_formed-2.ensures ∙ c.if-not-well_formed.false) (missing a.t.now a.j _ (sym c.in-Err.is ∙ c.locate.ensures)).0
    (missing a.t.now a.p _ (sym c.in_default-locate.is ∙ c.locate-2.ensures)).0

pub member_at-m-requires : goal.member_at-m-requires
member_at-m-requires c =
    let a = c.args in
    let f = formed_words _ (sym c.well_formed-2.ensures ∙ c.if-not-well_formed.false) in
    record { formed_words = f; k_bound = (here a.t.now a.p _ f (sym c.in-Ok.is ∙ c.locate-2.ensures)).within }

pub returns-then-not-between : goal.returns-then-not-between
returns-then-not-between c =
    let a = c.args in
    let good = sym c.well_formed-2.ensures ∙ c.if-not-well_formed.false in
    let found = sym c.in-Ok.is ∙ c.locate-2.ensures in
    not_between a.t.now a.j a.p good (missing a.t.now a.j _ (sym c.in-Err.is ∙ c.locate.ensures)).0 (present a.t.now a.p _ found).0
    (sym (asked a.t.now a.j a.p _ _ good found c.member_at-m.ensures _ c.between.ensures) ∙ c.if-not-between.true)

pub locate-requires-3 : goal.locate-requires-3
locate-requires-3 c = formed_words _ (sym c.well_formed-2.ensures ∙ c.if-not-well_formed.false)

pub returns-then-is_err : goal.returns-then-is_err
returns-then-is_err c =
    let a = c.args in
    let good = sym c.well_formed-2.ensures ∙ c.if-not-well_formed.false in
    let found = sym c.in-Ok.is ∙ c.locate-2.ensures in
    head_dead a.t.now a.j a.p good (missing a.t.now a.j _ (sym c.in-Err.is ∙ c.locate.ensures)).0 (present a.t.now a.p _ found).0
    (sym (asked a.t.now a.j a.p _ _ good found c.member_at-m.ensures _ c.between.ensures) ∙ c.if-not-between.false)
    (sym (looked_up a.t.now a.j a.p _ _ good found c.member_at-m.ensures _ _ c.is_err.ensures.value c.locate-3.ensures) ∙ ap not c.if-is_err.true)

pub is_full-requires : goal.is_full-requires
is_full-requires c = formed_words _ (sym c.well_formed-2.ensures ∙ c.if-not-well_formed.false)

pub returns-then-is_full : goal.returns-then-is_full
returns-then-is_full c =
    let a = c.args in
    let good = sym c.well_formed-2.ensures ∙ c.if-not-well_formed.false in
    let found = sym c.in-Ok.is ∙ c.locate-2.ensures in
    no_room a.t.now a.j a.p good (missing a.t.now a.j _ (sym c.in-Err.is ∙ c.locate.ensures)).0 (present a.t.now a.p _ found).0
    (sym (asked a.t.now a.j a.p _ _ good found c.member_at-m.ensures _ c.between.ensures) ∙ c.if-not-between.false)
    (sym (looked_up a.t.now a.j a.p _ _ good found c.member_at-m.ensures _ _ c.is_err.ensures.value c.locate-3.ensures) ∙ ap not c.if-is_err.false)
    (sym c.is_full.ensures ∙ c.if-is_full.true)

pub returns : goal.returns
returns c =
    let a = c.args in
    let good = sym c.well_formed-2.ensures ∙ c.if-not-well_formed.false in
    let found = sym c.in-Ok.is ∙ c.locate-2.ensures in
    let fresh = missing a.t.now a.j _ (sym c.in-Err.is ∙ c.locate.ensures) in
    let by = present a.t.now a.p _ found in (
      none_applies a.t.now a.j a.p good fresh.0 by.0
          (sym (asked a.t.now a.j a.p _ _ good found c.member_at-m.ensures _ c.between.ensures) ∙ c.if-not-between.false)
          (sym (looked_up a.t.now a.j a.p _ _ good found c.member_at-m.ensures _ _ c.is_err.ensures.value c.locate-3.ensures) ∙ ap not c.if-is_err.false)
          (sym c.is_full.ensures ∙ c.if-is_full.false),
      rw (← fresh.1, ← by.1),
    )
