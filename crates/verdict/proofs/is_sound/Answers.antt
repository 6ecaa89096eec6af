-- `is_sound` meets its contract: each exit is one case of sound. Assumes nothing.
use Prim.Native.Nat.{ℕ, ◌<◌}
use mathlib.Core.Path.{◌≡◌, sym, ap, ◌∙◌}
use mathlib.Core.Bool.{true}
use mathlib.Core.List.{List}
use native.Mathlib.Omega.{arith}
use lib.ListN.{get_or, length-drop}
use Rattle.model.specs.Lists.{every}
use Rattle.model.specs.Table.{members_of, members_in, table_of}
use Rattle.model.specs.Ring.{has_live, candidate_inside, principals}
use Rattle.laws.specs.Verdicts.{sound_inside, sound_few, sound_cut_off}
use Rattle.verdict.proofs.is_sound.Goals as goal

pub candidates_inside-requires : goal.candidates_inside-requires
candidates_inside-requires c = let f = c.requires.formed_words in (f.r_low, f.r_high, rw (c.records_of-s.ensures, length-drop) (omega (arith, f.fits)))

pub returns-then-r-count : goal.returns-then-r-count
returns-then-r-count c =
    let lively : let ms = members_in c.args.t.now in every (has_live ms) ms ≡ true = sym c.all_live.ensures ∙ c.if-all_live.true in
    let many : get_or c.args.t.now 0 0 < principals (members_in c.args.t.now) = rw c.requires.count_value at c.if-r-count.true in
    let ws = c.args.t.now in
    c.candidates_inside.ensures ∙ ap (λ (l : List ℕ). every candidate_inside (members_of (get_or ws 0 0) (get_or ws 1 0) l)) c.records_of-s.ensures
    ∙ sound_inside (table_of ws) lively many

pub returns-else-r-count : goal.returns-else-r-count
returns-else-r-count c = sound_few (table_of c.args.t.now) (rw c.requires.count_value at c.if-r-count.false)

pub returns-else-all_live : goal.returns-else-all_live
returns-else-all_live c = sound_cut_off _ (sym c.all_live.ensures ∙ c.if-all_live.false)
