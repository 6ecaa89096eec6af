-- `best_of` meets its contract. Assumes nothing.
use mathlib.Core.Path.{◌≡◌, sym, ◌∙◌}
use mathlib.Core.List.{List}
use Prim.Native.Nat.{ℕ, ◌+◌, ◌-◌, ◌≤◌}
use native.Mathlib.Omega.{arith}
use borrow.Author.Rules.{rules}
use lib.ListN.{length, get_or, take, drop, length-take, length-drop}
use Rattle.model.specs.Table.{record_size, members_in}
use Rattle.model.specs.Ring.{nobody}
use Rattle.laws.specs.Searches.{passed_most}
use Rattle.table.proofs.Members.{list_at, record_fits}
use Rattle.best_successors.proofs.Laws.{first_guessed}
use Rattle.best_successors.proofs.best_of.Goals as goal

pub slice_bounds-l-end : goal.slice_bounds-l-end
slice_bounds-l-end c =
    let fits : c.offset-at.result + record_size (get_or c.args.t.now 0 0) ≤ length c.args.t.now = record_fits c.args.t.now c.args.k c.offset-at.result c.requires.k_bound c.offset-at.ensures.0 c.requires.formed_words in
    omega (arith, fits)

pub returns-then-id_at-l : goal.returns-then-id_at-l
returns-then-id_at-l c =
    let part = (let at : ℕ = c.offset-at.result + 4 in let t : List ℕ = c.args.t.now in take (at + get_or t 0 0 - at) (drop at t)) in
    let is-list : part ≡ (get_or (members_in c.args.t.now) c.args.k nobody).successors = list_at c.args.t.now c.args.k c.offset-at.result c.requires.k_bound c.offset-at.ensures.0 in
    let fits : c.offset-at.result + record_size (get_or c.args.t.now 0 0) ≤ length c.args.t.now = record_fits c.args.t.now c.args.k c.offset-at.result c.requires.k_bound c.offset-at.ensures.0 c.requires.formed_words in
    let sized : length part ≡ get_or c.args.t.now 0 0 = simp (length-take, length-drop) (omega (arith, fits)) in
    let w = first_guessed c.args.t.now c.requires.formed_words part c.place_after-next.result (omega (arith, sized, c.requires.formed_words.r_low))
    c.place_after-next.ensures (sym c.id_at.ensures ∙ c.if-id_at-l.true) in
    (rw (← is-list) w.0, rw (← is-list) w.1, search rules)

pub returns : goal.returns
returns c =
    let part = (let at : ℕ = c.offset-at.result + 4 in let t : List ℕ = c.args.t.now in take (at + get_or t 0 0 - at) (drop at t)) in
    let is-list : part ≡ (get_or (members_in c.args.t.now) c.args.k nobody).successors = list_at c.args.t.now c.args.k c.offset-at.result c.requires.k_bound c.offset-at.ensures.0 in
    let fits : c.offset-at.result + record_size (get_or c.args.t.now 0 0) ≤ length c.args.t.now = record_fits c.args.t.now c.args.k c.offset-at.result c.requires.k_bound c.offset-at.ensures.0 c.requires.formed_words in
    let sized : length part ≡ get_or c.args.t.now 0 0 = simp (length-take, length-drop) (omega (arith, fits)) in
    let t = c.args.t.now in
    let e = c.first_live.ensures in
    (rw (← is-list) e.0, rw (← is-list) e.1, omega (arith, e.1, passed_most (members_in t) part, sized))
