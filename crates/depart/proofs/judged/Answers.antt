-- `judged` meets its contract: the copy holds the same table, then the table without the member at k, and the causes that are left are those of the copy.
-- Assumes nothing.
use Prim.Native.Nat.{ℕ, ◌<◌}
use mathlib.Core.Path.{◌≡◌, sym, ap, subst, ◌∙◌}
use mathlib.Core.Bool.{true}
use lib.ListN.{get_or}
use Rattle.model.specs.Table.{Table, table_of, members_in, ids}
use Rattle.model.specs.Ring.{live}
use Rattle.model.specs.Steps.{without}
use Rattle.table.specs.FormedWords.{FormedWords}
use Rattle.table.proofs.Place.{own_place, stands_live}
use Rattle.depart.proofs.Laws.{copied_table, copied_formed, copied_count, removed_facts, left_causes}
use Rattle.depart.proofs.judged.Goals as goal

pub remove_at-requires : goal.remove_at-requires
remove_at-requires c =
    let well : FormedWords c.copy_table.new.a = copied_formed c.args.t.now c.copy_table.new.a c.requires.formed_words c.copy_table.ensures.0 c.copy_table.ensures.1 in
    let within : c.args.k < get_or c.copy_table.new.a 1 0 = subst (λ (n : ℕ). c.args.k < n) (sym (copied_count c.args.t.now c.copy_table.new.a c.requires.formed_words c.copy_table.ensures.0)) c.requires.k_bound in
    record { formed_words = well; k_bound = within }

pub left-requires : goal.left-requires
left-requires c =
    let goer = (get_or (ids (members_in c.args.t.now)) c.args.k 0) in
    let same : table_of c.copy_table.new.a ≡ table_of c.args.t.now = copied_table c.args.t.now c.copy_table.new.a c.requires.formed_words c.copy_table.ensures.0 in
    let well : FormedWords c.copy_table.new.a = copied_formed c.args.t.now c.copy_table.new.a c.requires.formed_words c.copy_table.ensures.0 c.copy_table.ensures.1 in
    let within : c.args.k < get_or c.copy_table.new.a 1 0 = subst (λ (n : ℕ). c.args.k < n) (sym (copied_count c.args.t.now c.copy_table.new.a c.requires.formed_words c.copy_table.ensures.0)) c.requires.k_bound in
    let gone : FormedWords c.remove_at.new.t × (table_of c.remove_at.new.t ≡ without goer (table_of c.args.t.now)) = (
    let a = c.copy_table.new.a in
    let x = get_or (ids (members_in a)) c.args.k 0 in
    let k = removed_facts a x well (stands_live well (own_place a c.args.k within)) in
    rw c.remove_at.ensures (k.0, k.1 ∙ ap (λ (T : Table). without (get_or (ids T.members) c.args.k 0) T) same)) in
    gone.0

pub returns : goal.returns
returns c =
    let goer = (get_or (ids (members_in c.args.t.now)) c.args.k 0) in
    let present : live (members_in c.args.t.now) goer ≡ true = stands_live c.requires.formed_words (own_place c.args.t.now c.args.k c.requires.k_bound) in
    let same : table_of c.copy_table.new.a ≡ table_of c.args.t.now = copied_table c.args.t.now c.copy_table.new.a c.requires.formed_words c.copy_table.ensures.0 in
    let well : FormedWords c.copy_table.new.a = copied_formed c.args.t.now c.copy_table.new.a c.requires.formed_words c.copy_table.ensures.0 c.copy_table.ensures.1 in
    let within : c.args.k < get_or c.copy_table.new.a 1 0 = subst (λ (n : ℕ). c.args.k < n) (sym (copied_count c.args.t.now c.copy_table.new.a c.requires.formed_words c.copy_table.ensures.0)) c.requires.k_bound in
    let gone : FormedWords c.remove_at.new.t × (table_of c.remove_at.new.t ≡ without goer (table_of c.args.t.now)) = (
    let a = c.copy_table.new.a in
    let x = get_or (ids (members_in a)) c.args.k 0 in
    let k = removed_facts a x well (stands_live well (own_place a c.args.k within)) in
    rw c.remove_at.ensures (k.0, k.1 ∙ ap (λ (T : Table). without (get_or (ids T.members) c.args.k 0) T) same)) in
    rw (left_causes c.args.t.now c.remove_at.new.t goer c.requires.formed_words present gone.1) c.left.ensures
