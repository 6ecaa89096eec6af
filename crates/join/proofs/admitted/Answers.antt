-- `admitted` meets its contract: the joiner is inserted at its place. Assumes nothing.
use mathlib.Core.Path.{◌≡◌, sym, ap, ◌∙◌}
use Prim.Native.Nat.{ℕ}
use mathlib.Core.List.{List}
use native.Mathlib.Omega.{arith}
use lib.ListN.{get_or, drop}
use Rattle.model.specs.Table.{Member, header_size, members_in, table_of, ids}
use Rattle.model.specs.Ring.{live}
use Rattle.model.specs.Steps.{inserted, joined, with_members}
use Rattle.model.specs.Calls.{written}
use Rattle.laws.specs.Accepted.{has_room}
use Rattle.laws.specs.Words.{members_length}
use Rattle.table.specs.Rank.{rank}
use Rattle.table.proofs.Members.{size_words}
use Rattle.join.proofs.admitted.Goals as goal

pub insert_at-requires : goal.insert_at-requires
insert_at-requires c =
    let ws = c.args.t.now in
    let n = members_length (get_or ws 0 0) (get_or ws 1 0) (drop header_size ws) in
    let room = has_room ws c.requires.may.room in record {
      formed_words = c.requires.table;
      t_bound = (omega arith, omega (arith, size_words ws, c.requires.table.fits));
      id_value = (
        ap (λ (m : Member). live (members_in ws) m.id) c.joiner-m.ensures ∙ c.requires.may.new,
        c.requires.place ∙ sym (ap (λ (m : Member). rank (ids (members_in ws)) m.id) c.joiner-m.ensures),
      );
    }

pub returns : goal.returns
returns c =
    let left : let a = c.args in c.insert_at.new.t ≡ written (joined a.j a.p (table_of a.t.now)) a.t.now = (
    let ws = c.args.t.now in
    c.insert_at.ensures ∙ ap (λ (m : Member). written (with_members (inserted m (members_in ws)) (table_of ws)) ws) c.joiner-m.ensures) in
    (ap (λ (l : List ℕ). get_or l 1 0) left, left)
