-- `count_ring` meets its contract. Assumes nothing.
use mathlib.Core.Path.{◌∙◌}
use borrow.Author.Rules.{rules}
use lib.Dec.{eqb}
use lib.ListN.{get_or}
use Rattle.model.specs.Table.{members_in}
use Rattle.model.specs.Ring.{on_ring}
use Rattle.table.proofs.Members.{ids_count}
use Rattle.places.proofs.Arrays.{each_counted, bit_one}
use Rattle.ring.specs.Far.{ring_bit}
use Rattle.ring.proofs.count_ring.Goals as goal

pub returns : goal.returns
returns c =
    let ws = c.args.t.now in
    let ms = members_in ws in
    (c.count_of.ensures.0 ∙ each_counted ms (ring_bit ms) (eqb 1) (on_ring ms) (get_or ws 1 0) _ (ids_count ws) c.ring_bits-on.ensures (λ x l. bit_one (on_ring ms x)), search rules)
