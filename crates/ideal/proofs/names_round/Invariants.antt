-- `names_round` meets its contract. The invariant: what is left of the list answers, from place j on, as the whole list does from place k on. Assumes nothing.
use Prim.Native.Nat.{◌<◌}
use mathlib.Core.Path.{◌≡◌}
use lib.ListN.{length, get_or, drop}
use Rattle.model.specs.Lists.{same}
use Rattle.model.specs.Table.{members_in, ids}
use Rattle.model.specs.Ring.{next_ups}
use Rattle.ideal.proofs.names_round.Given as goal

abbrev pub invariant-loop-x : goal.invariant-loop-x
invariant-loop-x l = (l.j < get_or l.t 1 0) × (same (drop l.x-index l.l) (next_ups (length (drop l.x-index l.l)) (ids (members_in l.t)) (get_or (ids (members_in l.t)) l.j 0))
    ≡ same l.l (next_ups (length l.l) (ids (members_in l.t)) (get_or (ids (members_in l.t)) l.k 0)))
