-- `fill_bits` meets its contract. The loop's invariant: the numbers so far are right, `top` is the largest reach so far, and the reaches
-- from there on are as they were. Assumes nothing.
use mathlib.Core.Path.{◌≡◌}
use lib.ListN.{length}
use Rattle.model.specs.Table.{members_in}
use Rattle.places.specs.Each.{Each}
use Rattle.principal.specs.Marks.{principal_bit}
use Rattle.principal.proofs.Reaches.{Top, Unread}
use Rattle.principal.proofs.fill_bits.Given as goal

abbrev pub invariant-loop-k : goal.invariant-loop-k
invariant-loop-k l = (length l.a ≡ 256) × Top l.initial.a l.k l.top × Each (members_in l.t) (principal_bit (members_in l.t)) l.k l.a × Unread l.initial.a l.k l.a
