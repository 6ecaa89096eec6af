-- `test_pairs` meets its contract. The loop's invariant: the reply of the lists left, after the pairs taken, is the whole reply. Assumes nothing.
use Rattle.std.proofs.Common.{◌≡◌, ◌*◌, ◌≤◌}
use Rattle.model.specs.Table.{members_in}
use Rattle.model.specs.Pairs.{principal_reply}
use Rattle.principal_test.proofs.Laws.{reply_from}
use Rattle.principal_test.proofs.test_pairs.Given as goal

abbrev pub invariant-loop-k : goal.invariant-loop-k
invariant-loop-k l = record {
  few : l.taken ≤ 8 * l.k;
  replied : reply_from l.t l.x l.taken l.k ≡ principal_reply (members_in l.t) l.x;
}
