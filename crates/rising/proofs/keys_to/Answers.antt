-- `keys_to` meets its contract. Assumes nothing.
use Rattle.std.proofs.Common.{leb, rules}
use Rattle.std.proofs.lemmas.List.Sorted.{IsPartitionPoint-from_clause}
use Rattle.laws.specs.Lists.{rising_true}
use Rattle.rising.proofs.Rising.{keys_parted, keys_end}
use Rattle.rising.proofs.keys_to.Goals as goal

pub returns : goal.returns
returns c =
    let up = rising_true c.args.ks.now c.requires in
    let point = IsPartitionPoint-from_clause (λ k. leb k c.args.x) _ _ c.partition_point.ensures.partitioned (keys_parted _ _ up) (λ a r q k. search rules) in
    keys_end _ _ up _ c.partition_point.ensures.bound point
