-- `is_rising` meets its contract. Assumes nothing.
use Rattle.std.proofs.Common.{ltb, rules}
use Rattle.std.proofs.lemmas.List.Sorted.{answers_always}
use Rattle.rising.proofs.Rising.{adjacent_rise}
use Rattle.rising.proofs.is_rising.Goals as goal

pub returns : goal.returns
returns c = adjacent_rise _ _ (c.is_sorted_by.ensures.cases ltb (answers_always _ _ _ (λ f a r g h. search rules)))
