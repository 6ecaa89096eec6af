-- Demand 3's claim for lists in which rounds and settles, with windows too, stand among the seven calls: the ring never splits.
use Rattle.std.specs.Prelude.{◌≡◌, true, List, ℕ, ltb}
use Rattle.model.specs.Lists.{every}
use Rattle.model.specs.Table.{space_of, table_of, well_formed}
use Rattle.model.specs.Ring.{sound}
use Rattle.model.specs.Service.{Service, identifiers_of, granted_all}

-- where such a list may start: as Claim's Starts says of the seven calls
pub record ServiceStarts (ss : List Service) (ws : List ℕ) : Type 0 where
  pub identifiers : every (λ s. every (λ x. ltb x (space_of (table_of ws))) (identifiers_of s)) ss ≡ true
  pub is_well_formed : well_formed ws ≡ true
  pub is_sound : sound (table_of ws) ≡ true
  pub grants : granted_all ss ws ≡ true
