-- Demand 3, proved: the calls keep the table sound, and what is claimed holds of every sound table.
use Rattle.std.specs.Prelude.{◌≡◌, true, List, ℕ}
use Rattle.model.specs.Table.{table_of, well_formed}
use Rattle.model.specs.Ring.{sound}
use Rattle.model.specs.Run.{Call, run}
use Rattle.theory.specs.Claim.{Demand3, Starts}
use Rattle.theory.specs.Runs.{run_good}
use Rattle.theory.proofs.Static.{holds}

pub kept : (cs : List Call) (ws : List ℕ) → Starts cs ws → (well_formed (run cs ws) ≡ true) × (sound (table_of (run cs ws)) ≡ true)
kept cs ws s = let g = run_good cs ws s in (g.is_well_formed, g.is_sound)

pub demand_3 : Demand3
demand_3 cs ws s = let k = kept cs ws s in holds (run cs ws) k.0 k.1
