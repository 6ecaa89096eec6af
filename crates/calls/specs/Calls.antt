-- The call of the model that a `Call` of the code is, and where a list of them may start for demand 3.
use Rattle.std.specs.Prelude.{ℕ, ◌≡◌, true, List, map}
use Rattle.model.specs.Table.{table_of, well_formed}
use Rattle.model.specs.Ring.{sound}
use Rattle.model.specs.Run.{Call as CallOf, Join as JoinOf, Leave as LeaveOf, Fail as FailOf, Stabilize as StabilizeOf, Rectify as RectifyOf, Lookup as LookupOf, Audit as AuditOf, granted}
use Rattle.calls.specs.declared.Call.{Call}
use Rattle.calls.specs.declared.Call.TheVariants.{Join, Leave, Fail, Stabilize, Rectify, Lookup, Audit}

abbrev pub call_of : Call → CallOf
call_of (Join j p) = JoinOf j p
call_of (Leave n) = LeaveOf n
call_of (Fail n) = FailOf n
call_of (Stabilize n) = StabilizeOf n
call_of (Rectify n q) = RectifyOf n q
call_of (Lookup n k) = LookupOf n k
call_of Audit = AuditOf

-- a sound table, and each accepted loss one that a withdrawal would have been granted. That the calls' numbers are identifiers need not be said: they
-- are `u32`
pub record MayStart (cs : List Call) (ws : List ℕ) : Type 0 where
  pub is_well_formed : well_formed ws ≡ true
  pub is_sound : sound (table_of ws) ≡ true
  pub grants : granted (map call_of cs) ws ≡ true
