-- One rectify step of the member v with a notice from q: it writes the predecessor alone. Assumes nothing.
use Rattle.std.specs.Prelude.{ℕ, ◌≡◌, refl, Bool, true, false, List, if◌then◌else◌}
use Rattle.model.specs.Table.{Member}
use Rattle.model.specs.Ring.{live}
use Rattle.model.specs.Steps.{with_predecessor, renews, rectify_in}

-- all else is as it was
pub record SameBut (u v : Member) : Type 0 where
  pub id : u.id ≡ v.id
  pub pending : u.pending ≡ v.pending
  pub candidate : u.candidate ≡ v.candidate
  pub list : u.successors ≡ v.successors
  pub steps : u.steps ≡ v.steps

module _ (ms : List Member) (q : ℕ) (v : Member) where
  pub rectify_same : SameBut (rectify_in ms q v) v
  rectify_same = go (renews (live ms v.predecessor) q v)
    where
      go : (b : Bool) → SameBut (if b then with_predecessor q v else v) v
      go true = record { id = refl; pending = refl; candidate = refl; list = refl; steps = refl }
      go false = record { id = refl; pending = refl; candidate = refl; list = refl; steps = refl }

  -- and nothing at all where the rule does not hold
  pub rectify_none : renews (live ms v.predecessor) q v ≡ false → v ≡ rectify_in ms q v
  rectify_none e = rw e
