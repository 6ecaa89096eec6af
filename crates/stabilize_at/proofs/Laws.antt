-- The steps' definitions, one case at a time, over what the code has read: v is the record, o the one looked at. Assumes nothing.
use Prim.Native.Nat.{ℕ}
use mathlib.Core.Path.{◌≡◌, sym, ap, ◌∙◌}
use mathlib.Core.Bool.{true, false}
use mathlib.Core.List.{List, [], ◌∷◌}
use Rattle.model.specs.Identifier.{between}
use Rattle.model.specs.Table.{Member}
use Rattle.model.specs.Ring.{live, named, successor, is_pending}
use Rattle.model.specs.Steps.{adopt, await_candidate, clear_pending, stabilize, stabilize_reply}
use Rattle.laws.specs.Stabilize.{candidate_taken, candidate_cleared, done_pending, step_pending, step_live, offered_better, offered_no_better, reply_look, reply_done}

-- h is the successor that was read, and o its record
module _ (w : ℕ) (ms : List Member) (v o : Member) (h : ℕ) (eh : h ≡ successor v) (eo : o ≡ named ms h) (p : is_pending v ≡ false) (l : live ms h ≡ true) where
  head_live : live ms (successor v) ≡ true
  head_live = ap (live ms) (sym eh) ∙ l

  pub better : between v.id o.predecessor h ≡ true → await_candidate o.predecessor (adopt h o.successors v) ≡ stabilize w ms v
  better b = rw (eo, eh) (offered_better ms v (rw (eo, eh) at b)) ∙ step_live ms v w p head_live

  pub not_better : between v.id o.predecessor h ≡ false → adopt h o.successors v ≡ stabilize w ms v
  not_better b = rw (eo, eh) (offered_no_better ms v (rw (eo, eh) at b)) ∙ step_live ms v w p head_live

  pub looks : between v.id o.predecessor h ≡ true → 1 ∷ o.predecessor ∷ [] ≡ stabilize_reply ms v
  looks b = rw (eo, eh) (reply_look ms v p head_live (rw (eo, eh) at b))

  pub is_done_law : between v.id o.predecessor h ≡ false → 2 ∷ h ∷ [] ≡ stabilize_reply ms v
  is_done_law b = rw eh (reply_done ms v p head_live (rw (eo, eh) at b))

-- a candidate is looked at
module _ (w : ℕ) (ms : List Member) (v : Member) (p : is_pending v ≡ true) where
  pub candidate_live : (o : Member) → o ≡ named ms v.candidate → live ms v.candidate ≡ true → clear_pending (adopt v.candidate o.successors v) ≡ stabilize w ms v
  candidate_live o e l = ap (λ (k : Member). clear_pending (adopt v.candidate k.successors v)) e ∙ candidate_taken ms v l ∙ step_pending ms v w p

  pub candidate_dead : live ms v.candidate ≡ false → clear_pending v ≡ stabilize w ms v
  candidate_dead l = candidate_cleared ms v l ∙ step_pending ms v w p

  pub done_candidate : live ms v.candidate ≡ true → 2 ∷ v.candidate ∷ [] ≡ stabilize_reply ms v
  done_candidate l = ap (λ (u : Member). 2 ∷ successor u ∷ []) (candidate_taken ms v l) ∙ done_pending ms v p

  pub done_successor : live ms v.candidate ≡ false → 2 ∷ successor v ∷ [] ≡ stabilize_reply ms v
  done_successor l = ap (λ (u : Member). 2 ∷ successor u ∷ []) (candidate_cleared ms v l) ∙ done_pending ms v p
