-- One stabilize step of the member v, one case at a time: what it replies, and what it makes of the record. Assumes nothing.
use Rattle.std.specs.Prelude.{ℕ, ◌≡◌, Bool, if◌then◌else◌}
use Rattle.std.proofs.Math.Path.{refl}
use Rattle.std.proofs.Math.Bool.{true, false, not}
use mathlib.Core.List.{List, [], ◌∷◌}
use Rattle.model.specs.Table.{Member}
use Rattle.model.specs.Ring.{live, named, successor, is_pending}
use Rattle.model.specs.Steps.{adopt, await_candidate, clear_pending, drop_head, offered, is_better, stabilize_from_successor, stabilize_from_predecessor, stabilize, stabilize_reply}

module _ (ms : List Member) (v : Member) where
  pub offered_better : is_better ms v ≡ true → await_candidate (offered ms v) (adopt (successor v) (named ms (successor v)).successors v) ≡ stabilize_from_successor ms v
  unfolding stabilize_from_successor
  offered_better b = rw b

  pub offered_no_better : is_better ms v ≡ false → adopt (successor v) (named ms (successor v)).successors v ≡ stabilize_from_successor ms v
  unfolding stabilize_from_successor
  offered_no_better b = rw b

  pub candidate_taken : live ms v.candidate ≡ true → clear_pending (adopt v.candidate (named ms v.candidate).successors v) ≡ stabilize_from_predecessor ms v
  unfolding stabilize_from_predecessor
  candidate_taken l = rw l

  pub candidate_cleared : live ms v.candidate ≡ false → clear_pending v ≡ stabilize_from_predecessor ms v
  unfolding stabilize_from_predecessor
  candidate_cleared l = rw l

  pub done_pending : is_pending v ≡ true → 2 ∷ successor (stabilize_from_predecessor ms v) ∷ [] ≡ stabilize_reply ms v
  unfolding stabilize_reply
  done_pending p = rw p

  pub again : is_pending v ≡ false → live ms (successor v) ≡ false → 0 ∷ [] ≡ stabilize_reply ms v
  unfolding stabilize_reply
  again p l = rw (p, l)

  module _ (p : is_pending v ≡ false) (l : live ms (successor v) ≡ true) where
    pub reply_look : is_better ms v ≡ true → 1 ∷ offered ms v ∷ [] ≡ stabilize_reply ms v
    unfolding stabilize_reply
    reply_look b = rw (p, l, b)

    pub reply_done : is_better ms v ≡ false → 2 ∷ successor v ∷ [] ≡ stabilize_reply ms v
    unfolding stabilize_reply
    reply_done b = rw (p, l, b)

  module _ (w : ℕ) where
    pub step_pending : is_pending v ≡ true → stabilize_from_predecessor ms v ≡ stabilize w ms v
    unfolding stabilize
    step_pending p = rw p

    pub step_live : is_pending v ≡ false → live ms (successor v) ≡ true → stabilize_from_successor ms v ≡ stabilize w ms v
    unfolding stabilize
    step_live p l = rw (p, l)

    pub step_dead : is_pending v ≡ false → live ms (successor v) ≡ false → drop_head w v ≡ stabilize w ms v
    unfolding stabilize
    step_dead p l = rw (p, l)

-- The five cases of a stabilize step of v, each with what it replies and the record that it leaves
pub data StepCase (w : ℕ) (ms : List Member) (v : Member) : List ℕ → Member → Type 0 where
  takes : is_pending v ≡ true → live ms v.candidate ≡ true → StepCase w ms v (2 ∷ v.candidate ∷ []) (clear_pending (adopt v.candidate (named ms v.candidate).successors v))
  clears : is_pending v ≡ true → live ms v.candidate ≡ false → StepCase w ms v (2 ∷ successor v ∷ []) (clear_pending v)
  drops : is_pending v ≡ false → live ms (successor v) ≡ false → StepCase w ms v (0 ∷ []) (drop_head w v)
  looks : is_pending v ≡ false → live ms (successor v) ≡ true → is_better ms v ≡ true
      → StepCase w ms v (1 ∷ offered ms v ∷ []) (await_candidate (offered ms v) (adopt (successor v) (named ms (successor v)).successors v))
  settles : is_pending v ≡ false → live ms (successor v) ≡ true → is_better ms v ≡ false → StepCase w ms v (2 ∷ successor v ∷ []) (adopt (successor v) (named ms (successor v)).successors v)

module _ (w : ℕ) (ms : List Member) (v : Member) where
  -- a step is one of them
  pub step_case : StepCase w ms v (stabilize_reply ms v) (stabilize w ms v)
  unfolding stabilize stabilize_from_successor stabilize_from_predecessor stabilize_reply
  step_case = go (is_pending v) refl (live ms v.candidate) refl (live ms (successor v)) refl (is_better ms v) refl
    where
      go : (a : Bool) → is_pending v ≡ a → (b : Bool) → live ms v.candidate ≡ b → (c : Bool) → live ms (successor v) ≡ c → (d : Bool) → is_better ms v ≡ d →
          StepCase w ms v
          (if a then 2 ∷ successor (clear_pending (if b then adopt v.candidate (named ms v.candidate).successors v else v)) ∷ []
          else if not c then 0 ∷ [] else if d then 1 ∷ offered ms v ∷ [] else 2 ∷ successor v ∷ [])
          (if a then clear_pending (if b then adopt v.candidate (named ms v.candidate).successors v else v)
          else if c then (if d then await_candidate (offered ms v) (adopt (successor v) (named ms (successor v)).successors v)
          else adopt (successor v) (named ms (successor v)).successors v) else drop_head w v)
      go true p true l c ec d ed = takes p l
      go true p false l c ec d ed = clears p l
      go false p b eb true l true e = looks p l e
      go false p b eb true l false e = settles p l e
      go false p b eb false l d ed = drops p l

-- whichever case: a step changes neither identifier nor predecessor nor step count
case_id : {w : ℕ} {ms : List Member} {v : Member} {l : List ℕ} {u : Member} → StepCase w ms v l u → (u.id ≡ v.id) × (u.predecessor ≡ v.predecessor) × (u.steps ≡ v.steps)
case_id (takes p l) = (refl, refl, refl)
case_id (clears p l) = (refl, refl, refl)
case_id (drops p l) = (refl, refl, refl)
case_id (looks p l e) = (refl, refl, refl)
case_id (settles p l e) = (refl, refl, refl)

-- the same of a step itself, whatever its reply
either : {n : ℕ} (f : Member → ℕ) (b : Bool) {x y : Member} → f x ≡ n → f y ≡ n → f (if b then x else y) ≡ n
either f true p q = p
either f false p q = q

pub same_id : (ms : List Member) (v : Member) (w : ℕ) → (stabilize w ms v).id ≡ v.id
unfolding stabilize stabilize_from_successor stabilize_from_predecessor
same_id ms v w = either (λ u. u.id) (is_pending v) (either (λ u. u.id) (live ms v.candidate) refl refl)
    (either (λ u. u.id) (live ms (successor v)) (either (λ u. u.id) (is_better ms v) refl refl) refl)

pub same_predecessor : (ms : List Member) (v : Member) (w : ℕ) → (stabilize w ms v).predecessor ≡ v.predecessor
unfolding stabilize stabilize_from_successor stabilize_from_predecessor
same_predecessor ms v w = either (λ u. u.predecessor) (is_pending v) (either (λ u. u.predecessor) (live ms v.candidate) refl refl)
    (either (λ u. u.predecessor) (live ms (successor v)) (either (λ u. u.predecessor) (is_better ms v) refl refl) refl)

pub same_steps : (ms : List Member) (v : Member) (w : ℕ) → (stabilize w ms v).steps ≡ v.steps
unfolding stabilize stabilize_from_successor stabilize_from_predecessor
same_steps ms v w = either (λ u. u.steps) (is_pending v) (either (λ u. u.steps) (live ms v.candidate) refl refl)
    (either (λ u. u.steps) (live ms (successor v)) (either (λ u. u.steps) (is_better ms v) refl refl) refl)
