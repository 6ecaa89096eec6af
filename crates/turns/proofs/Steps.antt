-- Steps and notices of a member in a slice, in the model's terms. Assumes nothing.
use Prim.Native.Nat.{ℕ}
use mathlib.Core.Path.{◌≡◌, refl, sym, ap, ◌∙◌}
use mathlib.Core.Logic.{inl, inr}
use mathlib.Core.Bool.{true, false}
use mathlib.Core.List.{List, [], ◌∷◌}
use native.Mathlib.Omega.{arith}
use lib.Dec.{eqb}
use lib.ListN.{get_or}
use denote.Enum.Declared.{tag_of}
use types.Run.{OneOf}
use Rattle.model.specs.Table.{Table, table_of, members_in, ids}
use Rattle.model.specs.Ring.{live, named}
use Rattle.model.specs.Steps.{stabilize_reply, stabilized, rectified}
use Rattle.model.specs.Settle.{delivered, next_reply, is_done, last_step}
use Rattle.model.specs.Calls.{written}
use Rattle.theory.specs.Runs.{Good, good_kept}
use Rattle.theory.specs.Turns.{acted_step, acted_delivered}
use Rattle.answers.specs.Step.{values_of}
use Rattle.answers.specs.declared.step.Step.{Step}
use Rattle.answers.specs.declared.step.Step.TheVariants.{Again, Look, Done}
use Rattle.answers.specs.contracts.step.Step as S
use Rattle.table.specs.FormedWords.{FormedWords}
use Rattle.table.specs.Located.{Stands}
use Rattle.table.proofs.Place.{same_words, stands_live}
use Rattle.turns.proofs.Lasting.{stands_in, lasting_none, stands_still, written_still, Next, lasting_next}

-- a step that is not "done"
first_value : (a : Step) → ((h : ℕ) → a ≡ Done h → ⊥) → eqb (get_or (values_of a) 0 0) 2 ≡ false
first_value Again o = refl
first_value (Look c) o = refl
first_value (Done h) o = absurd (o h refl)

-- a notice of q to h, which is no member, or is one
module _ (q h : ℕ) (T : Table) where
  to_none : live T.members h ≡ false → T ≡ delivered q h T
  unfolding delivered
  to_none l = rw l

  to_member : live T.members h ≡ true → rectified h q T ≡ delivered q h T
  unfolding delivered
  to_member l = rw l

module _ (ws : List ℕ) (f : FormedWords ws) where
  -- a notice of q to h: lost, or taken where h stands
  pub notice_lost : (q h : ℕ) → live (members_in ws) h ≡ false → ws ≡ written (delivered q h (table_of ws)) ws
  notice_lost q h l = same_words ws f ∙ ap (λ (T : Table). written T ws) (to_none q h (table_of ws) l)

  pub notice_taken : (q h k : ℕ) (us : List ℕ) → Stands ws k h → us ≡ written (rectified (get_or (ids (members_in ws)) k 0) q (table_of ws)) ws → us ≡ written (delivered q h (table_of ws)) ws
  notice_taken q h k us s e =
      e ∙ ap (λ (x : ℕ). written (rectified x q (table_of ws)) ws) s.has_id ∙ ap (λ (T : Table). written T ws) (to_member q h (table_of ws) (stands_live f s))

  -- a step of n, which stands at place k
  module _ (k n : ℕ) (s : Stands ws k n) where
    pub step_words : (us : List ℕ) → us ≡ written (stabilized (get_or (ids (members_in ws)) k 0) (table_of ws)) ws → us ≡ written (stabilized n (table_of ws)) ws
    step_words us e = e ∙ ap (λ (x : ℕ). written (stabilized x (table_of ws)) ws) s.has_id

    module _ (a : Step) (e : values_of a ≡ stabilize_reply (members_in ws) (named (members_in ws) (get_or (ids (members_in ws)) k 0))) where
      says : values_of a ≡ next_reply n (table_of ws)
      says = e ∙ ap (λ (x : ℕ). next_reply x (table_of ws)) s.has_id

      pub not_done : ((h : ℕ) → a ≡ Done h → ⊥) → is_done n (table_of ws) ≡ false
      not_done o = ap (λ (l : List ℕ). eqb (get_or l 0 0) 2) (sym says) ∙ first_value a o

      pub is_done_law : (h : ℕ) → a ≡ Done h → next_reply n (table_of ws) ≡ 2 ∷ h ∷ []
      is_done_law h q = sym says ∙ ap values_of q

-- a reply of "done" and h
module _ (n h : ℕ) (T : Table) (e : next_reply n T ≡ 2 ∷ h ∷ []) where
  pub done_true : is_done n T ≡ true
  done_true = ap (λ (l : List ℕ). eqb (get_or l 0 0) 2) e

  done_last : delivered n h (stabilized n T) ≡ last_step n T
  unfolding last_step
  done_last = ap (λ (l : List ℕ). delivered n (get_or l 1 0) (stabilized n T)) (sym e)

-- after a step of n, which stands at place k
module _ {ws us : List ℕ} {k n : ℕ} (g : Good ws) (s : Stands ws k n) (e : us ≡ written (stabilized n (table_of ws)) ws) where
  pub stepped : Next ws (stabilized n (table_of ws)) us
  stepped = lasting_next g (lasting_none g) (stabilized n (table_of ws)) (acted_step (table_of ws) (good_kept ws g) n (stands_in s)).lasts e

  -- its notice to h is delivered
  pub noticed : {vs : List ℕ} (h : ℕ) → next_reply n (table_of ws) ≡ 2 ∷ h ∷ [] → vs ≡ written (delivered n h (table_of us)) us → vs ≡ written (last_step n (table_of ws)) ws
  noticed h r q =
      let o = stepped.follows in
      let l = (acted_delivered n h (table_of us) o.lasts.kept (stands_in (stands_still g o s))).lasts in
      q ∙ (written_still g o (delivered n h (table_of us)) l ∙ ap (λ (T : Table). written T ws) (ap (delivered n h) stepped.has ∙ done_last n h (table_of ws) r))
