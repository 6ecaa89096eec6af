-- Turns on a calm table, where each is one of two: the successor stays, or the member met nearer is taken. And one lemma for rounds: what a turn gives its own
-- member, and the turns of others leave, all members have after a round.
use Rattle.std.specs.Prelude.{◌≡◌, refl, ◌⊎◌, Bool, true, false, List, [], ◌∷◌, ℕ}
use Rattle.std.proofs.Common.{sym, ap, ◌∙◌, inl, inr, true≢false}
use Rattle.std.proofs.Math.Path.{subst}
use Rattle.model.specs.Lists.{without_last}
use Rattle.model.specs.Identifier.{between}
use Rattle.model.specs.Table.{Member, Table, space_of, ids}
use Rattle.model.specs.Ring.{live, named, is_pending, principal}
use Rattle.model.specs.Steps.{adopt, is_better, stabilize_from_predecessor, stabilized, count_step}
use Rattle.model.specs.Settle.{is_done, last_step, finished, after_turn, after_turns, after_round}
use Rattle.laws.specs.Order.{equal?, Inside, Outside, inside?, inside_true, outside_false, inside_ends}
use Rattle.laws.specs.Lists.{In, here, there, in_cons, in_nil, found, in_live}
use Rattle.laws.specs.Stabilize.{candidate_taken, step_pending}
use Rattle.theory.specs.Keep.{Kept}
use Rattle.theory.specs.Bound.{UntilDone, last, more}
use Rattle.theory.specs.Turns.{acted_step, acted_turn, stepped_named, delivered_list, stays_in}
use Rattle.theory.specs.Calm.{succ_of, pred_of, Met, by_own, by_nearer, Calm}
use Rattle.theory.proofs.Calm.{pending_done, looks_on, settles_done, left_looks, left_settles, turn_until, calm_turn, calm_stays}

-- Turns on a calm table

none_own : (n z : ℕ) → between n n z ≡ false
none_own n z = go (inside? n n z)
  where
    go : Inside n n z ⊎ Outside n n z → between n n z ≡ false
    go (inl i) = absurd ((inside_ends i).0 refl)
    go (inr o) = outside_false o

-- n's new successor is `next`, and its list that and the list of it without the last: the old successor, which has n for its predecessor, or that predecessor
pub record Turned (T T' : Table) (n : ℕ) : Type 0 where
  pub next : ℕ
  pub list : (named T'.members n).successors ≡ next ∷ without_last (named T.members next).successors
  pub which : ((pred_of T (succ_of T n) ≡ n) × (next ≡ succ_of T n)) ⊎ ((next ≡ pred_of T (succ_of T n)) × In next (ids T.members) × Inside n next (succ_of T n))

module _ (n : ℕ) where
  one : {T T' : Table} → UntilDone n T T' → is_done n T ≡ true → T' ≡ last_step n T
  one (last e) h = refl
  one (more e d) h = absurd (true≢false (sym h ∙ e))

  two : {T T' : Table} → UntilDone n T T' → is_done n T ≡ false → is_done n (stabilized n T) ≡ true → T' ≡ last_step n (stabilized n T)
  two (last e) h k = absurd (true≢false (sym e ∙ h))
  two (more e d) h k = one d k

  last_list : (T : Table) → Kept T → In n (ids T.members) → (named (last_step n T).members n).successors ≡ (named (stabilized n T).members n).successors
  unfolding last_step
  last_list T k i = (delivered_list n _ (stabilized n T) (acted_step T k n i).lasts.kept n).list

  module _ (T : Table) (k : Kept T) (i : In n (ids T.members)) (c : Calm T n) where
    is_n : (named T.members n).id ≡ n
    is_n = (found T.members i).1

    head_live : live T.members (succ_of T n) ≡ true
    head_live = in_live T.members c.lives

    from_here : UntilDone n T (after_turn n T)
    unfolding finished
    from_here = let e : finished n T ≡ T = rw c.quiet in subst (λ (U : Table). UntilDone n U (after_turn n T)) e (turn_until n T k i)

    -- the successor has n for its predecessor: one step, "done"

    no_better : pred_of T (succ_of T n) ≡ n → is_better T.members (named T.members n) ≡ false
    no_better e = rw (is_n, e) (none_own n (succ_of T n))

    pub turn_same : pred_of T (succ_of T n) ≡ n → after_turn n T ≡ last_step n T
    turn_same e = one from_here (settles_done n T c.quiet head_live (no_better e))

    pub same_record : pred_of T (succ_of T n) ≡ n → named (stabilized n T).members n ≡ count_step (adopt (succ_of T n) (named T.members (succ_of T n)).successors (named T.members n))
    same_record e = left_settles n T k i c.quiet head_live (no_better e)

    -- it has a nearer one, which is looked at and taken

    module _ (j : In (pred_of T (succ_of T n)) (ids T.members)) (h : Inside n (pred_of T (succ_of T n)) (succ_of T n)) where
      better : is_better T.members (named T.members n) ≡ true
      better = rw is_n (inside_true h)

      waits : is_pending (named (stabilized n T).members n) ≡ true
      waits = ap is_pending (left_looks n T k i c.quiet head_live better)

      turn_nearer : after_turn n T ≡ last_step n (stabilized n T)
      turn_nearer = two from_here (looks_on n T c.quiet head_live better) (pending_done n (stabilized n T) waits)

      -- the list of a live candidate is taken
      taken : (ms : List Member) (v : Member) → live ms v.candidate ≡ true → (stabilize_from_predecessor ms v).successors ≡ v.candidate ∷ without_last (named ms v.candidate).successors
      taken ms v l = ap (λ (u : Member). u.successors) (sym (candidate_taken ms v l))

      nearer_list : (named (after_turn n T).members n).successors ≡ pred_of T (succ_of T n) ∷ without_last (named T.members (pred_of T (succ_of T n))).successors
      nearer_list =
          let a = acted_step T k n i in
          let U = stabilized n T in
          let v = named U.members n in
          let p = pred_of T (succ_of T n) in
          let iU = stays_in n a i in
          let is_p : v.candidate ≡ p = ap (λ (x : Member). x.candidate) (left_looks n T k i c.quiet head_live better) in
          let lp : live U.members p ≡ true = in_live U.members (rw a.lasts.same_ids j) in
          ap (λ (X : Table). (named X.members n).successors) turn_nearer
          ∙ last_list U a.lasts.kept iU
          ∙ ap (λ (x : Member). x.successors) (stepped_named U a.lasts.kept n iU ∙ ap count_step (sym (step_pending U.members v (space_of U) waits)))
          ∙ taken U.members v (ap (live U.members) is_p ∙ lp)
          ∙ ap (λ (x : ℕ). x ∷ without_last (named U.members x).successors) is_p
          ∙ ap (λ (l : List ℕ). p ∷ without_last l) (a.others p (inside_ends h).0).list

    pub turned : Turned T (after_turn n T) n
    turned = go c.met
      where
        go : Met T n (succ_of T n) → Turned T (after_turn n T) n
        go (by_own e) = record {
          next = succ_of T n;
          list = ap (λ (X : Table). (named X.members n).successors) (turn_same e) ∙ last_list T k i ∙ ap (λ (x : Member). x.successors) (same_record e);
          which = inl (e, refl);
        }
        go (by_nearer j h) = record { next = pred_of T (succ_of T n); list = nearer_list j h; which = inr (refl, j, h) }

-- Rounds: xs are the members; the turns keep the invariant; each gives its own member the property, which the turns of others leave

module _ (xs : List ℕ) (Inv : Table → Type 0) (P : ℕ → Table → Type 0)
    (keeps : (n : ℕ) (T : Table) → In n xs → Inv T → Inv (after_turn n T))
    (own : (n : ℕ) (T : Table) → In n xs → Inv T → P n (after_turn n T))
    (others : (n x : ℕ) (T : Table) → In n xs → In x xs → (x ≡ n → ⊥) → Inv T → P x T → P x (after_turn n T)) where
  turns_give : (ns : List ℕ) (T : Table) → ((n : ℕ) → In n ns → In n xs) → Inv T → Inv (after_turns ns T) × ((x : ℕ) → In x xs → In x ns ⊎ P x T → P x (after_turns ns T))
  turns_give [] T sub v = (v, λ x i h. left x h)
    where
      left : (x : ℕ) → In x [] ⊎ P x T → P x T
      left x (inl i) = absurd (in_nil i)
      left x (inr p) = p
  turns_give (n ∷ ns) T sub v =
      let i = sub n (here refl) in
      let g = turns_give ns (after_turn n T) (λ m j. sub m (there j)) (keeps n T i v) in
      (g.0, λ x ix h. g.1 x ix (first x ix i (equal? x n) h))
    where
      first : (x : ℕ) → In x xs → In n xs → (x ≡ n) ⊎ (x ≡ n → ⊥) → In x (n ∷ ns) ⊎ P x T → In x ns ⊎ P x (after_turn n T)
      first x ix i (inl e) h = inr (rw e (own n T i v))
      first x ix i (inr d) (inr p) = inr (others n x T i ix d v p)
      first x ix i (inr d) (inl j) = inl (sub2 (in_cons j))
        where
          sub2 : (x ≡ n) ⊎ In x ns → In x ns
          sub2 (inl e) = absurd (d e)
          sub2 (inr m) = m

  pub round_gives : (T : Table) → ids T.members ≡ xs → Inv T → Inv (after_round T) × ((x : ℕ) → In x xs → P x (after_round T))
  unfolding after_round
  round_gives T e v = rw e (let g = turns_give xs T (λ n i. i) v in (g.0, λ x i. g.1 x i (inl i)))

-- What all tables of one run of rounds have in common: the members xs, r, and the principals of the first

pub record Common (r : ℕ) (xs : List ℕ) (pr : ℕ → Bool) (T : Table) : Type 0 where
  pub kept : Kept T
  pub is_r : T.r ≡ r
  pub is_ids : ids T.members ≡ xs
  pub spares : (q : ℕ) → In q xs → pr q ≡ true → principal T.members q ≡ true

module _ (r : ℕ) (xs : List ℕ) (pr : ℕ → Bool) where
  pub among : {n : ℕ} {T : Table} → Common r xs pr T → In n xs → In n (ids T.members)
  among c i = rw c.is_ids i

  pub common_turn : (n : ℕ) (T : Table) → In n xs → Common r xs pr T → Common r xs pr (after_turn n T)
  common_turn n T i c =
      let a = (acted_turn n T c.kept (among c i)).lasts in
      record { kept = a.kept; is_r = a.same_r ∙ c.is_r; is_ids = a.same_ids ∙ c.is_ids; spares = λ q j h. a.principals_stay q (among c j) (c.spares q j h) }

  -- all members are calm
  pub record AllCalm (T : Table) : Type 0 where
    pub common : Common r xs pr T
    pub calm : (x : ℕ) → In x xs → Calm T x

  calm_own : (n : ℕ) (T : Table) → In n xs → Common r xs pr T → Calm (after_turn n T) n
  calm_own n T i c = calm_turn n T c.kept (among c i)

  calm_others : (n x : ℕ) (T : Table) → In n xs → In x xs → (x ≡ n → ⊥) → Common r xs pr T → Calm T x → Calm (after_turn n T) x
  calm_others n x T i j d c = calm_stays n x T (after_turn n T) (acted_turn n T c.kept (among c i)) (among c i) (among c j) d

  -- so they are after the first round
  pub calm_round : (T : Table) → Common r xs pr T → AllCalm (after_round T)
  calm_round T c =
      let g = round_gives xs (Common r xs pr) (λ x U. Calm U x) common_turn calm_own calm_others T c.is_ids c in
      record { common = g.0; calm = g.1 }

  -- and after every turn since
  pub all_calm_turn : (n : ℕ) (T : Table) → In n xs → AllCalm T → AllCalm (after_turn n T)
  all_calm_turn n T i a = record { common = common_turn n T i a.common; calm = λ x j. go x j (equal? x n) }
    where
      go : (x : ℕ) → In x xs → (x ≡ n) ⊎ (x ≡ n → ⊥) → Calm (after_turn n T) x
      go x j (inl e) = rw e (calm_own n T i a.common)
      go x j (inr d) = calm_others n x T i j d a.common (a.calm x j)
