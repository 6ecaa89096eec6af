-- The theorems of which Calm in specs/ has the definitions, with their proofs.
use Rattle.std.specs.Prelude.{◌≡◌, ◌⊎◌, Bool, not, ◌||◌, ℕ, zero, suc, ◌≤◌, if◌then◌else◌}
use Rattle.std.proofs.Math.Path.{refl, ap}
use Rattle.std.proofs.Common.{sym, ◌∙◌, inl, inr, true≢false, arith}
use Rattle.std.proofs.Math.Bool.{true, false}
use mathlib.Core.List.{List}
use Rattle.std.proofs.Math.Dec.{eqb}
use Rattle.std.proofs.Math.ListN.{get_or}
use Rattle.model.specs.Identifier.{between}
use Rattle.model.specs.Table.{Member, Table, space_of, ids}
use Rattle.model.specs.Ring.{live, named, successor, is_pending}
use Rattle.model.specs.Steps.{with_predecessor, adopt, await_candidate, drop_head, offered, is_better, stabilized, renews, rectified, stabilize, count_step}
use Rattle.model.specs.Settle.{delivered, next_reply, is_done, last_step, finished, until_done, after_turn}
use Rattle.laws.specs.Order.{equal?, Inside, Outside, below, beyond, rest, mid, high, low, inside?, inside_outside, false_outside, inner_from}
use Rattle.laws.specs.Lists.{In, found, live_in, in_live}
use Rattle.laws.specs.Stabilize.{done_pending, reply_look, reply_done, offered_better, offered_no_better, step_live, StepCase, takes, clears, drops, looks, settles, step_case}
use Rattle.theory.specs.Bound.{UntilDone, last, more}
use Rattle.theory.proofs.Static.{lists_in_order}
use Rattle.theory.specs.Keep.{Kept}
use Rattle.theory.specs.Again.{LiveAt, live_at, in_front}
use Rattle.theory.specs.Forms.{small}
use Rattle.theory.specs.Turns.{Predecessor, stays, dead, nearer, SameList, Acted, acted_step, acted_finished, acted_notice, stepped_named, noticed_named, noticed_list, delivered_list, stays_in}
use Rattle.theory.specs.Calm.{succ_of, pred_of, Met, by_own, by_nearer, Calm, StepsEnough}

-- Order: from p, n is not passed on the way to h
pub other_side : {p n h : ℕ} → Outside p n h → (n ≡ h → ⊥) → (p ≡ n) ⊎ Inside n p h
other_side {p} {n} {h} o d = go (equal? p n) o
  where
    go : (p ≡ n) ⊎ (p ≡ n → ⊥) → Outside p n h → (p ≡ n) ⊎ Inside n p h
    go (inl e) o = inl e
    go (inr ne) (below a b) = inr (mid (omega arith) b)
    go (inr ne) (beyond a b) = inr (low a b)
    go (inr ne) (rest a b) = inr (high a (omega arith))

-- what is nearer than what is nearer
inside_further : {n p m h : ℕ} → Inside n p h → Inside p m h → Inside n m h
inside_further {n} {p} {m} {h} i j = go (inside? n m h)
  where
    go : Inside n m h ⊎ Outside n m h → Inside n m h
    go (inl k) = k
    go (inr o) = absurd (inside_outside j (inner_from i o))

-- no member is its own successor
pub not_own : (T : Table) → Kept T → (n : ℕ) → In n (ids T.members) → n ≡ succ_of T n → ⊥
not_own T k n i e =
    let o = lists_in_order T k.formed k.is_sound n i in
    o.different 0 1 (omega arith) (omega (arith, o.many, k.formed.r_low)) e

-- The next step of n, by the cases of a step: what it replies, and what it leaves of n's record

module _ (n : ℕ) (T : Table) where
  abbrev m : Member
  m = named T.members n

  -- the case that leaves l for the reply and u for the record
  abbrev NextCase : List ℕ → Member → Type 0
  NextCase l u = StepCase (space_of T) T.members m l u

  by_reply : (l : List ℕ) → l ≡ next_reply n T → is_done n T ≡ eqb (get_or l 0 0) 2
  by_reply l e = ap (λ (k : List ℕ). eqb (get_or k 0 0) 2) (sym e)

  next_case : NextCase (next_reply n T) (stabilize (space_of T) T.members m)
  next_case = step_case (space_of T) T.members m

  pub pending_done : is_pending m ≡ true → is_done n T ≡ true
  pending_done p = by_reply _ (done_pending T.members m p)

  pub looks_on : is_pending m ≡ false → live T.members (succ_of T n) ≡ true → is_better T.members m ≡ true → is_done n T ≡ false
  looks_on p l b = by_reply _ (reply_look T.members m p l b)

  pub settles_done : is_pending m ≡ false → live T.members (succ_of T n) ≡ true → is_better T.members m ≡ false → is_done n T ≡ true
  settles_done p l b = by_reply _ (reply_done T.members m p l b)

  module _ (k : Kept T) (i : In n (ids T.members)) where
    -- what a case leaves, counted, is n's record then
    next_named : {u : Member} → u ≡ stabilize (space_of T) T.members m → named (stabilized n T).members n ≡ count_step u
    next_named e = stepped_named T k n i ∙ ap count_step (sym e)

    pub left_looks : is_pending m ≡ false → live T.members (succ_of T n) ≡ true → is_better T.members m ≡ true
        → named (stabilized n T).members n ≡ count_step (await_candidate (offered T.members m) (adopt (succ_of T n) (named T.members (succ_of T n)).successors m))
    left_looks p l b = next_named (offered_better T.members m b ∙ step_live T.members m (space_of T) p l)

    pub left_settles : is_pending m ≡ false → live T.members (succ_of T n) ≡ true → is_better T.members m ≡ false
        → named (stabilized n T).members n ≡ count_step (adopt (succ_of T n) (named T.members (succ_of T n)).successors m)
    left_settles p l b = next_named (offered_no_better T.members m b ∙ step_live T.members m (space_of T) p l)

-- The steps of a turn end with "done": a live entry stands at place j of the list, "again" drops one before it, and two steps more are enough

module _ (n : ℕ) where
  until_now : (f : ℕ) (T : Table) → 1 ≤ f → is_done n T ≡ true → UntilDone n T (until_done f n T)
  until_now zero T h e = absurd (omega arith)
  until_now (suc f) T h e = rw e (last e)

  -- a bound f ends the steps that are left with "done", if u is n's record then and has a live entry at place j
  abbrev Later : ℕ → Table → Member → ℕ → Type 0
  Later f T u j = LiveAt (ids T.members) u.successors j → suc (suc j) ≤ f → UntilDone n (stabilized n T) (until_done f n (stabilized n T))

  until : (j f : ℕ) (T : Table) → Kept T → In n (ids T.members) → LiveAt (ids T.members) (named T.members n).successors j → suc (suc j) ≤ f → UntilDone n T (until_done f n T)
  until j zero T k i a h = absurd (omega arith)
  until j (suc f) T k i a h = go (is_done n T) refl (λ j b. until j f (stabilized n T) (acted_step T k n i).lasts.kept (stays_in n (acted_step T k n i) i) b)
    where
      dropped : (j : ℕ) → LiveAt (ids T.members) (named T.members n).successors j → suc (suc j) ≤ suc f → live T.members (succ_of T n) ≡ false
          → ((j : ℕ) → Later f T (drop_head (space_of T) (named T.members n)) j) → UntilDone n (stabilized n T) (until_done f n (stabilized n T))
      dropped zero a h d ih = absurd (true≢false (sym a.lives ∙ d))
      dropped (suc j) a h d ih = ih j (in_front (ids T.members) (named T.members n).successors _ j a) (omega arith)

      on : {l : List ℕ} {u : Member} → eqb (get_or l 0 0) 2 ≡ false → NextCase n T l u → named (stabilized n T).members n ≡ count_step u → ((j : ℕ) → Later f T u j)
          → UntilDone n (stabilized n T) (until_done f n (stabilized n T))
      on e (takes p l) q ih = absurd (true≢false e)
      on e (clears p l) q ih = absurd (true≢false e)
      on e (drops p d) q ih = dropped j a h d ih
      on e (looks p l b) q ih = until_now f (stabilized n T) (omega arith) (pending_done n (stabilized n T) (ap is_pending q))
      on e (settles p l b) q ih = absurd (true≢false e)

      go : (b : Bool) → is_done n T ≡ b → ((j : ℕ) → LiveAt (ids (stabilized n T).members) (named (stabilized n T).members n).successors j → suc (suc j) ≤ f
          → UntilDone n (stabilized n T) (until_done f n (stabilized n T))) → UntilDone n T (if b then last_step n T else until_done f n (stabilized n T))
      go true e ih = last e
      go false e ih = more e (on e (next_case n T) (next_named n T k i refl) (λ j b g. ih j (rw ((acted_step T k n i).lasts.same_ids, next_named n T k i refl) b) g))

  -- on a sound table with n a bound of r + 1 steps or more is never what ends them
  until_done_law : StepsEnough n
  until_done_law f T k i h =
      let m = found T.members i in
      let a = live_at (ids T.members) (named T.members n).successors (k.is_sound.live_entry (named T.members n) m.0) in
      until a.0 f T k i a.1 (omega (arith, a.1.inside, (k.formed.each (named T.members n) m.0).list_length))

  -- nor in a turn
  pub turn_until : (T : Table) → Kept T → In n (ids T.members) → UntilDone n (finished n T) (after_turn n T)
  unfolding after_turn
  turn_until T k i = let a = acted_finished n T k i in until_done_law (suc T.r) (finished n T) a.lasts.kept (stays_in n a i) (omega (arith, a.lasts.same_r))

  -- What a turn leaves of n

  -- the successor is h, a member, and nothing is pending
  record Heads (T : Table) (h : ℕ) : Type 0 where
    quiet : is_pending (named T.members n) ≡ false
    is : succ_of T n ≡ h
    lives : In h (ids T.members)

  -- a candidate is looked at with a live successor
  Ready : Table → Type 0
  Ready T = is_pending (named T.members n) ≡ true → live T.members (succ_of T n) ≡ true

  module _ (T : Table) (k : Kept T) (i : In n (ids T.members)) where
    in_next : {x : ℕ} → live T.members x ≡ true → In x (ids (stabilized n T).members)
    in_next {x} l = rw (acted_step T k n i).lasts.same_ids (live_in T.members x l)

    -- by the step that replies "done"
    done_head : is_done n T ≡ true → Ready T → Heads (stabilized n T) (get_or (next_reply n T) 1 0)
    unfolding Ready
    done_head e ready =
        let h = go e (next_case n T) in
        let q = next_named n T k i refl in
        record { quiet = ap is_pending q ∙ h.0; is = ap successor q ∙ h.1; lives = in_next h.2 }
      where
        go : {l : List ℕ} {u : Member} → eqb (get_or l 0 0) 2 ≡ true → NextCase n T l u → (is_pending u ≡ false) × (successor u ≡ get_or l 1 0) × (live T.members (get_or l 1 0) ≡ true)
        go e (takes p l) = (refl, refl, l)
        go e (clears p l) = (refl, refl, ready p)
        go e (drops p d) = absurd (true≢false (sym e))
        go e (looks p l b) = absurd (true≢false (sym e))
        go e (settles p l b) = (p, refl, l)

    -- by the step before it
    next_ready : is_done n T ≡ false → Ready (stabilized n T)
    unfolding Ready
    next_ready e q =
        let c = next_named n T k i refl in
        in_live (stabilized n T).members (rw c (in_next (go e (next_case n T) (sym (ap is_pending c) ∙ q))))
      where
        go : {l : List ℕ} {u : Member} → eqb (get_or l 0 0) 2 ≡ false → NextCase n T l u → is_pending u ≡ true → live T.members (successor u) ≡ true
        go e (takes p l) q = absurd (true≢false e)
        go e (clears p l) q = absurd (true≢false e)
        go e (drops p d) q = absurd (true≢false (sym q ∙ p))
        go e (looks p l b) q = l
        go e (settles p l b) q = absurd (true≢false e)

    -- by the notice: h takes n for its predecessor, or has a live one that is nearer
    met_notice : (h : ℕ) → Heads T h → Calm (rectified h n T) n
    unfolding renews
    met_notice h s = record {
      quiet = list.is_pending_law ∙ s.quiet;
      lives = rw (is_h, same) s.lives;
      met = rw is_h (go (between p n u.id) refl (live T.members p) refl (ap (λ (x : Member). x.predecessor) (noticed_named T k h s.lives n)));
    }
      where
        u : Member
        u = named T.members h

        p : ℕ
        p = u.predecessor

        same : ids (rectified h n T).members ≡ ids T.members
        same = (acted_notice T k h s.lives n (small T k.formed n i)).lasts.same_ids

        list : SameList (named (rectified h n T).members n) (named T.members n)
        list = noticed_list T k h s.lives n n

        is_h : succ_of (rectified h n T) n ≡ h
        is_h = ap (λ (l : List ℕ). get_or l 0 0) list.list ∙ s.is

        kept : pred_of (rectified h n T) h ≡ p → (p ≡ n) ⊎ Inside n p h → live T.members p ≡ true → Met (rectified h n T) n h
        kept q (inl e) l = by_own (q ∙ e)
        kept q (inr j) l = by_nearer (rw (q, same) (live_in T.members p l)) (rw q j)

        go : (a : Bool) → between p n u.id ≡ a → (b : Bool) → live T.members p ≡ b
            → pred_of (rectified h n T) h ≡ (if a || not b then with_predecessor n u else u).predecessor → Met (rectified h n T) n h
        go true ea b eb q = by_own q
        go false ea false eb q = by_own q
        go false ea true eb q = kept q (other_side (rw (found T.members s.lives).1 at (false_outside p n u.id ea)) (λ e. not_own T k n i (e ∙ sym s.is))) eb

    met_delivered : (h : ℕ) → Heads T h → Calm (delivered n h T) n
    unfolding delivered
    met_delivered h s = rw (in_live T.members s.lives) (met_notice h s)

  calm_last : (T : Table) → Kept T → In n (ids T.members) → is_done n T ≡ true → Ready T → Calm (last_step n T) n
  unfolding last_step
  calm_last T k i e ready = let a = acted_step T k n i in met_delivered (stabilized n T) a.lasts.kept (stays_in n a i) _ (done_head T k i e ready)

  calm_until : {T T' : Table} → UntilDone n T T' → Kept T → In n (ids T.members) → Ready T → Calm T' n
  calm_until (last {T} e) k i ready = calm_last T k i e ready
  calm_until (more {T} e d) k i ready = let a = acted_step T k n i in calm_until d a.lasts.kept (stays_in n a i) (next_ready T k i e)

  -- a pending step is finished
  finished_quiet : (T : Table) → Kept T → In n (ids T.members) → is_pending (named (finished n T).members n) ≡ false
  unfolding finished last_step
  finished_quiet T k i = go (is_pending (named T.members n)) refl
    where
      quiet : {l : List ℕ} {u : Member} → is_pending (named T.members n) ≡ true → NextCase n T l u → is_pending u ≡ false
      quiet e (takes p l) = refl
      quiet e (clears p l) = refl
      quiet e (drops p d) = p
      quiet e (looks p l b) = absurd (true≢false (sym e ∙ p))
      quiet e (settles p l b) = p

      go : (b : Bool) → is_pending (named T.members n) ≡ b → is_pending (named (if b then delivered n (get_or (next_reply n T) 1 0) (stabilized n T) else T).members n) ≡ false
      go true e = (delivered_list n _ (stabilized n T) (acted_step T k n i).lasts.kept n).is_pending_law ∙ ap is_pending (next_named n T k i refl) ∙ quiet e (next_case n T)
      go false e = e

  pub calm_turn : (T : Table) → Kept T → In n (ids T.members) → Calm (after_turn n T) n
  unfolding Ready
  calm_turn T k i = let a = acted_finished n T k i in calm_until (turn_until T k i) a.lasts.kept (stays_in n a i) (λ p. absurd (true≢false (sym p ∙ finished_quiet T k i)))

-- n stays calm while others take their turns: its list stays, and a live predecessor of its successor only comes nearer
pub calm_stays : (n x : ℕ) (T T' : Table) → Acted n T T' → In n (ids T.members) → In x (ids T.members) → (x ≡ n → ⊥) → Calm T x → Calm T' x
calm_stays n x T T' a i j d c = record { quiet = same.is_pending_law ∙ c.quiet; lives = rw (is, a.lasts.same_ids) c.lives; met = rw is (go (a.predecessors z) c.met) }
  where
    z : ℕ
    z = succ_of T x

    same : SameList (named T'.members x) (named T.members x)
    same = a.others x d

    is : succ_of T' x ≡ z
    is = ap (λ (l : List ℕ). get_or l 0 0) same.list

    among : {y : ℕ} → In y (ids T.members) → In y (ids T'.members)
    among h = rw a.lasts.same_ids h

    -- the predecessor that z had is a member
    was : Met T x z → In (pred_of T z) (ids T.members)
    was (by_own e) = rw e j
    was (by_nearer h k) = h

    closer : Met T x z → Inside (pred_of T z) n z → Inside x n z
    closer (by_own e) h = rw e at h
    closer (by_nearer b k) h = inside_further k h

    go : Predecessor T.members n z (pred_of T z) (pred_of T' z) → Met T x z → Met T' x z
    go (stays e) (by_own q) = by_own (e ∙ q)
    go (stays e) (by_nearer h k) = by_nearer (rw e (among h)) (rw e k)
    go (dead e l) m = absurd (true≢false (sym (in_live T.members (was m)) ∙ l))
    go (nearer e h) m = by_nearer (rw e (among i)) (rw e (closer m h))
