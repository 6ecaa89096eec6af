-- The stabilize steps of one member of a sound table, with no other call between them: "again" at most r - 1 times, then "look" at most once,
-- then "done". So r + 1 steps are enough; and after at most r of them its first entry is a member.
use Rattle.std.specs.Prelude.{◌≡◌, refl, ◌⊎◌, Bool, true, false, List, [], ◌∷◌, ◌++◌, length, get_or, replicate, drop}
use Rattle.std.proofs.Common.{sym, ap, subst, ◌∙◌, inl, inr, true≢false, arith, length-append}
use Prim.Native.Nat.{ℕ, zero, suc, ◌-◌, ◌≤◌, ◌<◌}
use Rattle.std.proofs.Math.ListN.{get_or-append}
use Rattle.model.specs.Lists.{any, contains}
use Rattle.model.specs.Table.{Member, Table, space_of, ids, table_of, members_in, well_formed}
use Rattle.model.specs.Ring.{live, named, successor, is_pending, sound}
use Rattle.model.specs.Answer.{accepted}
use Rattle.model.specs.Steps.{is_better, stabilize_from_predecessor, stabilize, stabilize_reply, replaced, count_step}
use Rattle.model.specs.Refusals.{member_refusal}
use Rattle.model.specs.Calls.{stabilize_answer, stabilize_words}
use Rattle.model.specs.Run.{Stabilize, call_words, run}
use Rattle.laws.specs.Lists.{In, found, live_in, or-true}
use Rattle.laws.specs.Accepted.{member_accepts}
use Rattle.laws.specs.Tables.{well_formed_facts, sound_facts}
use Rattle.laws.specs.Stabilize.{candidate_taken, candidate_cleared, done_pending, again, reply_look, reply_done, offered_better, step_pending, step_live, step_dead, same_id}
use Rattle.theory.specs.Keep.{replaced_ids, replaced_named}
use Rattle.theory.specs.Left.{stabilize_table}
use Rattle.theory.specs.Runs.{Good, stabilize_good}

-- the next step of n replies "done"; or "look", and the one after it "done"
pub data ComesToDone (n : ℕ) (ws : List ℕ) : Type 0 where
  done : (h : ℕ) → stabilize_answer ws n ≡ accepted (2 ∷ h ∷ []) → ComesToDone n ws
  look : (c h : ℕ) → stabilize_answer ws n ≡ accepted (1 ∷ c ∷ []) → stabilize_answer (stabilize_words ws n) n ≡ accepted (2 ∷ h ∷ []) → ComesToDone n ws

-- the steps of n on a slice, one after the other, reply "again" at most so many times, and then as above
pub record FewAgains (n most : ℕ) (ws : List ℕ) : Type 0 where
  pub agains : ℕ
  pub few : agains ≤ most
  pub each : (k : ℕ) → k < agains → stabilize_answer (run (replicate k (Stabilize n)) ws) n ≡ accepted (0 ∷ [])
  pub last : ComesToDone n (run (replicate agains (Stabilize n)) ws)

-- after at most so many steps of n its first entry is a member
pub record Clears (n most : ℕ) (ws : List ℕ) : Type 0 where
  pub steps : ℕ
  pub few : steps ≤ most
  pub clear : live (members_in (run (replicate steps (Stabilize n)) ws)) (successor (named (members_in (run (replicate steps (Stabilize n)) ws)) n)) ≡ true

-- Lists and members

-- the entry at place i of a list is one of the identifiers
pub record LiveAt (xs l : List ℕ) (i : ℕ) : Type 0 where
  pub inside : i < length l
  pub lives : contains xs (get_or l i 0) ≡ true

pub live_at : (xs l : List ℕ) → any (contains xs) l ≡ true → (i : ℕ) × LiveAt xs l i
live_at xs [] h = let q : ◌≡◌ {A = ℕ} 0 1 = cc in absurd (omega arith)
live_at xs (x ∷ l) h = go (or-true (contains xs x) _ h) (live_at xs l)
  where
    go : (contains xs x ≡ true) ⊎ (any (contains xs) l ≡ true) → (any (contains xs) l ≡ true → (i : ℕ) × LiveAt xs l i) → (i : ℕ) × LiveAt xs (x ∷ l) i
    go (inl e) ih = (0, record { inside = omega arith; lives = e })
    go (inr e) ih = let w = ih e in (suc w.0, record { inside = omega (arith, w.1.inside); lives = w.1.lives })

-- where the first entry is dropped, it stands one place further in front
pub in_front : (xs l : List ℕ) (z i : ℕ) → LiveAt xs l (suc i) → LiveAt xs (drop 1 l ++ (z ∷ [])) i
in_front xs [] z i a = absurd (omega (arith, a.inside))
in_front xs (x ∷ l) z i a = record { inside = rw length-append (omega (arith, a.inside)); lives = ap (contains xs) (get_or-append l (z ∷ []) 0 i (omega (arith, a.inside))) ∙ a.lives }

module _ (n : ℕ) where
  -- a slice with a sound table that has n
  record With (ws : List ℕ) : Type 0 where
    good : Good ws
    member : live (members_in ws) n ≡ true

  module _ (ws : List ℕ) (g : With ws) where
    accepts : member_refusal ws n ≡ 0
    accepts = member_accepts ws n g.good.is_well_formed g.member

    replies : {vs : List ℕ} → vs ≡ stabilize_reply (members_in ws) (named (members_in ws) n) → stabilize_answer ws n ≡ accepted vs
    unfolding stabilize_answer
    replies e = rw accepts (ap accepted (sym e))

    -- the members after a step of n

    members : members_in (stabilize_words ws n) ≡ replaced (count_step (stabilize (space_of (table_of ws)) (members_in ws) (named (members_in ws) n))) (members_in ws)
    members = ap (λ (T : Table). T.members) (stabilize_table ws n accepts)

    same_ids : ids (members_in (stabilize_words ws n)) ≡ ids (members_in ws)
    same_ids = ap ids members ∙ replaced_ids (count_step (stabilize (space_of (table_of ws)) (members_in ws) (named (members_in ws) n))) (members_in ws)

    stepped : named (members_in (stabilize_words ws n)) n ≡ count_step (stabilize (space_of (table_of ws)) (members_in ws) (named (members_in ws) n))
    stepped =
        let v = count_step (stabilize (space_of (table_of ws)) (members_in ws) (named (members_in ws) n)) in
        let i = live_in (members_in ws) n g.member in
        let e : v.id ≡ n = same_id (members_in ws) (named (members_in ws) n) (space_of (table_of ws)) ∙ (found (members_in ws) i).1 in
        ap (λ (ms : List Member). named ms n) members ∙ subst (λ (x : ℕ). named (replaced v (members_in ws)) x ≡ v) e
        (replaced_named v (members_in ws) (subst (λ (x : ℕ). In x (ids (members_in ws))) (sym e) i))

    next : With (stabilize_words ws n)
    next = record { good = stabilize_good ws g.good n; member = subst (λ (xs : List ℕ). contains xs n ≡ true) (sym same_ids) g.member }

    -- Steps that end the series of "again"

    finish : is_pending (named (members_in ws) n) ≡ true → ComesToDone n ws
    finish p = done _ (replies (done_pending (members_in ws) (named (members_in ws) n) p))

    awaits : is_pending (named (members_in ws) n) ≡ false → live (members_in ws) (successor (named (members_in ws) n)) ≡ true
        → is_better (members_in ws) (named (members_in ws) n) ≡ true → is_pending (named (members_in (stabilize_words ws n)) n) ≡ true
    awaits p d b =
        let ms = members_in ws in
        let m = named ms n in
        ap is_pending (stepped ∙ ap count_step (sym (step_live ms m (space_of (table_of ws)) p d) ∙ sym (offered_better ms m b)))

  comes_to_done : (ws : List ℕ) (g : With ws) → is_pending (named (members_in ws) n) ≡ false → live (members_in ws) (successor (named (members_in ws) n)) ≡ true → ComesToDone n ws
  comes_to_done ws g p d = go (is_better (members_in ws) (named (members_in ws) n)) refl
    where
      go : (b : Bool) → is_better (members_in ws) (named (members_in ws) n) ≡ b → ComesToDone n ws
      go true b = look _ _ (replies ws g (reply_look (members_in ws) (named (members_in ws) n) p d b))
          (replies (stabilize_words ws n) (next ws g) (done_pending _ (named (members_in (stabilize_words ws n)) n) (awaits ws g p d b)))
      go false b = done _ (replies ws g (reply_done (members_in ws) (named (members_in ws) n) p d b))

  -- Turns

  agains_here : (ws : List ℕ) (most : ℕ) → ComesToDone n ws → FewAgains n most ws
  unfolding run
  agains_here ws most e = record { agains = 0; few = omega arith; each = λ k h. absurd (omega arith); last = e }

  agains_next : (ws : List ℕ) (most : ℕ) → stabilize_answer ws n ≡ accepted (0 ∷ []) → FewAgains n most (stabilize_words ws n) → FewAgains n (suc most) ws
  unfolding run call_words
  agains_next ws most first t = record { agains = suc t.agains; few = omega (arith, t.few); each = each; last = t.last }
    where
      each : (k : ℕ) → k < suc t.agains → stabilize_answer (run (replicate k (Stabilize n)) ws) n ≡ accepted (0 ∷ [])
      each zero h = first
      each (suc k) h = t.each k (omega arith)

  -- by the cases of the first step
  agains_by : (i : ℕ) (ws : List ℕ) → With ws → (is_pending (named (members_in ws) n) ≡ false → live (members_in ws) (successor (named (members_in ws) n)) ≡ false → FewAgains n i ws) → FewAgains n i ws
  agains_by i ws g dead = go (is_pending (named (members_in ws) n)) refl (live (members_in ws) (successor (named (members_in ws) n))) refl
    where
      go : (p : Bool) → is_pending (named (members_in ws) n) ≡ p → (d : Bool) → live (members_in ws) (successor (named (members_in ws) n)) ≡ d → FewAgains n i ws
      go true p d q = agains_here ws i (finish ws g p)
      go false p true q = agains_here ws i (comes_to_done ws g p q)
      go false p false q = dead p q

  -- "again" leaves a live entry one place further in front
  nearer : (ws : List ℕ) (g : With ws) (i : ℕ) → is_pending (named (members_in ws) n) ≡ false → live (members_in ws) (successor (named (members_in ws) n)) ≡ false →
      LiveAt (ids (members_in ws)) (named (members_in ws) n).successors (suc i) → LiveAt (ids (members_in (stabilize_words ws n))) (named (members_in (stabilize_words ws n)) n).successors i
  nearer ws g i p q a =
      subst (λ (xs : List ℕ). LiveAt xs (named (members_in (stabilize_words ws n)) n).successors i) (sym (same_ids ws g))
      (subst (λ (v : Member). LiveAt (ids (members_in ws)) v.successors i) (ap count_step (step_dead (members_in ws) (named (members_in ws) n) (space_of (table_of ws)) p q) ∙ sym (stepped ws g))
      (in_front (ids (members_in ws)) (named (members_in ws) n).successors _ i a))

  -- where a live entry stands at place i of the list
  few_agains : (i : ℕ) (ws : List ℕ) → With ws → LiveAt (ids (members_in ws)) (named (members_in ws) n).successors i → FewAgains n i ws
  few_agains zero ws g a = agains_by 0 ws g (λ p q. absurd (true≢false (sym a.lives ∙ q)))
  few_agains (suc i) ws g a = agains_by (suc i) ws g
      (λ p q. agains_next ws i (replies ws g (again (members_in ws) (named (members_in ws) n) p q))
      (few_agains i (stabilize_words ws n) (next ws g) (nearer ws g i p q a)))

  -- A first entry that is a member

  clear_here : (ws : List ℕ) (most : ℕ) → live (members_in ws) (successor (named (members_in ws) n)) ≡ true → Clears n most ws
  unfolding run
  clear_here ws most h = record { steps = 0; few = omega arith; clear = h }

  clear_next : (ws : List ℕ) (most : ℕ) → Clears n most (stabilize_words ws n) → Clears n (suc most) ws
  unfolding run call_words
  clear_next ws most c = record { steps = suc c.steps; few = omega (arith, c.few); clear = c.clear }

  -- nothing pending, and a live entry at place i: i steps
  clears : (i : ℕ) (ws : List ℕ) → With ws → is_pending (named (members_in ws) n) ≡ false → LiveAt (ids (members_in ws)) (named (members_in ws) n).successors i → Clears n i ws
  clears zero ws g p a = clear_here ws 0 a.lives
  clears (suc i) ws g p a = go (live (members_in ws) (successor (named (members_in ws) n))) refl
      (λ q. clears i (stabilize_words ws n) (next ws g) (ap is_pending
      (stepped ws g ∙ ap count_step (sym (step_dead (members_in ws) (named (members_in ws) n) (space_of (table_of ws)) p q))) ∙ p) (nearer ws g i p q a))
    where
      go : (d : Bool) → live (members_in ws) (successor (named (members_in ws) n)) ≡ d
          → (live (members_in ws) (successor (named (members_in ws) n)) ≡ false → Clears n i (stabilize_words ws n)) → Clears n (suc i) ws
      go true q ih = clear_here ws (suc i) q
      go false q ih = clear_next ws i (ih q)

  -- a pending step leaves nothing pending, and a live entry no further behind
  finished : (i : ℕ) (ws : List ℕ) (g : With ws) → is_pending (named (members_in ws) n) ≡ true → LiveAt (ids (members_in ws)) (named (members_in ws) n).successors i → Clears n i (stabilize_words ws n)
  finished i ws g p a = go (live ms m.candidate) refl
    where
      ms : List Member
      ms = members_in ws

      m : Member
      m = named ms n

      now : named (members_in (stabilize_words ws n)) n ≡ count_step (stabilize_from_predecessor ms m)
      now = stepped ws g ∙ ap count_step (sym (step_pending ms m (space_of (table_of ws)) p))

      go : (b : Bool) → live ms m.candidate ≡ b → Clears n i (stabilize_words ws n)
      go true e = clear_here (stabilize_words ws n) i (rw (now ∙ ap count_step (sym (candidate_taken ms m e))) (subst (λ (xs : List ℕ). contains xs m.candidate ≡ true) (sym (same_ids ws g)) e))
      go false e =
          let q = now ∙ ap count_step (sym (candidate_cleared ms m e)) in
          clears i (stabilize_words ws n) (next ws g) (ap is_pending q)
          (subst (λ (xs : List ℕ). LiveAt xs (named (members_in (stabilize_words ws n)) n).successors i) (sym (same_ids ws g))
          (subst (λ (v : Member). LiveAt (ids ms) v.successors i) (sym q) a))

  clears_by : (i : ℕ) (ws : List ℕ) → With ws → LiveAt (ids (members_in ws)) (named (members_in ws) n).successors i → Clears n (suc i) ws
  clears_by i ws g a = go (is_pending (named (members_in ws) n)) refl
    where
      go : (b : Bool) → is_pending (named (members_in ws) n) ≡ b → Clears n (suc i) ws
      go true p = clear_next ws i (finished i ws g p a)
      go false p = let c = clears i ws g p a in record { steps = c.steps; few = omega (arith, c.few); clear = c.clear }

-- a live entry of a member of a sound table
module _ (ws : List ℕ) (n : ℕ) (h : well_formed ws ≡ true) (s : sound (table_of ws) ≡ true) (l : live (members_in ws) n ≡ true) where
  record Ready : Type 0 where
    place : ℕ
    below : place < (table_of ws).r
    there : LiveAt (ids (members_in ws)) (named (members_in ws) n).successors place
    with_it : With n ws

  ready : Ready
  ready =
      let f = found (members_in ws) (live_in (members_in ws) n l) in
      let a = live_at (ids (members_in ws)) (named (members_in ws) n).successors ((sound_facts (table_of ws) s).live_entry (named (members_in ws) n) f.0) in
      let t = ((well_formed_facts ws h).table.each (named (members_in ws) n) f.0).list_length in
      record { place = a.0; below = omega (arith, a.1.inside, t); there = a.1; with_it = record { good = record { is_well_formed = h; is_sound = s }; member = l } }

-- of every member of a sound table: "again" at most r - 1 times, then "look" at most once, then "done"
pub again_ends : (ws : List ℕ) (n : ℕ) → well_formed ws ≡ true → sound (table_of ws) ≡ true → live (members_in ws) n ≡ true → FewAgains n ((table_of ws).r - 1) ws
again_ends ws n h s l =
    let a = ready ws n h s l in
    let e = few_agains n a.place ws a.with_it a.there in
    record { agains = e.agains; few = omega (arith, e.few, a.below); each = e.each; last = e.last }

-- and its first entry is a member after at most r steps: r - 1 that drop one, and one that was pending
pub first_clears : (ws : List ℕ) (n : ℕ) → well_formed ws ≡ true → sound (table_of ws) ≡ true → live (members_in ws) n ≡ true → Clears n (table_of ws).r ws
first_clears ws n h s l =
    let a = ready ws n h s l in
    let c = clears_by n a.place ws a.with_it a.there in
    record { steps = c.steps; few = omega (arith, c.few, a.below); clear = c.clear }
