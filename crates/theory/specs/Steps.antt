-- Each step of a member keeps a table well-formed and sound: the record it writes is fresh.
use Rattle.std.specs.Prelude.{◌≡◌, Bool, not, ◌||◌, ℕ, ◌-◌, ◌≤◌, ◌<◌, length, get_or, drop, eqb, if◌then◌else◌}
use Rattle.std.proofs.Math.Path.{refl}
use Rattle.std.proofs.Common.{sym, ◌∙◌, arith}
use Rattle.std.proofs.Math.Bool.{true, false, true≢false}
use Rattle.std.proofs.lemmas.Bool.{false≢true, not-true}
use mathlib.Core.List.{List, [], ◌∷◌, ◌++◌}
use Rattle.model.specs.Lists.{any, last_of}
use Rattle.model.specs.Identifier.{between, after}
use Rattle.model.specs.Table.{Member, Table, space_of, ids}
use Rattle.model.specs.Ring.{live, named, successor, skips, principal, is_pending, candidate_inside}
use Rattle.model.specs.Steps.{with_members, with_pending, with_predecessor, joiner, inserted, joined, drop_head, adopt, clear_pending, offered, stabilize, replaced, stabilized, renews, rectify_in, rectified, without_those, count_step}
use Rattle.model.specs.Refusals.{cuts_off, too_few_principals}
use Rattle.laws.specs.Order.{true_inside, outside_false, false_outside, inner, inner_from, after_outside}
use Rattle.laws.specs.Lists.{or-false, implied, In, in_left, found, live_in, in_live, every_in, any_in, in_any}
use Rattle.laws.specs.Tables.{Formed, pending_formed, predecessor_formed}
use Rattle.laws.specs.Stabilize.{StepCase, takes, clears, drops, looks, settles, step_case}
use Rattle.laws.specs.Removed.{staying_formed, staying_sound}
use Rattle.laws.specs.Extended.{last_in, skips_take, skips_append, skips_start}
use Rattle.theory.specs.Keep.{Kept, Fresh, changed_sound, replaced_changed, inserted_changed}
use Rattle.theory.specs.Forms.{counted_formed, right, small, long, zero_small, drop_formed, adopt_formed, offered_small, joiner_formed, replaced_formed, joined_formed}

-- What dropping a head makes of a list: the list without its first entry, and then z

dropped_live : (ms : List Member) (z : ℕ) (l : List ℕ) → live ms (get_or l 0 0) ≡ false → any (live ms) l ≡ true → any (live ms) (drop 1 l ++ (z ∷ [])) ≡ true
dropped_live ms z [] d h = absurd (false≢true h)
dropped_live ms z (y ∷ l) d h = let w = any_in (live ms) l (rw d at h) in in_any (live ms) (in_left (z ∷ []) w.1) w.2

-- nothing but the head can be skipped anew, and it is no principal if it is dead
dropped_skips : (q a z : ℕ) (l : List ℕ) → (q ≡ get_or l 0 0 → ⊥) → between (last_of l) q z ≡ false → 1 ≤ length l → skips q a l ≡ false → skips q a (drop 1 l ++ (z ∷ [])) ≡ false
dropped_skips q a z [] n o le h = absurd (omega arith)
dropped_skips q a z (y ∷ l) n o le h = let w = or-false (between a q y) _ h in skips_start q a y (l ++ (z ∷ [])) w.0 n (skips_append q y l z [] w.1 o refl)

-- The first entry

head_spares : (q a : ℕ) (l : List ℕ) → 1 ≤ length l → skips q a l ≡ false → between a q (get_or l 0 0) ≡ false
head_spares q a [] le h = absurd (omega arith)
head_spares q a (y ∷ l) le h = (or-false (between a q y) _ h).0

-- the step count is no part of what makes a table sound
counted_fresh : (T : Table) (v : Member) → Fresh T v → Fresh T (count_step v)
unfolding candidate_inside
counted_fresh T v f = record {
  formed = counted_formed v f.formed;
  live_entry = f.live_entry;
  candidate_inside_law = f.candidate_inside_law;
  spares = f.spares;
}

module _ (T : Table) (k : Kept T) where
  spared : (q : ℕ) {m : Member} → principal T.members q ≡ true → In m T.members → skips q m.id m.successors ≡ false
  spared q h i = not-true _ (every_in (λ m. not (skips q m.id m.successors)) h i)

  f : Formed T
  f = k.formed

  module _ (m : Member) (i : In m T.members) where
    -- no principal lies between a member and its successor
    successor_spares : (q : ℕ) → principal T.members q ≡ true → between m.id q (successor m) ≡ false
    successor_spares q h = head_spares q m.id m.successors (long T f i) (spared q h i)

    -- the head is dropped: it is dead, so no principal, and nothing lies between the last entry and the identifier after it
    drop_fresh : is_pending m ≡ false → live T.members (successor m) ≡ false → Fresh T (drop_head (space_of T) m)
    unfolding candidate_inside
    drop_fresh ep el =
        let l = m.successors in
        let z = after (space_of T) (last_of l) in
        let last = (right T f i).entries_small (last_of l) (last_in l (long T f i)) in
        record {
          formed = drop_formed T f m i;
          live_entry = dropped_live T.members z l el (k.is_sound.live_entry m i);
          candidate_inside_law = rw ep;
          spares = λ q j h. dropped_skips q m.id z l (λ e. true≢false (sym (in_live T.members j) ∙ rw e el))
              (outside_false (after_outside (space_of T) (last_of l) q last (small T f q j))) (long T f i) (spared q h i);
        }

    -- x is a member, and no principal lies between m and x; b and c are the new pending and candidate
    adopt_fresh : (x b c : ℕ) → In x (ids T.members) → ((q : ℕ) → principal T.members q ≡ true → between m.id q x ≡ false) → b ≤ 1 → (b ≡ 0 → c ≡ 0)
        → c < space_of T → (not (eqb b 1) || between m.id c x) ≡ true → Fresh T (with_pending b c (adopt x (named T.members x).successors m))
    unfolding candidate_inside
    adopt_fresh x b c j out hb hc sc inside =
        let n = found T.members j in
        let l = (named T.members x).successors in
        record {
          formed = adopt_formed T f m i x b c j hb hc sc;
          live_entry = rw (in_live T.members j);
          candidate_inside_law = inside;
          spares = λ q p h. rw (out q h) (skips_take q x (length l - 1) l (rw n.1 at (spared q h n.0)));
        }

    -- the list stays; p, b and c are the new predecessor, pending and candidate
    same_list_fresh : (p b c : ℕ) → p < space_of T → b ≤ 1 → (b ≡ 0 → c ≡ 0) → c < space_of T → candidate_inside (with_pending b c m) ≡ true → Fresh T (with_predecessor p (with_pending b c m))
    unfolding candidate_inside
    same_list_fresh p b c hp hb hc sc inside =
        record {
          formed = predecessor_formed (pending_formed (right T f i) b c hb hc sc) p hp;
          live_entry = k.is_sound.live_entry m i;
          candidate_inside_law = inside;
          spares = λ q j h. spared q h i;
        }

    clear_fresh : Fresh T (clear_pending m)
    unfolding candidate_inside
    clear_fresh = same_list_fresh m.predecessor 0 0 (right T f i).predecessor_small (omega arith) (λ q. refl) (zero_small T f m i) refl

    pub rectify_fresh : (q : ℕ) → q < space_of T → Fresh T (rectify_in T.members q m)
    rectify_fresh q hq = go (renews (live T.members m.predecessor) q m)
      where
        with_predecessor_law : (p : ℕ) → p < space_of T → Fresh T (with_predecessor p m)
        with_predecessor_law p h = let g = right T f i in same_list_fresh p m.pending m.candidate h g.pending_bit g.no_candidate g.candidate_small (k.is_sound.candidate_inside_law m i)

        go : (b : Bool) → Fresh T (if b then with_predecessor q m else m)
        go true = with_predecessor_law q hq
        go false = with_predecessor_law m.predecessor (right T f i).predecessor_small

    -- a pending candidate lies inside, so no principal lies between m and it
    candidate_spares : is_pending m ≡ true → (q : ℕ) → principal T.members q ≡ true → between m.id q m.candidate ≡ false
    unfolding candidate_inside
    candidate_spares ep q h =
        outside_false (inner (true_inside m.id m.candidate (successor m) (implied (k.is_sound.candidate_inside_law m i) ep)) (false_outside m.id q (successor m) (successor_spares q h)))

    -- one stabilize step, whichever of its five cases
    pub stabilize_fresh : Fresh T (count_step (stabilize (space_of T) T.members m))
    stabilize_fresh = counted_fresh T _ (go (step_case (space_of T) T.members m))
      where
        go : {l : List ℕ} {u : Member} → StepCase (space_of T) T.members m l u → Fresh T u
        go (takes p l) = adopt_fresh m.candidate 0 0 (live_in T.members m.candidate l) (candidate_spares p) (omega arith) (λ q. refl) (zero_small T f m i) refl
        go (clears p l) = clear_fresh
        go (drops p l) = drop_fresh p l
        go (looks p l b) = let j = live_in T.members (successor m) l in adopt_fresh (successor m) 1 (offered T.members m) j successor_spares (omega arith) (omega arith) (offered_small T f m i j) b
        go (settles p l b) = adopt_fresh (successor m) m.pending m.candidate (live_in T.members (successor m) l) successor_spares
            (right T f i).pending_bit (right T f i).no_candidate (right T f i).candidate_small (rw p)

  -- the joining j lies between p and its first entry, so p's list skips no principal from j on either
  pub joiner_fresh : (j p : ℕ) → j < space_of T → In p (ids T.members) → between p j (successor (named T.members p)) ≡ true → Fresh T (joiner T.members j p)
  unfolding candidate_inside
  joiner_fresh j p hj ip b =
      let n = found T.members ip in
      record {
        formed = joiner_formed T f j p hj ip;
        live_entry = k.is_sound.live_entry (named T.members p) n.0;
        candidate_inside_law = refl;
        spares = λ q i h. go q (named T.members p).successors (rw n.1 at (spared q h n.0)) b;
      }
    where
      go : (q : ℕ) (l : List ℕ) → skips q p l ≡ false → between p j (get_or l 0 0) ≡ true → skips q j l ≡ false
      go q [] h b = refl
      go q (y ∷ l) h b = let c = or-false (between p q y) _ h in rw (outside_false (inner_from (true_inside p j y b) (false_outside p q y c.0))) c.1

  -- The tables after the steps: well-formed and sound with T

  replaced_kept : (v : Member) → Fresh T v → Kept (with_members (replaced v T.members) T)
  replaced_kept v u =
      let ns = replaced v T.members in
      let c = replaced_changed v T.members in
      record { formed = replaced_formed T f v u.formed; is_sound = changed_sound T v ns k.is_sound u c }

  pub joined_kept : (j p : ℕ) → j < space_of T → live T.members j ≡ false → live T.members p ≡ true
      → between p j (successor (named T.members p)) ≡ true → length T.members < 256 → Kept (joined j p T)
  joined_kept j p hj ej ep b few =
      let v = joiner T.members j p in
      let ns = inserted v T.members in
      let u = joiner_fresh j p hj (live_in T.members p ep) b in
      record { formed = joined_formed T f j p hj ej ep few; is_sound = changed_sound T v ns k.is_sound u (inserted_changed v T.members) }

  pub rectified_kept : (n q : ℕ) → q < space_of T → live T.members n ≡ true → Kept (rectified n q T)
  rectified_kept n q hq e = replaced_kept (rectify_in T.members q (named T.members n)) (rectify_fresh (named T.members n) (found T.members (live_in T.members n e)).0 q hq)

  -- without any of its members, where 6 and 7 are not against it
  pub without_kept : (gone : Member → Bool) → cuts_off (without_those gone T) ≡ false → too_few_principals (without_those gone T) ≡ false → Kept (without_those gone T)
  without_kept gone six seven = record { formed = staying_formed gone T k.formed; is_sound = staying_sound gone T k.is_sound six seven }

  pub stabilized_kept : (n : ℕ) → live T.members n ≡ true → Kept (stabilized n T)
  stabilized_kept n e = replaced_kept (count_step (stabilize (space_of T) T.members (named T.members n)))
      (stabilize_fresh (named T.members n) (found T.members (live_in T.members n e)).0)
