-- Each step keeps a table well-formed, sound or not: the record that it writes is right. And what an accepted call leaves in a slice: its table, well-formed.
use Rattle.std.specs.Prelude.{◌≡◌, refl, ◌⊎◌, Bool, true, false, List, [], ◌∷◌, ◌++◌, ℕ, suc, ◌+◌, ◌-◌, ◌*◌, ◌≤◌, ◌<◌, length, drop, ltb, if◌then◌else◌}
use Rattle.std.proofs.Common.{sym, ap, ◌∙◌, inl, inr, ⊎_elim, true≢false, arith, length-take, length-append, ltb-true}
use Rattle.model.specs.Lists.{last_of, without_last}
use Rattle.model.specs.Identifier.{after}
use Rattle.model.specs.Table.{Member, Table, space_of, word_limit, header_size, record_size, size, table_of, members_in, ids, well_formed}
use Rattle.model.specs.Ring.{live, named, successor}
use Rattle.model.specs.Steps.{with_members, with_pending, with_predecessor, joiner, joined, drop_head, adopt, offered, stabilize, next_step, count_step, replaced, stabilized, renews, rectify_in, rectified, is_named, without}
use Rattle.model.specs.Refusals.{join_refusal, member_refusal}
use Rattle.model.specs.Calls.{written, written_freed}
use Rattle.laws.specs.Order.{after_lt}
use Rattle.laws.specs.Lists.{In, there, in_cons, in_nil, in_append, length_ids, found, live_in, in_live}
use Rattle.laws.specs.Tables.{FormedMember, Formed, idle_formed, list_formed, pending_formed, predecessor_formed, steps_formed, well_formed_facts, facts_well_formed, formed_lists, written_formed, written_freed_formed}
use Rattle.laws.specs.Words.{written_table, written_freed_table, written_length, written_freed_length}
use Rattle.laws.specs.Accepted.{join_accepted, member_table, member_accepted, has_room}
use Rattle.laws.specs.Stabilize.{StepCase, takes, clears, drops, looks, settles, step_case}
use Rattle.laws.specs.Removed.{staying_formed, without_size}
use Rattle.laws.specs.Extended.{last_in, in_take}
use Rattle.theory.specs.Keep.{changed_formed, replaced_ids, replaced_changed, inserted_changed, inserted_length, inserted_rising}

-- What adopting x makes of its list l: x, and then l without its last entry

pub adopted_length : (x : ℕ) (l : List ℕ) → 1 ≤ length l → length (x ∷ without_last l) ≡ length l
adopted_length x l h = simp length-take (omega arith)

adopted_in : {e : ℕ} (x : ℕ) (l : List ℕ) → In e (x ∷ without_last l) → (e ≡ x) ⊎ In e l
adopted_in x l i = ⊎_elim inl (λ k. inr (in_take (length l - 1) l k)) (in_cons i)

-- What dropping a head makes of a list: the list without its first entry, and then z

pub dropped_length : (z : ℕ) (l : List ℕ) → 1 ≤ length l → length (drop 1 l ++ (z ∷ [])) ≡ length l
dropped_length z [] h = absurd (omega arith)
dropped_length z (y ∷ l) h = rw length-append (omega arith)

dropped_in : {e : ℕ} (z : ℕ) (l : List ℕ) → In e (drop 1 l ++ (z ∷ [])) → (e ≡ z) ⊎ In e l
dropped_in z [] i = in_cons i
dropped_in z (y ∷ l) i = ⊎_elim (λ k. inr (there k)) (λ k. ⊎_elim inl (λ j. absurd (in_nil j)) (in_cons k)) (in_append l (z ∷ []) i)

-- One step more

next_step_small : (s : ℕ) → s < word_limit → next_step s < word_limit
unfolding next_step
next_step_small s h = go (ltb (suc s) word_limit) refl
  where
    go : (b : Bool) → ltb (suc s) word_limit ≡ b → (if b then suc s else s) < word_limit
    go true e = ltb-true _ _ e
    go false e = h

pub counted_formed : {w r : ℕ} (m : Member) → FormedMember w r m → FormedMember w r (count_step m)
counted_formed m f = steps_formed f _ (next_step_small m.steps f.steps_small)

module _ (T : Table) (k : Formed T) where
  -- what is known of each member
  pub right : {m : Member} → In m T.members → FormedMember (space_of T) T.r m
  right {m} i = k.each m i

  pub small : (x : ℕ) → In x (ids T.members) → x < space_of T
  small x i = let f = found T.members i in omega (arith, (right f.0).id_small, f.1)

  pub long : {m : Member} → In m T.members → 1 ≤ length m.successors
  long i = omega (arith, (right i).list_length, k.r_low)

  -- the records that the steps write

  module _ (m : Member) (i : In m T.members) where
    pub zero_small : 0 < space_of T
    zero_small = omega (arith, (right i).id_small)

    pub drop_formed : FormedMember (space_of T) T.r (drop_head (space_of T) m)
    drop_formed =
        let f = right i in
        let l = m.successors in
        let z = after (space_of T) (last_of l) in
        let last = f.entries_small (last_of l) (last_in l (long i)) in
        list_formed f _ (dropped_length z l (long i) ∙ f.list_length) (λ e j. ⊎_elim (λ q. omega (arith, q, after_lt (space_of T) (last_of l) last)) (f.entries_small e) (dropped_in z l j))

    -- b and c are the new pending and candidate
    pub adopt_formed : (x b c : ℕ) → In x (ids T.members) → b ≤ 1 → (b ≡ 0 → c ≡ 0) → c < space_of T
        → FormedMember (space_of T) T.r (with_pending b c (adopt x (named T.members x).successors m))
    adopt_formed x b c j hb hc sc =
        let n = found T.members j in
        let l = (named T.members x).successors in
        pending_formed (list_formed (right i) _ (adopted_length x l (long n.0) ∙ (right n.0).list_length)
        (λ e p. ⊎_elim (λ q. omega (arith, q, small x j)) ((right n.0).entries_small e) (adopted_in x l p))) b c hb hc sc

    pub offered_small : In (successor m) (ids T.members) → offered T.members m < space_of T
    offered_small j = (right (found T.members j).0).predecessor_small

    stabilize_formed : FormedMember (space_of T) T.r (count_step (stabilize (space_of T) T.members m))
    stabilize_formed = counted_formed _ (go (step_case (space_of T) T.members m))
      where
        go : {l : List ℕ} {u : Member} → StepCase (space_of T) T.members m l u → FormedMember (space_of T) T.r u
        go (takes p l) = adopt_formed m.candidate 0 0 (live_in T.members m.candidate l) (omega arith) (λ q. refl) zero_small
        go (clears p l) = pending_formed (right i) 0 0 (omega arith) (λ q. refl) zero_small
        go (drops p l) = drop_formed
        go (looks p l b) = let j = live_in T.members (successor m) l in adopt_formed (successor m) 1 (offered T.members m) j (omega arith) (omega arith) (offered_small j)
        go (settles p l b) = adopt_formed (successor m) m.pending m.candidate (live_in T.members (successor m) l) (right i).pending_bit (right i).no_candidate (right i).candidate_small

    rectify_formed : (q : ℕ) → q < space_of T → FormedMember (space_of T) T.r (rectify_in T.members q m)
    rectify_formed q hq = go (renews (live T.members m.predecessor) q m)
      where
        go : (b : Bool) → FormedMember (space_of T) T.r (if b then with_predecessor q m else m)
        go true = predecessor_formed (right i) q hq
        go false = right i

  pub joiner_formed : (j p : ℕ) → j < space_of T → In p (ids T.members) → FormedMember (space_of T) T.r (joiner T.members j p)
  joiner_formed j p hj ip = let f = right (found T.members ip).0 in idle_formed (space_of T) T.r j p _ hj (small p ip) f.list_length f.entries_small

  -- the tables after the steps

  pub replaced_formed : (v : Member) → FormedMember (space_of T) T.r v → Formed (with_members (replaced v T.members) T)
  replaced_formed v f =
      let ns = replaced v T.members in
      let few : length ns ≤ 256 = omega (arith, length_ids ns, ap length (replaced_ids v T.members), length_ids T.members, k.count_high) in
      changed_formed T v ns k f (replaced_changed v T.members) few (rw (replaced_ids v T.members) k.ids_rising)

  pub joined_formed : (j p : ℕ) → j < space_of T → live T.members j ≡ false → live T.members p ≡ true → length T.members < 256 → Formed (joined j p T)
  joined_formed j p hj ej ep few =
      let v = joiner T.members j p in
      let rise = inserted_rising v T.members k.ids_rising (λ i. true≢false (sym (in_live T.members i) ∙ ej)) in
      changed_formed T v _ k (joiner_formed j p hj (live_in T.members p ep)) (inserted_changed v T.members) (omega (arith, inserted_length v T.members)) rise

  stabilized_formed : (n : ℕ) → live T.members n ≡ true → Formed (stabilized n T)
  stabilized_formed n e = replaced_formed _ (stabilize_formed (named T.members n) (found T.members (live_in T.members n e)).0)

  rectified_formed : (n q : ℕ) → q < space_of T → live T.members n ≡ true → Formed (rectified n q T)
  rectified_formed n q hq e = replaced_formed _ (rectify_formed (named T.members n) (found T.members (live_in T.members n e)).0 q hq)

-- Slices

-- the slice us has the table T, is well-formed, and as long as ws
pub record Written (T : Table) (us ws : List ℕ) : Type 0 where
  pub is_well_formed : well_formed us ≡ true
  pub table : table_of us ≡ T
  pub same_length : length us ≡ length ws

pub written_leaves : (T : Table) (ws : List ℕ) → Formed T → size T ≤ length ws → Written T (written T ws) ws
written_leaves T ws f h =
    let lists = formed_lists T f in
    record { is_well_formed = facts_well_formed (written T ws) (written_formed T ws f h); table = written_table T ws lists; same_length = written_length T ws lists h }

freed_leaves : (T : Table) (ws : List ℕ) → Formed T → size T + record_size T.r ≤ length ws → Written T (written_freed T ws) ws
freed_leaves T ws f h =
    let lists = formed_lists T f in
    record { is_well_formed = facts_well_formed (written_freed T ws) (written_freed_formed T ws f h); table = written_freed_table T ws lists; same_length = written_freed_length T ws lists h }

-- the words that one member more takes
more_size : (r m n : ℕ) → m ≡ suc n → header_size + m * record_size r ≡ (header_size + n * record_size r) + record_size r
more_size r m n e = rw e (omega arith)

-- what the calls leave where they are accepted
module _ (ws : List ℕ) where
  formed_in : well_formed ws ≡ true → Formed (table_of ws)
  formed_in h = (well_formed_facts ws h).table

  replaced_size : well_formed ws ≡ true → (v : Member) → header_size + length (replaced v (members_in ws)) * record_size (table_of ws).r ≤ length ws
  replaced_size h v = rw (sym (length_ids (replaced v (members_in ws))) ∙ ap length (replaced_ids v (members_in ws)) ∙ length_ids (members_in ws)) (well_formed_facts ws h).fits

  pub join_leaves : (j p : ℕ) → j < space_of (table_of ws) → join_refusal ws j p ≡ 0 → Written (joined j p (table_of ws)) (written (joined j p (table_of ws)) ws) ws
  join_leaves j p hj e =
      let a = join_accepted ws j p e in
      let room = has_room ws a.room in
      let grown = more_size (table_of ws).r _ (length (members_in ws)) (inserted_length (joiner (members_in ws) j p) (members_in ws)) in
      written_leaves (joined j p (table_of ws)) ws (joined_formed (table_of ws) (formed_in a.table) j p hj a.new a.by room.0) (omega (arith, (well_formed_facts ws a.table).fits))

  pub stabilize_leaves : (n : ℕ) → member_refusal ws n ≡ 0 → Written (stabilized n (table_of ws)) (written (stabilized n (table_of ws)) ws) ws
  stabilize_leaves n e =
      let h = member_table ws n e in
      written_leaves (stabilized n (table_of ws)) ws (stabilized_formed (table_of ws) (formed_in h) n (member_accepted ws n e)) (replaced_size h (count_step (stabilize (space_of (table_of ws)) (members_in ws) (named (members_in ws) n))))

  pub rectify_leaves : (n q : ℕ) → q < space_of (table_of ws) → member_refusal ws n ≡ 0 → Written (rectified n q (table_of ws)) (written (rectified n q (table_of ws)) ws) ws
  rectify_leaves n q hq e =
      let h = member_table ws n e in
      written_leaves (rectified n q (table_of ws)) ws (rectified_formed (table_of ws) (formed_in h) n q hq (member_accepted ws n e)) (replaced_size h (rectify_in (members_in ws) q (named (members_in ws) n)))

  -- a loss and a withdrawal
  pub without_leaves : (n : ℕ) → well_formed ws ≡ true → live (members_in ws) n ≡ true → Written (without n (table_of ws)) (written_freed (without n (table_of ws)) ws) ws
  without_leaves n h l =
      let f = well_formed_facts ws h in
      freed_leaves (without n (table_of ws)) ws (staying_formed (is_named n) (table_of ws) f.table)
      (omega (arith, f.fits, without_size n (table_of ws) f.table (live_in (members_in ws) n l)))
