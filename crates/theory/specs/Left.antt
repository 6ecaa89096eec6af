-- The table that an accepted call leaves in a slice, sound or not: each list keeps its r entries, so what was written is read.
use Rattle.std.specs.Prelude.{◌≡◌, ◌⊎◌, true, List, ℕ, ◌≤◌, length}
use Rattle.std.proofs.Common.{ap, ◌∙◌, inl, inr, arith}
use Rattle.model.specs.Lists.{last_of}
use Rattle.model.specs.Identifier.{after}
use Rattle.model.specs.Table.{Member, space_of, table_of, members_in, well_formed}
use Rattle.model.specs.Ring.{live, named, successor}
use Rattle.model.specs.Steps.{joiner, joined, adopt, stabilize, stabilized, rectify_in, rectified, is_named, without, count_step}
use Rattle.model.specs.Refusals.{join_refusal, member_refusal, leave_refusal}
use Rattle.model.specs.Calls.{written, written_freed, stabilize_words, fail_words, leave_words}
use Rattle.laws.specs.Lists.{In, found, live_in}
use Rattle.laws.specs.Accepted.{join_accepted, member_table, member_accepted, leave_accepted}
use Rattle.laws.specs.Stabilize.{StepCase, takes, clears, drops, looks, settles, step_case}
use Rattle.laws.specs.Rectify.{rectify_same}
use Rattle.laws.specs.Words.{Lengths, written_table, written_freed_table}
use Rattle.laws.specs.Tables.{well_formed_facts, formed_lists}
use Rattle.laws.specs.Removed.{staying_from}
use Rattle.theory.specs.Keep.{Changed, replaced_changed, inserted_changed}
use Rattle.theory.specs.Forms.{adopted_length, dropped_length}

-- the old members and at most one record with a list of r entries
changed_lists : (r : ℕ) (ms ns : List Member) (v : Member) → Lengths r ms → length v.successors ≡ r → Changed ms v ns → Lengths r ns
changed_lists r ms ns v lists e c m i = go (c.from m i)
  where
    go : (m ≡ v) ⊎ In m ms → length m.successors ≡ r
    go (inl q) = ap (λ (k : Member). length k.successors) q ∙ e
    go (inr j) = lists m j

module _ (r : ℕ) (ms : List Member) (lists : Lengths r ms) (low : 1 ≤ r) where
  -- the list of a member, whoever it is
  listed : (x : ℕ) → live ms x ≡ true → length (named ms x).successors ≡ r
  listed x l = lists (named ms x) (found ms (live_in ms x l)).0

  adopted : (x : ℕ) (m : Member) → live ms x ≡ true → length (adopt x (named ms x).successors m).successors ≡ r
  adopted x m l = adopted_length x (named ms x).successors (omega (arith, listed x l)) ∙ listed x l

  stabilize_list : (w : ℕ) (m : Member) → In m ms → length (stabilize w ms m).successors ≡ r
  stabilize_list w m i = go (step_case w ms m)
    where
      go : {l : List ℕ} {u : Member} → StepCase w ms m l u → length u.successors ≡ r
      go (takes p l) = adopted m.candidate m l
      go (clears p l) = lists m i
      go (drops p l) = dropped_length (after w (last_of m.successors)) m.successors (omega (arith, lists m i)) ∙ lists m i
      go (looks p l b) = adopted (successor m) m l
      go (settles p l b) = adopted (successor m) m l

  rectify_list : (q : ℕ) (m : Member) → In m ms → length (rectify_in ms q m).successors ≡ r
  rectify_list q m i = ap length (rectify_same ms q m).list ∙ lists m i

module _ (ws : List ℕ) where
  -- lists of a well-formed table

  lists_in : well_formed ws ≡ true → Lengths (table_of ws).r (members_in ws)
  lists_in h = formed_lists (table_of ws) (well_formed_facts ws h).table

  low_in : well_formed ws ≡ true → 1 ≤ (table_of ws).r
  low_in h = (well_formed_facts ws h).table.r_low

  -- the new lists, where the call is accepted

  pub joiner_listed : (j p : ℕ) → join_refusal ws j p ≡ 0 → length (joiner (members_in ws) j p).successors ≡ (table_of ws).r
  joiner_listed j p e = let a = join_accepted ws j p e in listed (table_of ws).r (members_in ws) (lists_in a.table) (low_in a.table) p a.by

  pub stabilize_listed : (n : ℕ) → member_refusal ws n ≡ 0 → length (stabilize (space_of (table_of ws)) (members_in ws) (named (members_in ws) n)).successors ≡ (table_of ws).r
  stabilize_listed n e = let h = member_table ws n e in stabilize_list (table_of ws).r (members_in ws) (lists_in h) (low_in h) (space_of (table_of ws))
      (named (members_in ws) n) (found (members_in ws) (live_in (members_in ws) n (member_accepted ws n e))).0

  pub rectify_listed : (n q : ℕ) → member_refusal ws n ≡ 0 → length (rectify_in (members_in ws) q (named (members_in ws) n)).successors ≡ (table_of ws).r
  rectify_listed n q e = let h = member_table ws n e in rectify_list (table_of ws).r (members_in ws) (lists_in h) (low_in h) q (named (members_in ws) n)
      (found (members_in ws) (live_in (members_in ws) n (member_accepted ws n e))).0

  -- the table that is written is the one that is read

  pub joined_read : (j p : ℕ) → join_refusal ws j p ≡ 0 → table_of (written (joined j p (table_of ws)) ws) ≡ joined j p (table_of ws)
  joined_read j p e =
      let v = joiner (members_in ws) j p in
      written_table (joined j p (table_of ws)) ws (changed_lists (table_of ws).r (members_in ws) _ v (lists_in (join_accepted ws j p e).table) (joiner_listed j p e) (inserted_changed v (members_in ws)))

  pub stabilized_read : (n : ℕ) → member_refusal ws n ≡ 0 → table_of (written (stabilized n (table_of ws)) ws) ≡ stabilized n (table_of ws)
  stabilized_read n e =
      let v = count_step (stabilize (space_of (table_of ws)) (members_in ws) (named (members_in ws) n)) in
      written_table (stabilized n (table_of ws)) ws (changed_lists (table_of ws).r (members_in ws) _ v (lists_in (member_table ws n e)) (stabilize_listed n e) (replaced_changed v (members_in ws)))

  pub rectified_read : (n q : ℕ) → member_refusal ws n ≡ 0 → table_of (written (rectified n q (table_of ws)) ws) ≡ rectified n q (table_of ws)
  rectified_read n q e =
      let v = rectify_in (members_in ws) q (named (members_in ws) n) in
      written_table (rectified n q (table_of ws)) ws (changed_lists (table_of ws).r (members_in ws) _ v (lists_in (member_table ws n e)) (rectify_listed n q e) (replaced_changed v (members_in ws)))

  -- the table after an accepted stabilize step
  pub stabilize_table : (n : ℕ) → member_refusal ws n ≡ 0 → table_of (stabilize_words ws n) ≡ stabilized n (table_of ws)
  unfolding stabilize_words
  stabilize_table n e = rw e (stabilized_read n e)

  -- the table without a member, after its accepted loss and after its accepted withdrawal
  pub without_read : (n : ℕ) → well_formed ws ≡ true → table_of (written_freed (without n (table_of ws)) ws) ≡ without n (table_of ws)
  without_read n h = written_freed_table (without n (table_of ws)) ws (λ m i. lists_in h m (staying_from (is_named n) m (members_in ws) i))

  pub lost_table : (n : ℕ) → member_refusal ws n ≡ 0 → table_of (fail_words ws n) ≡ without n (table_of ws)
  unfolding fail_words
  lost_table n e = rw e (without_read n (member_table ws n e))

  pub withdrawn_table : (n : ℕ) → leave_refusal ws n ≡ 0 → table_of (leave_words ws n) ≡ without n (table_of ws)
  unfolding leave_words
  withdrawn_table n e = rw e (without_read n (leave_accepted ws n e).table)
