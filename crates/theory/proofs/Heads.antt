-- The theorems of which Heads in specs/ has the definitions, with their proofs.
use Rattle.std.specs.Prelude.{◌≡◌, refl, Bool, true, false, not, ℕ, zero, suc, ◌≤◌, eqb, length, get_or}
use Rattle.std.proofs.Common.{sym, ◌∙◌, arith, eqb-true}
use Rattle.std.proofs.Math.Path.{ap, subst}
use Rattle.std.proofs.Math.Bool.{true≢false}
use mathlib.Core.List.{List, [], ◌∷◌}
use Rattle.std.proofs.lemmas.Bool.{eqb-false, not-true}
use Rattle.model.specs.Table.{Member, Table, space_of, ids, table_of, members_in, well_formed}
use Rattle.model.specs.Ring.{live, named, successor, principal, Search}
use Rattle.model.specs.Answer.{Answer, accepted, answer, afterwards}
use Rattle.model.specs.Steps.{joiner, inserted, joined, stabilize, stabilize_reply, stabilized, replaced, rectify_in, rectified, count_step}
use Rattle.model.specs.Settle.{after_round, after_rounds, rounds_run}
use Rattle.model.specs.Windows.{windows_in, open_minutes}
use Rattle.model.specs.Refusals.{join_refusal, member_refusal, leave_refusal, settle_refusal}
use Rattle.model.specs.Calls.{written, join_answer, join_words, stabilize_answer, stabilize_words, rectify_words, fail_answer, fail_words, leave_answer, leave_words, round_words, settle_words}
use Rattle.model.specs.Run.{Call, Join, Leave, Fail, Stabilize, Rectify, Lookup, Audit, call_answer, call_words, goes}
use Rattle.model.specs.Service.{Service, Called, Round, Settle, SettleAt, service_words, served, goes_service, none_goes}
use Rattle.laws.specs.Fold.{all_keep}
use Rattle.laws.specs.Lists.{In, found, live_in, in_live}
use Rattle.laws.specs.Accepted.{answer_number, afterwards_has, join_accepted, member_table, member_accepted, settle_accepted}
use Rattle.laws.specs.Windows.{settle_at_has}
use Rattle.laws.specs.Tables.{well_formed_facts, formed_lists}
use Rattle.laws.specs.Stabilize.{StepCase, takes, clears, drops, looks, settles, step_case, same_id}
use Rattle.laws.specs.Words.{written_table}
use Rattle.laws.specs.Rectify.{rectify_same}
use Rattle.laws.specs.Searches.{found_first}
use Rattle.theory.specs.Keep.{Kept, Changed, replaced_changed, replaced_named, replaced_others, inserted_changed, inserted_in, inserted_named, inserted_others}
use Rattle.theory.specs.Left.{joiner_listed, stabilize_listed, rectify_listed, joined_read, stabilized_read, rectified_read}
use Rattle.theory.specs.Runs.{good_kept}
use Rattle.theory.specs.Turns.{round_lasts, rounds_last}
use Rattle.theory.proofs.Rounds.{calm_round}
use Rattle.theory.specs.Heads.{LiveHead, HeadsStay, NewHead}

-- What is kept of the members

record Headed (ms : List Member) (n : ℕ) : Type 0 where
  member : live ms n ≡ true
  head_live : live ms (successor (named ms n)) ≡ true
  some_entry : 1 ≤ length (named ms n).successors

-- n's record is m, with a first entry that was a member before
changed_headed : {ms ns : List Member} {v : Member} (n : ℕ) (m : Member) → Changed ms v ns → live ns n ≡ true → named ns n ≡ m → live ms (successor m) ≡ true → 1 ≤ length m.successors → Headed ns n
changed_headed {ms} {ns} n m c l e f s = record { member = l; head_live = rw e (in_live ns (c.grows (successor m) (live_in ms (successor m) f))); some_entry = rw e s }

-- a step of the member v replaces it: of n's own record the first entry is a member as before
replaced_headed : (ms : List Member) (v : Member) (n : ℕ) → Headed ms n → In v.id (ids ms) → (v.id ≡ n → live ms (successor v) ≡ true) → 1 ≤ length v.successors → Headed (replaced v ms) n
replaced_headed ms v n h i f s = go (eqb v.id n) refl
  where
    c : Changed ms v (replaced v ms)
    c = replaced_changed v ms

    lives : live (replaced v ms) n ≡ true
    lives = in_live (replaced v ms) (c.grows n (live_in ms n h.member))

    go : (b : Bool) → eqb v.id n ≡ b → Headed (replaced v ms) n
    go true e = let q = eqb-true v.id n e in changed_headed n v c lives (subst (λ (x : ℕ). named (replaced v ms) x ≡ v) q (replaced_named v ms i)) (f q) s
    go false e = changed_headed n (named ms n) c lives (replaced_others v n ms (eqb-false v.id n e)) h.head_live h.some_entry

-- whatever is adopted is a member
stabilize_head : (w : ℕ) (ms : List Member) (m : Member) → live ms (successor m) ≡ true → live ms (successor (stabilize w ms m)) ≡ true
stabilize_head w ms m h = go (step_case w ms m)
  where
    go : {l : List ℕ} {u : Member} → StepCase w ms m l u → live ms (successor u) ≡ true
    go (takes p l) = l
    go (clears p l) = h
    go (drops p l) = absurd (true≢false (sym h ∙ l))
    go (looks p l b) = h
    go (settles p l b) = h

-- after a round of a sound table every member has a live first entry: it is calm
round_headed : (T : Table) → Kept T → (n : ℕ) → Headed T.members n → Headed (after_round T).members n
round_headed T k n h =
    let ms = (after_round T).members in
    let i = live_in T.members n h.member in
    let a = calm_round T.r (ids T.members) (principal T.members) T (record { kept = k; is_r = refl; is_ids = refl; spares = λ q j p. p }) in
    let j : In n (ids ms) = rw a.common.is_ids i in
    record {
      member = in_live ms j;
      head_live = in_live ms (a.calm n i).lives;
      some_entry = omega (arith, (a.common.kept.formed.each (named ms n) (found ms j).0).list_length, a.common.kept.formed.r_low);
    }

rounds_headed : (j : ℕ) (T : Table) → Kept T → (n : ℕ) → Headed T.members n → Headed (after_rounds j T).members n
rounds_headed zero T k n h = h
rounds_headed (suc j) T k n h = rounds_headed j (after_round T) (round_lasts T k).kept n (round_headed T k n h)

-- Each call

abbrev Has : ℕ → List ℕ → Type 0
Has n ws = Headed (members_in ws) n

-- the table that is read is the one that was written
read_headed : {n : ℕ} (T : Table) (ws : List ℕ) → table_of (written T ws) ≡ T → Headed T.members n → Has n (written T ws)
read_headed {n} T ws e h = subst (λ (U : Table). Headed U.members n) (sym e) h

module _ (ws : List ℕ) where
  low : (k : ℕ) → well_formed ws ≡ true → k ≡ (table_of ws).r → 1 ≤ k
  low k h e = omega (arith, (well_formed_facts ws h).table.r_low)

  -- the new member itself
  new_headed : (j p : ℕ) → join_refusal ws j p ≡ 0 → Has j (join_words ws j p)
  unfolding join_words
  new_headed j p e =
      let ms = members_in ws in
      let a = join_accepted ws j p e in
      let v = joiner ms j p in
      let none : In j (ids ms) → ⊥ = λ i. true≢false (sym (in_live ms i) ∙ a.new) in
      rw e (read_headed (joined j p (table_of ws)) ws (joined_read ws j p e)
      (changed_headed j v (inserted_changed v ms) (in_live (inserted v ms) (inserted_in v ms)) (inserted_named v ms none) a.head_live
      (low _ a.table (joiner_listed ws j p e))))

  module _ (n : ℕ) (h : Has n ws) where
    join_headed : (j p : ℕ) → Has n (join_words ws j p)
    unfolding join_words
    join_headed j p = afterwards_has (Has n) (join_refusal ws j p) (written (joined j p (table_of ws)) ws) ws go h
      where
        go : join_refusal ws j p ≡ 0 → Has n (written (joined j p (table_of ws)) ws)
        go e =
            let ms = members_in ws in
            let v = joiner ms j p in
            let c = inserted_changed v ms in
            let other : j ≡ n → ⊥ = λ q. true≢false (sym h.member ∙ ap (live ms) (sym q) ∙ (join_accepted ws j p e).new) in
            read_headed (joined j p (table_of ws)) ws (joined_read ws j p e)
            (changed_headed n (named ms n) c (in_live (inserted v ms) (c.grows n (live_in ms n h.member))) (inserted_others v n ms other)
            h.head_live h.some_entry)

    stabilize_headed : (m : ℕ) → Has n (stabilize_words ws m)
    unfolding stabilize_words
    stabilize_headed m = afterwards_has (Has n) (member_refusal ws m) (written (stabilized m (table_of ws)) ws) ws go h
      where
        go : member_refusal ws m ≡ 0 → Has n (written (stabilized m (table_of ws)) ws)
        go e =
            let ms = members_in ws in
            let i = live_in ms m (member_accepted ws m e) in
            let same : (stabilize (space_of (table_of ws)) ms (named ms m)).id ≡ m = same_id ms (named ms m) (space_of (table_of ws)) ∙ (found ms i).1 in
            read_headed (stabilized m (table_of ws)) ws (stabilized_read ws m e)
            (replaced_headed ms (count_step (stabilize (space_of (table_of ws)) ms (named ms m))) n h (subst (λ (x : ℕ). In x (ids ms)) (sym same) i)
            (λ q. stabilize_head (space_of (table_of ws)) ms (named ms m) (subst (λ (x : ℕ). live ms (successor (named ms x)) ≡ true) (sym q ∙ same) h.head_live))
            (low _ (member_table ws m e) (stabilize_listed ws m e)))

    rectify_headed : (m q : ℕ) → Has n (rectify_words ws m q)
    unfolding rectify_words
    rectify_headed m q = afterwards_has (Has n) (member_refusal ws m) (written (rectified m q (table_of ws)) ws) ws go h
      where
        go : member_refusal ws m ≡ 0 → Has n (written (rectified m q (table_of ws)) ws)
        go e =
            let ms = members_in ws in
            let i = live_in ms m (member_accepted ws m e) in
            let r = rectify_same ms q (named ms m) in
            let same : (rectify_in ms q (named ms m)).id ≡ m = r.id ∙ (found ms i).1 in
            read_headed (rectified m q (table_of ws)) ws (rectified_read ws m q e) (replaced_headed ms (rectify_in ms q (named ms m)) n h (subst (λ (x : ℕ). In x (ids ms)) (sym same) i)
            (λ d. ap (λ (l : List ℕ). live ms (get_or l 0 0)) r.list ∙ subst (λ (x : ℕ). live ms (successor (named ms x)) ≡ true) (sym d ∙ same) h.head_live)
            (low _ (member_table ws m e) (rectify_listed ws m q e)))

-- rounds, on a sound table
upkeep_headed : (ws : List ℕ) (n : ℕ) → Has n ws → (j : ℕ) → Has n (afterwards (settle_refusal ws) (written (after_rounds j (table_of ws)) ws) ws)
upkeep_headed ws n h j = afterwards_has (Has n) (settle_refusal ws) (written (after_rounds j (table_of ws)) ws) ws go h
  where
    go : settle_refusal ws ≡ 0 → Has n (written (after_rounds j (table_of ws)) ws)
    go e =
        let a = settle_accepted ws e in
        let k = good_kept ws (record { is_well_formed = a.0; is_sound = a.1 }) in
        let U = after_rounds j (table_of ws) in
        read_headed U ws (written_table U ws (formed_lists U (rounds_last j (table_of ws) k).kept.formed)) (rounds_headed j (table_of ws) k n h)

call_headed : (c : Call) (ws : List ℕ) (n : ℕ) → Has n ws → not (goes ws c) ≡ true → Has n (call_words ws c)
unfolding call_words goes call_answer leave_answer leave_words fail_answer fail_words
call_headed (Join j p) ws n h g = join_headed ws n h j p
call_headed (Leave m) ws n h g = afterwards_has (Has n) (leave_refusal ws m) _ ws (λ e. absurd (eqb-false _ 0 (not-true _ g) (answer_number (leave_refusal ws m) _ ∙ e))) h
call_headed (Fail m) ws n h g = afterwards_has (Has n) (member_refusal ws m) _ ws (λ e. absurd (eqb-false _ 0 (not-true _ g) (answer_number (member_refusal ws m) _ ∙ e))) h
call_headed (Stabilize m) ws n h g = stabilize_headed ws n h m
call_headed (Rectify m q) ws n h g = rectify_headed ws n h m q
call_headed (Lookup m k) ws n h g = h
call_headed Audit ws n h g = h

service_headed : (n : ℕ) (s : Service) (ws : List ℕ) → not (goes_service ws s) ≡ true → Has n ws → Has n (service_words ws s)
unfolding service_words goes_service round_words settle_words
service_headed n (Called c) ws g h = call_headed c ws n h g
service_headed n Round ws g h = upkeep_headed ws n h 1
service_headed n (Settle limit) ws g h = upkeep_headed ws n h (rounds_run limit (table_of ws))
service_headed n (SettleAt vs ts) ws g h = settle_at_has (λ a us. Has n us) ws vs ts (upkeep_headed ws n h (rounds_run (open_minutes (windows_in vs) ts) (table_of ws))) (λ k. h)

served_headed : (ss : List Service) (ws : List ℕ) (n : ℕ) → Has n ws → none_goes ss ws ≡ true → Has n (served ss ws)
unfolding served none_goes
served_headed ss ws n h g = all_keep service_words (Has n) (λ us s. not (goes_service us s)) (service_headed n) ss ws g h

-- What follows for n

reply_not_again : (ms : List Member) (m : Member) → live ms (successor m) ≡ true → stabilize_reply ms m ≡ 0 ∷ [] → ⊥
reply_not_again ms m h e = go (step_case 0 ms m) e
  where
    go : {l : List ℕ} {u : Member} → StepCase 0 ms m l u → l ≡ 0 ∷ [] → ⊥
    go (takes p l) e = omega (arith, ap (λ (l : List ℕ). get_or l 0 0) e)
    go (clears p l) e = omega (arith, ap (λ (l : List ℕ). get_or l 0 0) e)
    go (drops p l) e = true≢false (sym h ∙ l)
    go (looks p l b) e = omega (arith, ap (λ (l : List ℕ). get_or l 0 0) e)
    go (settles p l b) e = omega (arith, ap (λ (l : List ℕ). get_or l 0 0) e)

live_head : (ws : List ℕ) (n : ℕ) → Has n ws → LiveHead ws n
unfolding stabilize_answer
live_head ws n h = record {
  member = h.member;
  head_live = h.head_live;
  best = ap (λ (f : Search). f.entry) (found_first (members_in ws) (named (members_in ws) n).successors h.some_entry h.head_live);
  not_again = go (member_refusal ws n);
}
  where
    go : (k : ℕ) → answer k (accepted (stabilize_reply (members_in ws) (named (members_in ws) n))) ≡ accepted (0 ∷ []) → ⊥
    go zero e = reply_not_again (members_in ws) (named (members_in ws) n) h.head_live (ap (λ (a : Answer). a.values) e)
    go (suc k) e = omega (arith, ap (λ (a : Answer). a.number) e)

-- after every list of calls, rounds and settles, with windows too, by which no member goes: whoever was a member with a live first entry is one still
pub heads_stay : HeadsStay
heads_stay ss ws n w l f g = live_head (served ss ws) n
    (served_headed ss ws n (record {
      member = l;
      head_live = f;
      some_entry = low ws _ w ((well_formed_facts ws w).table.each (named (members_in ws) n) (found (members_in ws) (live_in (members_in ws) n l)).0).list_length;
    }) g)

-- and so is a new member, at once and then
pub new_head : NewHead
unfolding call_answer join_answer call_words
new_head ss ws j p a g = live_head _ j (served_headed ss (join_words ws j p) j (new_headed ws j p (sym (answer_number (join_refusal ws j p) _) ∙ eqb-true _ 0 a)) g)
