-- The proof of what Alike states: a table tells what it tells without its counts (laws, Uncounted), and so do two that differ in their counts alone, call by call.
use Rattle.std.specs.Prelude.{◌≡◌, Bool, true, false, ◌&&◌, ◌||◌, ℕ, zero, suc, ◌+◌, ◌-◌, ◌*◌, ◌<◌, eqb, get_or, if◌then◌else◌}
use Rattle.std.proofs.Math.Path.{refl, ap, subst}
use Rattle.std.proofs.Common.{sym, ap₂, ◌∙◌, arith, ltb-true}
use Rattle.std.proofs.Math.Bool.{not}
use mathlib.Core.List.{List, [], ◌∷◌}
use Rattle.std.proofs.Math.Dec.{ltb, leb}
use Rattle.std.proofs.Math.ListN.{length}
use Rattle.model.specs.Lists.{every, any, bit, contains, rising, overlay}
use Rattle.model.specs.Identifier.{between}
use Rattle.model.specs.Table.{Member, Table, space_of, header_size, record_size, table_of, members_in, ids, well_formed}
use Rattle.model.specs.Ring.{live, named, successor, is_pending, has_live, principals, sound, verdict, passed_by_all}
use Rattle.model.specs.Answer.{Answer, accepted, ◌when◌, first_of, answer, afterwards}
use Rattle.model.specs.Steps.{with_steps, uncounted, joined, stabilized, stabilize_reply, rectified, rectify_reply, without, lookup, audit_reply}
use Rattle.model.specs.Alike.{alike}
use Rattle.model.specs.Findings.{Finding, findings}
use Rattle.model.specs.Image.{field_head, header_length, image_of}
use Rattle.model.specs.Held.{runs_of, bounds}
use Rattle.model.specs.Pairs.{Pair, taken, skipped_by, principal_reply}
use Rattle.model.specs.Settle.{delivered, next_reply, is_done, last_step, finished, until_done, after_turn, after_turns, after_round, after_rounds, rounds_run, ran_reply}
use Rattle.model.specs.Windows.{Window, windows_in, open_minutes, rounds_at}
use Rattle.model.specs.Refusals.{full, cuts_off, too_few_principals, join_refusal, member_refusal, leave_refusal, audit_refusal, findings_refusal, alike_refusal, write_refusal, held_refusal, settle_refusal, bad_windows, bad_minutes, settle_at_refusal}
use Rattle.model.specs.Calls.{written, written_freed, join_answer, join_words, stabilize_answer, stabilize_words, rectify_answer, rectify_words, fail_answer, fail_words, leave_answer, leave_words, lookup_answer, audit_answer, findings_answer, findings_after, alike_answer, write_answer, held_answer, principal_answer, round_answer, round_words, settle_answer, settle_words, settle_at_answer, settle_at_words}
use Rattle.model.specs.Run.{Call, Join, Leave, Fail, Stabilize, Rectify, Lookup, Audit, numbers_of, call_answer, call_words}
use Rattle.model.specs.Service.{Service, Called, Round, Settle, SettleAt, identifiers_of, service_answer, service_words, answers, served}
use Rattle.laws.specs.Lists.{and-true}
use Rattle.laws.specs.Fold.{both_tell}
use Rattle.laws.specs.Accepted.{leave_accepted, member_accepted, settle_accepted, settle_at_accepted}
use Rattle.laws.specs.Windows.{rounds_at_law}
use Rattle.laws.specs.Tables.{well_formed_facts, formed_lists}
use Rattle.laws.specs.Bytes.{field_size, image_length}
use Rattle.laws.specs.Uncounted.{erased, erased_length, erased_ids, erased_named, erased_principals, erased_all_live, erased_passed_all, erased_findings, erased_lookup, erased_runs, erased_pairs, sound_uncounted, verdict_uncounted, audit_uncounted, erased_reply, erased_renews, stepped, joined_uncounted, stabilized_uncounted, rectified_uncounted, without_uncounted, alike_uncounted, alike_equal, equal_alike}
use Rattle.theory.specs.Alike.{SaysYes, SameViews, YesMeans, YesIsEqual}
use Rattle.theory.specs.Forms.{Written, join_leaves, stabilize_leaves, rectify_leaves, without_leaves}
use Rattle.theory.specs.Runs.{Good, good_kept}
use Rattle.theory.specs.Turns.{rounds_last}
use Rattle.theory.proofs.BoundProof.{rounds_leaves}

-- Tables that differ in their counts alone

record Like (T S : Table) : Type 0 where
  equal : uncounted T ≡ uncounted S

-- what no count changes is the same of both
told : {A : Type 0} (f : Table → A) → ((T : Table) → f (uncounted T) ≡ f T) → {T S : Table} → Like T S → f T ≡ f S
told f h {T} {S} e = sym (h T) ∙ ap f e.equal ∙ h S

module _ {T S : Table} (e : Like T S) where
  same_r : T.r ≡ S.r
  same_r = ap (λ (U : Table). U.r) e.equal

  same_space : space_of T ≡ space_of S
  same_space = ap space_of e.equal

  same_ids : ids T.members ≡ ids S.members
  same_ids = told (λ U. ids U.members) (λ U. erased_ids U.members) e

  same_count : length T.members ≡ length S.members
  same_count = told (λ U. length U.members) (λ U. erased_length U.members) e

  same_live : (x : ℕ) → live T.members x ≡ live S.members x
  same_live x = ap (λ (l : List ℕ). contains l x) same_ids

  -- a member, but for its count
  same_member : {A : Type 0} (f : Member → A) → ((m : Member) → f (with_steps 0 m) ≡ f m) → (x : ℕ) → f (named T.members x) ≡ f (named S.members x)
  same_member f h x = told (λ U. f (named U.members x)) (λ U. ap f (erased_named x U.members) ∙ h (named U.members x)) e

  same_verdict : verdict T ≡ verdict S
  same_verdict = told verdict verdict_uncounted e

  same_reply : (n : ℕ) → next_reply n T ≡ next_reply n S
  same_reply n = told (next_reply n) (λ U. ap (stabilize_reply (erased U.members)) (erased_named n U.members) ∙ erased_reply U.members (named U.members n)) e

  joined_like : (j p : ℕ) → Like (joined j p T) (joined j p S)
  joined_like j p = record { equal = joined_uncounted T j p ∙ ap (joined j p) e.equal ∙ sym (joined_uncounted S j p) }

  stabilized_like : (n : ℕ) → Like (stabilized n T) (stabilized n S)
  stabilized_like n = record { equal = stabilized_uncounted T n ∙ ap (stepped n) e.equal ∙ sym (stabilized_uncounted S n) }

  rectified_like : (n q : ℕ) → Like (rectified n q T) (rectified n q S)
  rectified_like n q = record { equal = rectified_uncounted T n q ∙ ap (rectified n q) e.equal ∙ sym (rectified_uncounted S n q) }

  without_like : (n : ℕ) → Like (without n T) (without n S)
  without_like n = record { equal = without_uncounted T n ∙ ap (without n) e.equal ∙ sym (without_uncounted S n) }

-- Turns and rounds

-- a choice by a test that is the same of both
either_like : {T U S X : Table} (b c : Bool) → b ≡ c → Like T S → Like U X → Like (if b then T else U) (if c then S else X)
either_like {T} {U} {S} {X} b c q t u = subst (λ (d : Bool). Like (if b then T else U) (if d then S else X)) q (go b)
  where
    go : (a : Bool) → Like (if a then T else U) (if a then S else X)
    go true = t
    go false = u

module _ (n : ℕ) where
  delivered_like : (h : ℕ) {T S : Table} → Like T S → Like (delivered n h T) (delivered n h S)
  unfolding delivered
  delivered_like h {T} {S} e = either_like (live T.members h) (live S.members h) (same_live e h) (rectified_like e h n) e

  last_like : {T S : Table} → Like T S → Like (last_step n T) (last_step n S)
  unfolding last_step
  last_like {T} {S} e = subst (λ (l : List ℕ). Like (last_step n T) (delivered n (get_or l 1 0) (stabilized n S))) (same_reply e n) (delivered_like (get_or (next_reply n T) 1 0) (stabilized_like e n))

  finished_like : {T S : Table} → Like T S → Like (finished n T) (finished n S)
  unfolding finished
  finished_like {T} {S} e = either_like (is_pending (named T.members n)) (is_pending (named S.members n)) (same_member e is_pending (λ m. refl) n) (last_like e) e

  until_like : (k : ℕ) {T S : Table} → Like T S → Like (until_done k n T) (until_done k n S)
  until_like zero e = e
  until_like (suc k) {T} {S} e = either_like (is_done n T) (is_done n S) (ap (λ (l : List ℕ). eqb (get_or l 0 0) 2) (same_reply e n)) (last_like e) (until_like k (stabilized_like e n))

  turn_like : {T S : Table} → Like T S → Like (after_turn n T) (after_turn n S)
  unfolding after_turn
  turn_like {T} {S} e = subst (λ (r : ℕ). Like (after_turn n T) (until_done (suc r) n (finished n S))) (same_r e) (until_like (suc T.r) (finished_like e))

turns_like : (ns : List ℕ) {T S : Table} → Like T S → Like (after_turns ns T) (after_turns ns S)
turns_like [] e = e
turns_like (n ∷ ns) e = turns_like ns (turn_like n e)

round_like : {T S : Table} → Like T S → Like (after_round T) (after_round S)
unfolding after_round
round_like {T} {S} e = subst (λ (xs : List ℕ). Like (after_round T) (after_turns xs S)) (same_ids e) (turns_like (ids T.members) e)

rounds_like : (k : ℕ) {T S : Table} → Like T S → Like (after_rounds k T) (after_rounds k S)
rounds_like zero e = e
rounds_like (suc k) e = rounds_like k (round_like e)

same_run : (limit : ℕ) {T S : Table} → Like T S → rounds_run limit T ≡ rounds_run limit S
same_run zero e = refl
same_run (suc limit) e = ap₂ (λ (v k : ℕ). if eqb v 2 then 0 else suc k) (same_verdict e) (same_run limit (round_like e))

same_run_at : (ws : List Window) (ts : List ℕ) {T S : Table} → Like T S → rounds_at ws ts T ≡ rounds_at ws ts S
same_run_at ws ts {T} {S} e = rounds_at_law ws ts T ∙ same_run (open_minutes ws ts) e ∙ sym (rounds_at_law ws ts S)

ran_like : {i j : ℕ} {T S : Table} → i ≡ j → Like T S → Like (after_rounds i T) (after_rounds j S)
ran_like {i} {j} {T} {S} q e = subst (λ (k : ℕ). Like (after_rounds i T) (after_rounds k S)) q (rounds_like i e)

-- Slices

-- two well-formed slices of equal length whose tables differ in their counts alone, with identifiers of a space w
record Same (w : ℕ) (us vs : List ℕ) : Type 0 where
  first : well_formed us ≡ true
  second : well_formed vs ≡ true
  like : Like (table_of us) (table_of vs)
  equal_lengths : length us ≡ length vs
  in_space : space_of (table_of us) ≡ w

-- a call answers the same of both, and leaves two such slices
abbrev Agree : ℕ → Answer → Answer → List ℕ → List ℕ → Type 0
Agree w a b us vs = (a ≡ b) × Same w us vs

module _ {w : ℕ} {us vs : List ℕ} (s : Same w us vs) where
  e : Like (table_of us) (table_of vs)
  e = s.like

  same_formed : well_formed us ≡ well_formed vs
  same_formed = s.first ∙ sym s.second

  -- what both leave where they are accepted, and as they were where not
  left_same : (k l : ℕ) (xs ys : List ℕ) → k ≡ l → (k ≡ 0 → l ≡ 0 → Same w xs ys) → Same w (afterwards k xs us) (afterwards l ys vs)
  left_same zero zero xs ys q h = h refl refl
  left_same zero (suc l) xs ys q h = absurd (omega arith)
  left_same (suc k) zero xs ys q h = absurd (omega arith)
  left_same (suc k) (suc l) xs ys q h = s

  leaves_same : {A B : Table} {xs ys : List ℕ} → space_of A ≡ space_of (table_of us) → Written A xs us → Written B ys vs → Like A B → Same w xs ys
  leaves_same q a b l = record {
    first = a.is_well_formed;
    second = b.is_well_formed;
    like = record { equal = ap uncounted a.table ∙ l.equal ∙ sym (ap uncounted b.table) };
    equal_lengths = a.same_length ∙ s.equal_lengths ∙ sym b.same_length;
    in_space = ap space_of a.table ∙ q ∙ s.in_space;
  }

  -- the causes

  same_full : full us ≡ full vs
  unfolding full
  same_full = λ i. leb 256 (same_count e i) || ltb (s.equal_lengths i - (header_size + same_count e i * record_size (same_r e i))) (record_size (same_r e i))

  same_head : (p : ℕ) → successor (named (members_in us) p) ≡ successor (named (members_in vs) p)
  same_head p = same_member e successor (λ m. refl) p

  join_refusal_law : (j p : ℕ) → join_refusal us j p ≡ join_refusal vs j p
  unfolding join_refusal
  join_refusal_law j p = λ i. first_of (
      (1 when not (same_formed i)) ∷
      (2 when same_live e j i) ∷
      (3 when not (same_live e p i)) ∷
      (4 when not (between p j (same_head p i))) ∷
      (13 when not (contains (same_ids e i) (same_head p i))) ∷
      (5 when same_full i) ∷ [])

  member_refusal_law : (n : ℕ) → member_refusal us n ≡ member_refusal vs n
  unfolding member_refusal
  member_refusal_law n = λ i. first_of ((1 when not (same_formed i)) ∷ (3 when not (same_live e n i)) ∷ [])

  leave_refusal_law : (n : ℕ) → leave_refusal us n ≡ leave_refusal vs n
  unfolding leave_refusal cuts_off too_few_principals
  leave_refusal_law n =
      let l = without_like e n in
      λ i. first_of (
      (1 when not (same_formed i)) ∷
      (3 when not (same_live e n i)) ∷
      (6 when not (told (λ U. every (has_live U.members) U.members) (λ U. erased_all_live U.members) l i)) ∷
      (7 when ltb (told (λ U. principals U.members) (λ U. erased_principals U.members) l i) (same_r e i + 1)) ∷ [])

  settle_refusal_law : settle_refusal us ≡ settle_refusal vs
  unfolding settle_refusal
  settle_refusal_law = λ i. first_of ((1 when not (same_formed i)) ∷ (14 when not (told sound sound_uncounted e i)) ∷ [])

  settle_at_refusal_law : (hs ts : List ℕ) → settle_at_refusal us hs ts ≡ settle_at_refusal vs hs ts
  unfolding settle_at_refusal
  settle_at_refusal_law hs ts = λ i. first_of ((1 when not (same_formed i)) ∷ (15 when bad_windows hs) ∷ (16 when bad_minutes ts) ∷ (14 when not (told sound sound_uncounted e i)) ∷ [])

  -- one law a call

  join_same : (j p : ℕ) → j < space_of (table_of us) → Agree w (join_answer us j p) (join_answer vs j p) (join_words us j p) (join_words vs j p)
  unfolding join_answer join_words
  join_same j p h = (
    (λ i. answer (join_refusal_law j p i) (accepted (same_count (joined_like e j p) i ∷ []))),
    left_same (join_refusal us j p) (join_refusal vs j p) _ _ (join_refusal_law j p)
        (λ a b. leaves_same refl (join_leaves us j p h a) (join_leaves vs j p (subst (λ (n : ℕ). j < n) (same_space e) h) b) (joined_like e j p)),
  )

  stabilize_same : (n : ℕ) → Agree w (stabilize_answer us n) (stabilize_answer vs n) (stabilize_words us n) (stabilize_words vs n)
  unfolding stabilize_answer stabilize_words
  stabilize_same n = (
    (λ i. answer (member_refusal_law n i) (accepted (same_reply e n i))),
    left_same (member_refusal us n) (member_refusal vs n) _ _ (member_refusal_law n) (λ a b. leaves_same refl (stabilize_leaves us n a) (stabilize_leaves vs n b) (stabilized_like e n)),
  )

  same_rectify : (n q : ℕ) → rectify_reply (members_in us) q (named (members_in us) n) ≡ rectify_reply (members_in vs) q (named (members_in vs) n)
  same_rectify n q = told (λ U. rectify_reply U.members q (named U.members n))
      (λ U. ap (rectify_reply (erased U.members) q) (erased_named n U.members) ∙ ap (λ (b : Bool). bit b ∷ []) (erased_renews U.members (named U.members n) q)) e

  rectify_same : (n q : ℕ) → q < space_of (table_of us) → Agree w (rectify_answer us n q) (rectify_answer vs n q) (rectify_words us n q) (rectify_words vs n q)
  unfolding rectify_answer rectify_words
  rectify_same n q h = (
    (λ i. answer (member_refusal_law n i) (accepted (same_rectify n q i))),
    left_same (member_refusal us n) (member_refusal vs n) _ _ (member_refusal_law n)
        (λ a b. leaves_same refl (rectify_leaves us n q h a) (rectify_leaves vs n q (subst (λ (k : ℕ). q < k) (same_space e) h) b) (rectified_like e n q)),
  )

  -- a loss and a withdrawal, each declined by its own number
  gone_same : (n k l : ℕ) → k ≡ l → (k ≡ 0 → live (members_in us) n ≡ true) → (l ≡ 0 → live (members_in vs) n ≡ true)
      → Agree w (answer k (accepted (length (without n (table_of us)).members ∷ []))) (answer l (accepted (length (without n (table_of vs)).members ∷ [])))
      (afterwards k (written_freed (without n (table_of us)) us) us) (afterwards l (written_freed (without n (table_of vs)) vs) vs)
  gone_same n k l q a b = (
    (λ i. answer (q i) (accepted (same_count (without_like e n) i ∷ []))),
    left_same k l _ _ q (λ x y. leaves_same refl (without_leaves us n s.first (a x)) (without_leaves vs n s.second (b y)) (without_like e n)),
  )

  fail_same : (n : ℕ) → Agree w (fail_answer us n) (fail_answer vs n) (fail_words us n) (fail_words vs n)
  unfolding fail_answer fail_words
  fail_same n = gone_same n (member_refusal us n) (member_refusal vs n) (member_refusal_law n) (member_accepted us n) (member_accepted vs n)

  leave_same : (n : ℕ) → Agree w (leave_answer us n) (leave_answer vs n) (leave_words us n) (leave_words vs n)
  unfolding leave_answer leave_words
  leave_same n = gone_same n (leave_refusal us n) (leave_refusal vs n) (leave_refusal_law n) (λ x. (leave_accepted us n x).is_member) (λ x. (leave_accepted vs n x).is_member)

  lookup_same : (n k : ℕ) → lookup_answer us n k ≡ lookup_answer vs n k
  unfolding lookup_answer
  lookup_same n k = λ i. answer (member_refusal_law n i) (told (λ U. lookup U.members n k) (λ U. erased_lookup U.members n k) e i)

  audit_same : audit_answer us ≡ audit_answer vs
  unfolding audit_answer audit_refusal
  audit_same = λ i. answer (first_of ((1 when not (same_formed i)) ∷ [])) (accepted (told audit_reply audit_uncounted e i))

  -- rounds, which are run on sound tables alone
  rounds_same : (k l : ℕ) → k ≡ l → (k ≡ 0 → settle_refusal us ≡ 0) → (l ≡ 0 → settle_refusal vs ≡ 0) → (i j : ℕ) → Like (after_rounds i (table_of us)) (after_rounds j (table_of vs))
      → Same w (afterwards k (written (after_rounds i (table_of us)) us) us) (afterwards l (written (after_rounds j (table_of vs)) vs) vs)
  rounds_same k l q f g i j r = left_same k l _ _ q
      (λ a b. let x = good us (f a) in leaves_same (rounds_last i (table_of us) (good_kept us x)).same_space (rounds_leaves i us x) (rounds_leaves j vs (good vs (g b))) r)
    where
      good : (ws : List ℕ) → settle_refusal ws ≡ 0 → Good ws
      good ws e = let a = settle_accepted ws e in record { is_well_formed = a.0; is_sound = a.1 }

  round_same : Agree w (round_answer us) (round_answer vs) (round_words us) (round_words vs)
  unfolding round_answer round_words
  round_same = (
    (λ i. answer (settle_refusal_law i) (accepted (same_verdict (round_like e) i ∷ []))),
    rounds_same (settle_refusal us) (settle_refusal vs) settle_refusal_law (λ z. z) (λ z. z) 1 1 (round_like e),
  )

  -- settle, with a limit or with windows: declined by the same number, it runs equally many rounds
  ran_same : (k l : ℕ) → k ≡ l → (k ≡ 0 → settle_refusal us ≡ 0) → (l ≡ 0 → settle_refusal vs ≡ 0) → (i j : ℕ) → i ≡ j
      → Agree w (answer k (accepted (ran_reply i (table_of us)))) (answer l (accepted (ran_reply j (table_of vs))))
      (afterwards k (written (after_rounds i (table_of us)) us) us) (afterwards l (written (after_rounds j (table_of vs)) vs) vs)
  ran_same k l q f g i j z =
      let r = ran_like z e in (
        (λ x. answer (q x) (accepted (z x ∷ same_verdict r x ∷ told (λ U. passed_by_all U.members) (λ U. erased_passed_all U.members) e x ∷ []))),
        rounds_same k l q f g i j r,
      )

  settle_same : (limit : ℕ) → Agree w (settle_answer us limit) (settle_answer vs limit) (settle_words us limit) (settle_words vs limit)
  unfolding settle_answer settle_words
  settle_same limit = ran_same (settle_refusal us) (settle_refusal vs) settle_refusal_law (λ z. z) (λ z. z) _ _ (same_run limit e)

  settle_at_same : (hs ts : List ℕ) → Agree w (settle_at_answer us hs ts) (settle_at_answer vs hs ts) (settle_at_words us hs ts) (settle_at_words vs hs ts)
  unfolding settle_at_answer settle_at_words
  settle_at_same hs ts = ran_same (settle_at_refusal us hs ts) (settle_at_refusal vs hs ts) (settle_at_refusal_law hs ts)
      (λ z. (settle_at_accepted us hs ts z).0) (λ z. (settle_at_accepted vs hs ts z).0) _ _ (same_run_at (windows_in hs) ts e)

  call_same : (c : Call) → every (λ x. ltb x w) (numbers_of c) ≡ true → Agree w (call_answer us c) (call_answer vs c) (call_words us c) (call_words vs c)
  unfolding call_answer call_words
  call_same (Join j p) h = join_same j p (subst (λ (k : ℕ). j < k) (sym s.in_space) (ltb-true j w (and-true (ltb j w) _ h).0))
  call_same (Leave n) h = leave_same n
  call_same (Fail n) h = fail_same n
  call_same (Stabilize n) h = stabilize_same n
  call_same (Rectify n q) h = rectify_same n q (subst (λ (k : ℕ). q < k) (sym s.in_space) (ltb-true q w (and-true (ltb q w) _ (and-true (ltb n w) _ h).1).0))
  call_same (Lookup n k) h = (lookup_same n k, s)
  call_same Audit h = (audit_same, s)

  service_same : (c : Service) → every (λ x. ltb x w) (identifiers_of c) ≡ true → Agree w (service_answer us c) (service_answer vs c) (service_words us c) (service_words vs c)
  unfolding service_answer service_words
  service_same (Called c) h = call_same c h
  service_same Round h = round_same
  service_same (Settle limit) h = settle_same limit
  service_same (SettleAt hs ts) h = settle_at_same hs ts

  -- the calls that are not in the list

  findings_refusal_law : (n : ℕ) → findings_refusal us n ≡ findings_refusal vs n
  unfolding findings_refusal
  findings_refusal_law n = λ i. first_of ((1 when not (same_formed i)) ∷ (10 when ltb n (same_count e i)) ∷ [])

  findings_same : (fs : List Finding) → (findings_answer us fs ≡ findings_answer vs fs) × (findings_after us fs ≡ findings_after vs fs)
  unfolding findings_answer findings_after
  findings_same fs = (
    (λ i. answer (findings_refusal_law (length fs) i) (accepted (told audit_reply audit_uncounted e i))),
    (λ i. afterwards (findings_refusal_law (length fs) i) (overlay (told (λ U. findings U.members) (λ U. erased_findings U.members) e i) fs) fs),
  )

  held_same : (n : ℕ) (ks : List ℕ) → held_answer us n ks ≡ held_answer vs n ks
  unfolding held_answer held_refusal
  held_same n ks = λ i. answer (first_of ((1 when not (same_formed i)) ∷ (3 when not (same_live e n i)) ∷ (12 when not (rising ks)) ∷ []))
      (accepted (bounds (told (λ U. runs_of U.members n ks) (λ U. erased_runs U.members n ks) e i)))

  principal_same : (n : ℕ) → principal_answer us n ≡ principal_answer vs n
  unfolding principal_answer
  principal_same n = λ i. answer (member_refusal_law n i) (accepted (told (λ U. principal_reply U.members n) reply e i))
    where
      reply : (U : Table) → principal_reply (uncounted U).members n ≡ principal_reply U.members n
      reply U = ap (λ (ps : List Pair). bit (not (any (skipped_by n) (taken n ps))) ∷ length (taken n ps) ∷ []) (erased_pairs U.members)

  alike_same : (ws : List ℕ) → (alike_answer us ws ≡ alike_answer vs ws) × (alike_answer ws us ≡ alike_answer ws vs)
  unfolding alike_answer alike_refusal
  alike_same ws = (
    (λ i. answer (first_of ((1 when not (same_formed i && well_formed ws)) ∷ [])) (accepted (bit (before i) ∷ []))),
    (λ i. answer (first_of ((1 when not (well_formed ws && same_formed i)) ∷ [])) (accepted (bit (behind i) ∷ []))),
  )
    where
      third : Table
      third = table_of ws

      before : alike (table_of us) third ≡ alike (table_of vs) third
      before = sym (alike_uncounted (table_of us) third) ∙ ap (λ (T : Table). alike T (uncounted third)) e.equal ∙ alike_uncounted (table_of vs) third

      behind : alike third (table_of us) ≡ alike third (table_of vs)
      behind = sym (alike_uncounted third (table_of us)) ∙ ap (alike (uncounted third)) e.equal ∙ alike_uncounted third (table_of vs)

  same_bytes : length (image_of (table_of us)) ≡ length (image_of (table_of vs))
  same_bytes =
      image_length (table_of us) (formed_lists (table_of us) (well_formed_facts us s.first).table) ∙ (λ i. field_head + header_length + field_head + same_count e i * field_size (same_r e i))
      ∙ sym (image_length (table_of vs) (formed_lists (table_of vs) (well_formed_facts vs s.second).table))

  write_same : (bs : List ℕ) → write_answer us bs ≡ write_answer vs bs
  unfolding write_answer write_refusal
  write_same bs = λ i. answer (first_of ((1 when not (same_formed i)) ∷ (10 when ltb (length bs) (same_bytes i)) ∷ [])) (accepted (same_bytes i ∷ []))

  views : SameViews us vs
  views = record {
    findings_told = λ fs. (findings_same fs).0;
    findings_filled = λ fs. (findings_same fs).1;
    held_told = held_same;
    principal_told = principal_same;
    alike_told = alike_same;
    bytes_told = write_same;
  }

-- What a yes says

yes_facts : (us vs : List ℕ) → SaysYes us vs → (well_formed us ≡ true) × (well_formed vs ≡ true) × (alike (table_of us) (table_of vs) ≡ true)
unfolding alike_answer alike_refusal
yes_facts us vs y = go (well_formed us) (well_formed vs) (alike (table_of us) (table_of vs)) y
  where
    go : (a b c : Bool) → answer (first_of ((1 when not (a && b)) ∷ [])) (accepted (bit c ∷ [])) ≡ accepted (1 ∷ []) → (a ≡ true) × (b ≡ true) × (c ≡ true)
    go true true true q = (refl, refl, refl)
    go true true false q = absurd (omega (arith, ap (λ (a : Answer). get_or a.values 0 0) q))
    go true false c q = absurd (omega (arith, ap (λ (a : Answer). a.number) q))
    go false b c q = absurd (omega (arith, ap (λ (a : Answer). a.number) q))

pub yes_is_equal : YesIsEqual
unfolding alike_answer alike_refusal
yes_is_equal us vs h k = (λ y. alike_equal (table_of us) (table_of vs) (yes_facts us vs y).2, λ q. rw (h, k, equal_alike (table_of us) (table_of vs) q))

pub yes_means : YesMeans
unfolding answers served
yes_means us vs y n ss h =
    let f = yes_facts us vs y in
    let w = space_of (table_of us) in
    let s : Same w us vs = record { first = f.0; second = f.1; like = record { equal = alike_equal (table_of us) (table_of vs) f.2 }; equal_lengths = n; in_space = refl } in
    let a = both_tell service_words service_answer (Same w) (λ c. every (λ x. ltb x w) (identifiers_of c)) (λ c xs ys k t. service_same t c k) ss us vs h s in
    let t = a.1 in
    record { same_answers = a.0; yes_again = (yes_is_equal _ _ t.first t.second).1 t.like.equal; same_views = views t }
