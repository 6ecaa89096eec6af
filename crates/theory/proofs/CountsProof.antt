-- The proof of what Counts states: a stabilize step counts in its own member's record, and nothing else writes a count.
use Rattle.std.specs.Prelude.{◌≡◌, ◌⊎◌, Bool, List, [], ◌∷◌, length, if◌then◌else◌}
use Rattle.std.proofs.Math.Path.{refl, ap, subst}
use Rattle.std.proofs.Common.{sym, ◌∙◌, inl, inr, suc-mul}
use Rattle.std.proofs.Math.Bool.{true, false, true≢false}
use Prim.Native.Nat.{ℕ, zero, suc, ◌+◌, ◌*◌, ◌≤◌, ◌<◌}
use native.Mathlib.Omega.{arith}
use Rattle.std.proofs.Math.Dec.{eqb}
use borrow.Author.Tests.{eqb-true, eqb-false, ne_eqb, lt-ltb, le-ltb}
use Rattle.model.specs.Lists.{bit}
use Rattle.model.specs.Table.{Member, Table, space_of, word_limit, table_of, members_in, ids, well_formed}
use Rattle.model.specs.Ring.{live, named, is_pending, sound}
use Rattle.model.specs.Answer.{afterwards}
use Rattle.model.specs.Steps.{joiner, joined, stabilize, next_step, count_step, stabilized, rectify_in, rectified, is_named, without}
use Rattle.model.specs.New.{new_table}
use Rattle.model.specs.Settle.{delivered, is_done, last_step, finished, until_done, after_turn, after_turns, after_round, after_rounds, rounds_run}
use Rattle.model.specs.Windows.{windows_in, rounds_at}
use Rattle.model.specs.Refusals.{join_refusal, member_refusal, leave_refusal, settle_refusal, settle_at_refusal}
use Rattle.model.specs.Calls.{written, written_freed, join_words, stabilize_answer, stabilize_words, rectify_words, fail_words, leave_words, new_words, round_answer, round_words, settle_answer, settle_words, settle_at_answer, settle_at_words}
use Rattle.model.specs.Fold.{after_all, each_meets}
use Rattle.model.specs.Run.{Call, Join, Leave, Fail, Stabilize, Rectify, Lookup, Audit, call_answer, call_words, run, accepts}
use Rattle.model.specs.Service.{Service, Called, Round, Settle, SettleAt, service_answer, service_words, served}
use Rattle.laws.specs.Order.{equal?, less?}
use Rattle.laws.specs.Iterate.{iterate, iterate_add}
use Rattle.laws.specs.Lists.{In, here, there, in_cons, in_nil, and-true, found, live_in, in_live, NoDup, rising_nodup}
use Rattle.laws.specs.Places.{next_ups_length}
use Rattle.laws.specs.Accepted.{answer_number, afterwards_has, join_accepted, member_table, member_accepted, leave_accepted, settle_accepted, settle_accepts, settle_at_accepted}
use Rattle.laws.specs.Stabilize.{same_id, same_steps}
use Rattle.laws.specs.Rectify.{rectify_same}
use Rattle.laws.specs.Words.{written_table}
use Rattle.laws.specs.Tables.{formed_facts, well_formed_facts}
use Rattle.laws.specs.Removed.{staying_named}
use Rattle.theory.specs.Counts.{steps_of, counted, TurnSteps, ReadingsTell, steps_until, steps_in_turn, steps_in_turns, steps_in_round, steps_in_rounds, steps_by_call, steps_by, steps_of_all, steps_in, stays_member, CallsCount, CountsOwnSteps, OthersStay, RoundsAreSteps, Adds, RoundAdds, SettleAdds, JoinStarts, NewStarts, TwoReadingsTell}
use Rattle.theory.specs.Keep.{replaced_ids, replaced_named, replaced_others, inserted_named, inserted_others}
use Rattle.theory.specs.Left.{joined_read, stabilized_read, rectified_read, without_read}
use Rattle.theory.specs.New.{each_new}
use Rattle.theory.proofs.BoundProof.{rounds_slice}

-- So many steps more

next_low : (s : ℕ) → suc s < word_limit → next_step s ≡ suc s
unfolding next_step
next_low s h = rw (lt-ltb (suc s) word_limit h)

next_high : (s : ℕ) → word_limit ≤ suc s → next_step s ≡ s
unfolding next_step
next_high s h = rw (le-ltb (suc s) word_limit h)

counted_low : (x : ℕ) → x < word_limit → counted x ≡ x
unfolding counted
counted_low x h = rw (lt-ltb x word_limit h)

counted_over : (x : ℕ) → word_limit ≤ x → counted x ≡ 4294967295
unfolding counted
counted_over x h = rw (le-ltb x word_limit h)

counted_high : (x : ℕ) → word_limit ≤ suc x → counted x ≡ 4294967295
counted_high x h = go (less? x word_limit)
  where
    go : (x < word_limit) ⊎ (word_limit ≤ x) → counted x ≡ 4294967295
    go (inl l) = counted_low x l ∙ omega arith
    go (inr g) = counted_over x g

more_counted : (k s : ℕ) → s < word_limit → iterate next_step k s ≡ counted (s + k)
more_counted zero s h = let q : s + 0 ≡ s = omega arith in rw q (sym (counted_low s h))
more_counted (suc k) s h = go (less? (suc s) word_limit) (more_counted k)
  where
    go : (suc s < word_limit) ⊎ (word_limit ≤ suc s) → ((x : ℕ) → x < word_limit → iterate next_step k x ≡ counted (x + k)) → iterate next_step k (next_step s) ≡ counted (s + suc k)
    go (inl l) ih = let q : suc s + k ≡ s + suc k = omega arith in ap (iterate next_step k) (next_low s l) ∙ ih (suc s) l ∙ ap counted q
    go (inr g) ih = ap (iterate next_step k) (next_high s g) ∙ ih s h ∙ counted_high (s + k) (omega arith) ∙ sym (counted_high (s + suc k) (omega arith))

-- One member's steps and notices

-- the count of the member x of a table
abbrev count_in : Table → ℕ → ℕ
count_in T x = (named T.members x).steps

-- U is T after k steps of its member n and any of the others, as n's count sees it
record Seen (n k : ℕ) (T U : Table) : Type 0 where
  same_r : U.r ≡ T.r
  same_ids : ids U.members ≡ ids T.members
  own : count_in U n ≡ iterate next_step k (count_in T n)

seen_none : (n : ℕ) (T : Table) → Seen n 0 T T
seen_none n T = record { same_r = refl; same_ids = refl; own = refl }

seen_trans : {n j k : ℕ} {T U X : Table} → Seen n j T U → Seen n k U X → Seen n (j + k) T X
seen_trans {n} {j} {k} {T} a b = record {
  same_r = b.same_r ∙ a.same_r;
  same_ids = b.same_ids ∙ a.same_ids;
  own = b.own ∙ ap (iterate next_step k) a.own ∙ sym (iterate_add next_step j k (count_in T n));
}

-- and none of the others: their counts are as they were
record Counting (n k : ℕ) (T U : Table) : Type 0 where
  seen : Seen n k T U
  others : (x : ℕ) → (x ≡ n → ⊥) → count_in U x ≡ count_in T x

counting_none : (n : ℕ) (T : Table) → Counting n 0 T T
counting_none n T = record { seen = seen_none n T; others = λ x d. refl }

counting_trans : {n j k : ℕ} {T U X : Table} → Counting n j T U → Counting n k U X → Counting n (j + k) T X
counting_trans a b = record { seen = seen_trans a.seen b.seen; others = λ x d. b.others x d ∙ a.others x d }

counting_step : (n : ℕ) (T : Table) → In n (ids T.members) → Counting n 1 T (stabilized n T)
counting_step n T i = record {
  seen = record {
    same_r = refl;
    same_ids = replaced_ids v ms;
    own = ap (λ (m : Member). m.steps) placed ∙ ap next_step (same_steps ms (named ms n) (space_of T));
  };
  others = λ x d. ap (λ (m : Member). m.steps) (replaced_others v x ms (λ q. d (sym q ∙ is_n)));
}
  where
    ms : List Member
    ms = T.members

    v : Member
    v = count_step (stabilize (space_of T) ms (named ms n))

    is_n : v.id ≡ n
    is_n = same_id ms (named ms n) (space_of T) ∙ (found ms i).1

    placed : named (stabilized n T).members n ≡ v
    placed = subst (λ (x : ℕ). named (stabilized n T).members x ≡ v) is_n (replaced_named v ms (subst (λ (x : ℕ). In x (ids ms)) (sym is_n) i))

-- a notice of q to the member h changes no count
noticed : (h q : ℕ) (T : Table) → In h (ids T.members) → (x : ℕ) → count_in (rectified h q T) x ≡ count_in T x
noticed h q T i x = go (equal? x h)
  where
    ms : List Member
    ms = T.members

    v : Member
    v = rectify_in ms q (named ms h)

    is_h : v.id ≡ h
    is_h = (rectify_same ms q (named ms h)).id ∙ (found ms i).1

    placed : named (rectified h q T).members h ≡ v
    placed = subst (λ (y : ℕ). named (rectified h q T).members y ≡ v) is_h (replaced_named v ms (subst (λ (y : ℕ). In y (ids ms)) (sym is_h) i))

    go : (x ≡ h) ⊎ (x ≡ h → ⊥) → count_in (rectified h q T) x ≡ count_in T x
    go (inl e) = rw e (ap (λ (m : Member). m.steps) placed ∙ (rectify_same ms q (named ms h)).steps)
    go (inr d) = ap (λ (m : Member). m.steps) (replaced_others v x ms (λ e. d (sym e ∙ is_h)))

module _ (n : ℕ) where
  counting_delivered : (h : ℕ) (T : Table) → Counting n 0 T (delivered n h T)
  unfolding delivered
  counting_delivered h T = go (live T.members h) refl
    where
      go : (b : Bool) → live T.members h ≡ b → Counting n 0 T (if b then rectified h n T else T)
      go true e =
          let i = live_in T.members h e in
          record {
            seen = record { same_r = refl; same_ids = replaced_ids (rectify_in T.members n (named T.members h)) T.members; own = noticed h n T i n };
            others = λ x d. noticed h n T i x;
          }
      go false e = counting_none n T

  counting_last : (T : Table) → In n (ids T.members) → Counting n 1 T (last_step n T)
  unfolding last_step
  counting_last T i = counting_trans (counting_step n T i) (counting_delivered _ (stabilized n T))

  counting_until : (k : ℕ) (T : Table) → In n (ids T.members) → Counting n (steps_until k n T) T (until_done k n T)
  counting_until zero T i = counting_none n T
  counting_until (suc k) T i = go (is_done n T) (counting_until k (stabilized n T))
    where
      go : (b : Bool) → (In n (ids (stabilized n T).members) → Counting n (steps_until k n (stabilized n T)) (stabilized n T) (until_done k n (stabilized n T)))
          → Counting n (if b then 1 else suc (steps_until k n (stabilized n T))) T (if b then last_step n T else until_done k n (stabilized n T))
      go true ih = counting_last T i
      go false ih =
          let a = counting_step n T i in
          let q : 1 + steps_until k n (stabilized n T) ≡ suc (steps_until k n (stabilized n T)) = omega arith in
          subst (λ (j : ℕ). Counting n j T (until_done k n (stabilized n T))) q (counting_trans a (ih (rw a.seen.same_ids i)))

  counting_finished : (T : Table) → In n (ids T.members) → Counting n (bit (is_pending (named T.members n))) T (finished n T)
  unfolding finished
  counting_finished T i = go (is_pending (named T.members n))
    where
      go : (b : Bool) → Counting n (bit b) T (if b then last_step n T else T)
      go true = counting_last T i
      go false = counting_none n T

  counting_turn : (T : Table) → In n (ids T.members) → Counting n (steps_in_turn n T) T (after_turn n T)
  unfolding steps_in_turn after_turn
  counting_turn T i = let a = counting_finished T i in counting_trans a (counting_until (suc T.r) (finished n T) (rw a.seen.same_ids i))

  -- at least one step a turn, and at most r + 2

  few_until : (k : ℕ) (T : Table) → steps_until k n T ≤ k
  few_until zero T = omega arith
  few_until (suc k) T = go (is_done n T) (few_until k (stabilized n T))
    where
      go : (b : Bool) → steps_until k n (stabilized n T) ≤ k → (if b then 1 else suc (steps_until k n (stabilized n T))) ≤ suc k
      go true h = omega arith
      go false h = omega arith

  some_until : (k : ℕ) (T : Table) → 1 ≤ steps_until (suc k) n T
  some_until k T = go (is_done n T)
    where
      go : (b : Bool) → 1 ≤ (if b then 1 else suc (steps_until k n (stabilized n T)))
      go true = omega arith
      go false = omega arith

  turn_steps : TurnSteps n
  unfolding steps_in_turn
  turn_steps T = let g = go (is_pending (named T.members n)) (few_until (suc T.r) (finished n T)) (some_until T.r (finished n T)) in (g.0, omega (arith, g.1))
    where
      go : (b : Bool) → steps_until (suc T.r) n (finished n T) ≤ suc T.r → 1 ≤ steps_until (suc T.r) n (finished n T)
          → (1 ≤ bit b + steps_until (suc T.r) n (finished n T)) × (bit b + steps_until (suc T.r) n (finished n T) ≤ T.r + 2)
      go true h l = (omega arith, omega arith)
      go false h l = (omega arith, omega arith)

-- Turns of all members, as n's count sees them

module _ (n : ℕ) where
  -- the turn of x
  seen_turn : (x : ℕ) (T : Table) → In x (ids T.members) → Seen n (if eqb x n then steps_in_turn n T else 0) T (after_turn x T)
  seen_turn x T i = let a = counting_turn x T i in record { same_r = a.seen.same_r; same_ids = a.seen.same_ids; own = go (eqb x n) refl a }
    where
      go : (b : Bool) → eqb x n ≡ b → Counting x (steps_in_turn x T) T (after_turn x T) → count_in (after_turn x T) n ≡ iterate next_step (if b then steps_in_turn n T else 0) (count_in T n)
      go true e a = subst (λ (y : ℕ). count_in (after_turn x T) y ≡ iterate next_step (steps_in_turn y T) (count_in T y)) (eqb-true x n e) a.seen.own
      go false e a = a.others n (λ q. eqb-false x n e (sym q))

  seen_turns : (xs : List ℕ) (T : Table) → ((x : ℕ) → In x xs → In x (ids T.members)) → Seen n (steps_in_turns n xs T) T (after_turns xs T)
  seen_turns [] T f = seen_none n T
  seen_turns (x ∷ xs) T f = let a = seen_turn x T (f x (here refl)) in seen_trans a (seen_turns xs (after_turn x T) (λ y i. rw a.same_ids (f y (there i))))

  seen_round : (T : Table) → Seen n (steps_in_round n T) T (after_round T)
  unfolding steps_in_round after_round
  seen_round T = seen_turns (ids T.members) T (λ x i. i)

  seen_rounds : (k : ℕ) (T : Table) → Seen n (steps_in_rounds n k T) T (after_rounds k T)
  seen_rounds zero T = seen_none n T
  seen_rounds (suc k) T = seen_trans (seen_round T) (seen_rounds k (after_round T))

  -- one turn a round is its own

  turns_none : (xs : List ℕ) (T : Table) → (In n xs → ⊥) → steps_in_turns n xs T ≡ 0
  turns_none [] T d = refl
  turns_none (x ∷ xs) T d = go (eqb x n) refl (turns_none xs (after_turn x T) (λ i. d (there i)))
    where
      go : (b : Bool) → eqb x n ≡ b → steps_in_turns n xs (after_turn x T) ≡ 0 → (if b then steps_in_turn n T else 0) + steps_in_turns n xs (after_turn x T) ≡ 0
      go true e h = absurd (d (here (sym (eqb-true x n e))))
      go false e h = omega arith

  turns_steps : (xs : List ℕ) (T : Table) → NoDup xs → ((x : ℕ) → In x xs → In x (ids T.members)) → In n xs → (1 ≤ steps_in_turns n xs T) × (steps_in_turns n xs T ≤ T.r + 2)
  turns_steps [] T nd f i = absurd (in_nil i)
  turns_steps (x ∷ xs) T nd f i =
      let a = seen_turn x T (f x (here refl)) in
      go (eqb x n) refl (in_cons i) a.same_r (turns_steps xs (after_turn x T) nd.1 (λ y j. rw a.same_ids (f y (there j))))
    where
      go : (b : Bool) → eqb x n ≡ b → (n ≡ x) ⊎ In n xs → (after_turn x T).r ≡ T.r
          → (In n xs → (1 ≤ steps_in_turns n xs (after_turn x T)) × (steps_in_turns n xs (after_turn x T) ≤ (after_turn x T).r + 2))
          → (1 ≤ (if b then steps_in_turn n T else 0) + steps_in_turns n xs (after_turn x T)) × ((if b then steps_in_turn n T else 0) + steps_in_turns n xs (after_turn x T) ≤ T.r + 2)
      go true e j r ih =
          let t = turn_steps n T in
          let z = turns_none xs (after_turn x T) (λ k. nd.0 (subst (λ (y : ℕ). In y xs) (sym (eqb-true x n e)) k)) in
          (omega (arith, t.0), omega (arith, t.1))
      go false e (inl q) r ih = absurd (eqb-false x n e (sym q))
      go false e (inr k) r ih = let h = ih k in (omega (arith, h.0), omega (arith, h.1))

  round_steps : (T : Table) → NoDup (ids T.members) → In n (ids T.members) → (1 ≤ steps_in_round n T) × (steps_in_round n T ≤ T.r + 2)
  unfolding steps_in_round
  round_steps T nd i = turns_steps (ids T.members) T nd (λ x j. j) i

  rounds_steps : (k : ℕ) (T : Table) → NoDup (ids T.members) → In n (ids T.members) → (k ≤ steps_in_rounds n k T) × (steps_in_rounds n k T ≤ k * (T.r + 2))
  rounds_steps zero T nd i = (omega arith, omega arith)
  rounds_steps (suc k) T nd i =
      let a = seen_round T in
      let h = round_steps T nd i in
      let l = rounds_steps k (after_round T) (subst NoDup (sym a.same_ids) nd) (subst (λ (l : List ℕ). In n l) (sym a.same_ids) i) in
      let most : steps_in_rounds n k (after_round T) ≤ k * (T.r + 2) = subst (λ (r : ℕ). steps_in_rounds n k (after_round T) ≤ k * (r + 2)) a.same_r l.1 in
      let s = suc-mul k (T.r + 2) in
      (omega (arith, h.0, l.0), omega (arith, h.1))

pub rounds_are_steps : RoundsAreSteps
rounds_are_steps T f n l k = rounds_steps n k T (rising_nodup (ids T.members) (formed_facts T f).ids_rising) (live_in T.members n l)

-- The calls

same_count : (n : ℕ) {T U : Table} → T ≡ U → count_in T n ≡ count_in U n
same_count n e = ap (λ (T : Table). count_in T n) e

module _ (n : ℕ) (ws : List ℕ) where
  join_count : (j p : ℕ) → live (members_in ws) n ≡ true → steps_of (join_words ws j p) n ≡ steps_of ws n
  unfolding join_words
  join_count j p l = afterwards_has (λ us. steps_of us n ≡ steps_of ws n) (join_refusal ws j p) (written (joined j p (table_of ws)) ws) ws
      (λ e. same_count n (joined_read ws j p e) ∙ ap (λ (m : Member). m.steps) (inserted_others (joiner (members_in ws) j p) n (members_in ws)
      (λ q. true≢false (sym l ∙ ap (live (members_in ws)) (sym q) ∙ (join_accepted ws j p e).new)))) refl

  -- whoever is still a member
  lost_count : (m k : ℕ) → (k ≡ 0 → well_formed ws ≡ true) → let us = afterwards k (written_freed (without m (table_of ws)) ws) ws in live (members_in us) n ≡ true → steps_of us n ≡ steps_of ws n
  lost_count m zero w l =
      let e = without_read ws m (w refl) in
      let nd = rising_nodup (ids (members_in ws)) (well_formed_facts ws (w refl)).table.ids_rising in
      same_count n e ∙ ap (λ (u : Member). u.steps) (staying_named (is_named m) n (members_in ws) nd
      (live_in (without m (table_of ws)).members n (subst (λ (T : Table). live T.members n ≡ true) e l)))
  lost_count m (suc k) w l = refl

  rectify_count : (m q : ℕ) → steps_of (rectify_words ws m q) n ≡ steps_of ws n
  unfolding rectify_words
  rectify_count m q = afterwards_has (λ us. steps_of us n ≡ steps_of ws n) (member_refusal ws m) (written (rectified m q (table_of ws)) ws) ws
      (λ e. same_count n (rectified_read ws m q e) ∙ noticed m q (table_of ws) (live_in (members_in ws) m (member_accepted ws m e)) n) refl

  stabilize_count : (m : ℕ) → steps_of (stabilize_words ws m) n ≡ iterate next_step (if eqb (member_refusal ws m) 0 then bit (eqb m n) else 0) (steps_of ws n)
  unfolding stabilize_words
  stabilize_count m = go (member_refusal ws m) refl
    where
      step : (b : Bool) → eqb m n ≡ b → Counting m 1 (table_of ws) (stabilized m (table_of ws)) → count_in (stabilized m (table_of ws)) n ≡ iterate next_step (bit b) (steps_of ws n)
      step true e a = subst (λ (x : ℕ). count_in (stabilized m (table_of ws)) x ≡ next_step (steps_of ws x)) (eqb-true m n e) a.seen.own
      step false e a = a.others n (λ q. eqb-false m n e (sym q))

      go : (k : ℕ) → member_refusal ws m ≡ k → steps_of (afterwards k (written (stabilized m (table_of ws)) ws) ws) n ≡ iterate next_step (if eqb k 0 then bit (eqb m n) else 0) (steps_of ws n)
      go zero e = same_count n (stabilized_read ws m e) ∙ step (eqb m n) refl (counting_step m (table_of ws) (live_in (members_in ws) m (member_accepted ws m e)))
      go (suc k) e = rw (ne_eqb (suc k) 0 (λ q. omega arith))

  -- no step, accepted or not
  none : (c : Call) (s : ℕ) → s ≡ steps_of ws n → s ≡ iterate next_step (if eqb (call_answer ws c).number 0 then 0 else 0) (steps_of ws n)
  none c s e = go (eqb (call_answer ws c).number 0)
    where
      go : (b : Bool) → s ≡ iterate next_step (if b then 0 else 0) (steps_of ws n)
      go true = e
      go false = e

  call_count : (c : Call) → live (members_in ws) n ≡ true → live (members_in (call_words ws c)) n ≡ true
      → steps_of (call_words ws c) n ≡ iterate next_step (if eqb (call_answer ws c).number 0 then steps_by_call n c else 0) (steps_of ws n)
  unfolding call_words call_answer fail_words leave_words stabilize_answer
  call_count (Join j p) l k = none (Join j p) _ (join_count j p l)
  call_count (Leave m) l k = none (Leave m) _ (lost_count m (leave_refusal ws m) (λ e. (leave_accepted ws m e).table) k)
  call_count (Fail m) l k = none (Fail m) _ (lost_count m (member_refusal ws m) (member_table ws m) k)
  call_count (Stabilize m) l k = rw (answer_number (member_refusal ws m)) (stabilize_count m)
  call_count (Rectify m q) l k = none (Rectify m q) _ (rectify_count m q)
  call_count (Lookup m q) l k = none (Lookup m q) _ refl
  call_count Audit l k = none Audit _ refl

  -- an accepted round and settle, with windows too: so many rounds of the table
  rounds_count : (j k : ℕ) (steps : ℕ) → (k ≡ 0 → settle_refusal ws ≡ 0) → Seen n steps (table_of ws) (after_rounds j (table_of ws))
      → steps_of (afterwards k (written (after_rounds j (table_of ws)) ws) ws) n ≡ iterate next_step (if eqb k 0 then steps else 0) (steps_of ws n)
  rounds_count j zero steps e a =
      let g = settle_accepted ws (e refl) in
      same_count n (rounds_slice j ws (record { is_well_formed = g.0; is_sound = g.1 })).1 ∙ a.own
  rounds_count j (suc k) steps e a = rw (ne_eqb (suc k) 0 (λ q. omega arith))

  service_count : (s : Service) → live (members_in ws) n ≡ true → live (members_in (service_words ws s)) n ≡ true
      → steps_of (service_words ws s) n ≡ iterate next_step (if eqb (service_answer ws s).number 0 then steps_by n (table_of ws) s else 0) (steps_of ws n)
  unfolding service_words service_answer round_words round_answer settle_words settle_answer settle_at_words settle_at_answer
  service_count (Called c) l k = call_count c l k
  service_count Round l k = rw (answer_number (settle_refusal ws)) (rounds_count 1 (settle_refusal ws) (steps_in_round n (table_of ws)) (λ e. e) (seen_round n (table_of ws)))
  service_count (Settle limit) l k =
      let j = rounds_run limit (table_of ws) in
      rw (answer_number (settle_refusal ws)) (rounds_count j (settle_refusal ws) (steps_in_rounds n j (table_of ws)) (λ e. e) (seen_rounds n j (table_of ws)))
  service_count (SettleAt vs ts) l k =
      let j = rounds_at (windows_in vs) ts (table_of ws) in
      rw (answer_number (settle_at_refusal ws vs ts))
      (rounds_count j (settle_at_refusal ws vs ts) (steps_in_rounds n j (table_of ws)) (λ e. (settle_at_accepted ws vs ts e).0) (seen_rounds n j (table_of ws)))

-- so many rounds of a sound table add so much to each count
module _ (ws : List ℕ) (w : well_formed ws ≡ true) (s : sound (table_of ws) ≡ true) (n : ℕ) (l : live (members_in ws) n ≡ true) where
  rounds_add : (k : ℕ) → Adds n k (k * ((table_of ws).r + 2)) ws (written (after_rounds k (table_of ws)) ws)
  rounds_add k =
      let f = (well_formed_facts ws w).table in
      let i = live_in (members_in ws) n l in
      let h = rounds_steps n k (table_of ws) (rising_nodup (ids (members_in ws)) f.ids_rising) i in
      let small = (f.each (named (members_in ws) n) (found (members_in ws) i).0).steps_small in
      record {
        steps = steps_in_rounds n k (table_of ws);
        low = h.0;
        high = h.1;
        sum = same_count n (rounds_slice k ws (record { is_well_formed = w; is_sound = s })).1 ∙ (seen_rounds n k (table_of ws)).own ∙ more_counted (steps_in_rounds n k (table_of ws)) (steps_of ws n) small;
      }

pub round_adds : RoundAdds
unfolding round_words
round_adds ws w s n l =
    let a = rounds_add ws w s n l 1 in
    rw (settle_accepts ws w s) (record { steps = a.steps; low = a.low; high = omega (arith, a.high); sum = a.sum })

pub settle_adds : SettleAdds
unfolding settle_answer settle_words
settle_adds ws w s n l limit = rw (settle_accepts ws w s) (rounds_add ws w s n l (rounds_run limit (table_of ws)))

pub others_stay : OthersStay
unfolding stabilize_words
others_stay m n ws d = afterwards_has (λ us. steps_of us n ≡ steps_of ws n) (member_refusal ws m) (written (stabilized m (table_of ws)) ws) ws
    (λ e. same_count n (stabilized_read ws m e) ∙ (counting_step m (table_of ws) (live_in (members_in ws) m (member_accepted ws m e))).others n (λ q. d (sym q))) refl

-- Lists of calls, of any kind, of which each counts the steps that it makes

module _ {C : Type 0} (next : List ℕ → C → List ℕ) (made : List ℕ → C → ℕ) (n : ℕ)
    (one : (c : C) (ws : List ℕ) → live (members_in ws) n ≡ true → live (members_in (next ws c)) n ≡ true → steps_of (next ws c) n ≡ iterate next_step (made ws c) (steps_of ws n)) where
  list_more : (cs : List C) (ws : List ℕ) → live (members_in ws) n ≡ true → each_meets next (λ us c. live (members_in (next us c)) n) cs ws ≡ true
      → steps_of (after_all next cs ws) n ≡ iterate next_step (steps_of_all next made cs ws) (steps_of ws n)
  list_more [] ws l h = refl
  list_more (c ∷ cs) ws l h =
      let b = and-true (live (members_in (next ws c)) n) _ h in
      let rest : ℕ = steps_of_all next made cs (next ws c) in
      list_more cs (next ws c) b.0 b.1 ∙ ap (iterate next_step rest) (one c ws l b.0) ∙ sym (iterate_add next_step (made ws c) rest (steps_of ws n))

  list_counts : (cs : List C) (ws : List ℕ) → stays_member next n cs ws ≡ true → steps_of ws n < word_limit → steps_of (after_all next cs ws) n ≡ counted (steps_of ws n + steps_of_all next made cs ws)
  list_counts cs ws h small =
      let b = and-true (live (members_in ws) n) _ h in
      list_more cs ws b.0 b.1 ∙ more_counted (steps_of_all next made cs ws) (steps_of ws n) small

pub calls_count : CallsCount
unfolding run
calls_count n cs ws h small = list_counts call_words (λ us c. if accepts us c then steps_by_call n c else 0) n (λ c us. call_count n us c) cs ws h small

pub counts_own_steps : CountsOwnSteps
unfolding served
counts_own_steps n ss ws h small =
    list_counts service_words (λ us s. if eqb (service_answer us s).number 0 then steps_by n (table_of us) s else 0) n (λ s us. service_count n us s) ss ws h small

-- s and k steps, as a count has them
tells : ReadingsTell
tells n ss ws s k t h e = go (less? (s + k) word_limit)
  where
    go : (s + k < word_limit) ⊎ (word_limit ≤ s + k) → (t ≡ s → k ≡ 0) × (k ≡ 0 → t ≡ s) × (t < 4294967295 → t ≡ s + k)
    go (inl l) = let q : t ≡ s + k = e ∙ counted_low (s + k) l in (λ z. omega arith, λ z. omega arith, λ z. q)
    go (inr g) = let q : t ≡ 4294967295 = e ∙ counted_over (s + k) g in (λ z. absurd (omega arith), λ z. absurd (omega arith), λ z. absurd (omega arith))

pub two_readings_tell : TwoReadingsTell
two_readings_tell n ss ws h low =
    let t = tells n ss ws (steps_of ws n) (steps_in n ss ws) (steps_of (served ss ws) n) low (counts_own_steps n ss ws h (omega arith)) in
    record { equal_none = t.0; none_equal = t.1; differ = t.2 }

-- Join and new

pub join_starts : JoinStarts
unfolding join_words
join_starts ws j p e =
    let v = joiner (members_in ws) j p in
    rw e (same_count j (joined_read ws j p e) ∙ ap (λ (m : Member). m.steps) (inserted_named v (members_in ws)
    (λ i. true≢false (sym (in_live (members_in ws) i) ∙ (join_accepted ws j p e).new))))

none_counted : (ms : List Member) → ((m : Member) → In m ms → m.steps ≡ 0) → (n : ℕ) → (named ms n).steps ≡ 0
none_counted [] h n = refl
none_counted (m ∷ ms) h n = go (eqb m.id n) (none_counted ms (λ k i. h k (there i)) n)
  where
    go : (b : Bool) → (named ms n).steps ≡ 0 → (if b then m else named ms n).steps ≡ 0
    go true ih = h m (here refl)
    go false ih = ih

pub new_starts : NewStarts
unfolding new_words
new_starts ws r xs e n =
    let lists = each_new (λ m. length m.successors ≡ r) r xs (λ x i. next_ups_length r xs x) in
    rw e (same_count n (written_table (new_table r xs) ws lists) ∙ none_counted (new_table r xs).members (each_new (λ m. m.steps ≡ 0) r xs (λ x i. refl)) n)
