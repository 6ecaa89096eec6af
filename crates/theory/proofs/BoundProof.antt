-- The proof of settle's bound: Far's rounds and one more until no successor is wrong, then Right's until no entry is; and what that says of slices.
use Rattle.std.specs.Prelude.{◌≡◌, refl, Bool, true, false, not, List, [], ◌∷◌, ℕ, zero, suc, ◌+◌, ◌-◌, ◌*◌, ◌≤◌, ◌<◌, eqb, length, get_or, take, drop, if◌then◌else◌}
use Rattle.std.proofs.Common.{sym, ap, ap₂, subst, ◌∙◌, arith, eqb-true}
use Rattle.std.proofs.lemmas.Bool.{false≢true, eqb-false}
use Rattle.model.specs.Lists.{every, count}
use Rattle.model.specs.Table.{Table, table_with, size, table_of, members_in, ids}
use Rattle.model.specs.Ring.{named, principal, ideal, verdict, next_up, passed_by_all}
use Rattle.model.specs.Answer.{Answer, accepted}
use Rattle.model.specs.Steps.{uncounted}
use Rattle.model.specs.New.{new_table}
use Rattle.model.specs.Settle.{after_round, after_rounds, rounds_run, after_settle, settle_reply}
use Rattle.model.specs.Calls.{written, round_answer, round_words, settle_answer, settle_words}
use Rattle.model.specs.Fold.{after_all}
use Rattle.model.specs.Service.{Service, Called, Round, Settle, SettleAt, service_words, served}
use Rattle.laws.specs.Lists.{In, found, live_in, length_ids, any_in, count_any, count_length, count_not}
use Rattle.laws.specs.Accepted.{settle_accepts}
use Rattle.laws.specs.Words.{written_same, written_rest, written_over}
use Rattle.laws.specs.Uncounted.{ideal_uncounted}
use Rattle.laws.specs.Windows.{settle_at_has}
use Rattle.laws.specs.Tables.{formed_facts, well_formed_facts, sound_facts, facts_sound, formed_lists}
use Rattle.theory.specs.Bound.{enough, rounds, AtRest, SettlesAfter, one_less, most_rounds, document02, EnoughIsFew, SettleEnds, SettleLeaves, is_upkeep, rounds_in, UpkeepSettles, StepsEnd}
use Rattle.theory.specs.Keep.{Kept}
use Rattle.theory.specs.Forms.{Written, written_leaves}
use Rattle.theory.specs.Runs.{Good, good_kept, leaves_good}
use Rattle.theory.specs.New.{new_ideal}
use Rattle.theory.specs.Turns.{round_lasts, rounds_last, same_size}
use Rattle.theory.proofs.Calm.{turn_until}
use Rattle.theory.proofs.Rounds.{Common, calm_round}
use Rattle.theory.proofs.Far.{Fars, fars_round, none_wrong}
use Rattle.theory.proofs.Right.{Right, right_round, rest_round, rest_members}

rounds_add : (a b n : ℕ) (T : Table) → a + b ≡ n → after_rounds n T ≡ after_rounds b (after_rounds a T)
rounds_add zero b n T e = let q : n ≡ b = omega arith in ap (λ (k : ℕ). after_rounds k T) q
rounds_add (suc a) b zero T e = absurd (omega arith)
rounds_add (suc a) b (suc n) T e = rounds_add a b n (after_round T) (omega arith)

first_one : (l : List ℕ) (x : ℕ) → 1 ≤ length l → get_or l 0 0 ≡ x → take 1 l ≡ x ∷ []
first_one [] x h e = absurd (omega arith)
first_one (y ∷ l) x h e = ap (λ (z : ℕ). z ∷ []) e

-- One sound table

module _ (T : Table) (k : Kept T) where
  abbrev xs : List ℕ
  xs = ids T.members

  abbrev pr : ℕ → Bool
  pr = principal T.members

  abbrev r : ℕ
  r = T.r

  -- members that are no principals
  abbrev others : ℕ
  others = count (λ x. not (pr x)) xs

  common : Common r xs pr T
  common = record { kept = k; is_r = refl; is_ids = refl; spares = λ q i h. h }

  many : r + 1 ≤ length xs
  many = omega (arith, k.is_sound.enough, count_length pr xs)

  some : 1 ≤ length xs
  some = omega (arith, many)

  a_principal : (p : ℕ) × In p xs × (pr p ≡ true)
  a_principal = any_in pr xs (count_any pr xs (omega (arith, k.is_sound.enough)))

  abbrev Wrongs : ℕ → Table → Type 0
  Wrongs = Fars xs k.formed.ids_rising pr r some

  abbrev Rights : ℕ → Table → Type 0
  Rights = Right xs k.formed.ids_rising some pr r

  -- rounds, one after the other

  far_after : (j a b : ℕ) (U : Table) → a + j ≡ b → Wrongs a U → Wrongs b (after_rounds j U)
  far_after zero a b U e v = let q : a ≡ b = omega arith in subst (λ (n : ℕ). Wrongs n U) q v
  far_after (suc j) a b U e v = far_after j (suc a) b (after_round U) (omega arith) (fars_round xs k.formed.ids_rising pr r some a U v)

  right_after : (j a b : ℕ) (U : Table) → a + j ≡ b → b ≤ r → Rights a U → Rights b (after_rounds j U)
  right_after zero a b U e h v = let q : a ≡ b = omega arith in subst (λ (n : ℕ). Rights n U) q v
  right_after (suc j) a b U e h v = right_after j (suc a) b (after_round U) (omega arith) h (right_round xs k.formed.ids_rising some pr r a U (omega arith) v)

  rest_after : (j : ℕ) (U : Table) → Rights r U → Rights r (after_rounds j U)
  rest_after zero U v = v
  rest_after (suc j) U v = rest_after j (after_round U) (rest_round xs k.formed.ids_rising some pr r U v)

  -- after the first round all are calm; after as many more as there are others, no successor is wrong
  first_right : Rights 1 (after_rounds (suc others) T)
  first_right =
      let v = far_after others 0 others (after_round T) (omega arith) (record { all = calm_round r xs pr T common; far = λ x i ne. tt }) in
      let p = a_principal in
      let c = v.all.common in
      let first = none_wrong xs k.formed.ids_rising pr r some others _ v p.0 p.1 p.2 (omega arith) in
      record { all = v.all; first = first; lists = λ x i. first_one (named (after_rounds (suc others) T).members x).successors (next_up xs x) (long c x i) (first x i) }
    where
      long : {U : Table} → Common r xs pr U → (x : ℕ) → In x xs → 1 ≤ length (named U.members x).successors
      long {U} c x i = let f = found {x = x} U.members (rw c.is_ids i) in omega (arith, (c.kept.formed.each (named U.members x) f.0).list_length, c.kept.formed.r_low)

  -- after r - 1 more no entry is, nor ever again
  right_from : (j : ℕ) → others + r ≤ j → Rights r (after_rounds j T)
  right_from j h =
      let low = k.formed.r_low in
      let a = first_right in
      let b = right_after (r - 1) 1 r (after_rounds (suc others) T) (omega arith) (omega arith) a in
      let c = rest_after (j - (others + r)) _ b in
      subst (λ (U : Table). Rights r U) (ap (after_rounds (j - (others + r))) (sym (rounds_add (suc others) (r - 1) (others + r) T (omega arith)))
      ∙ sym (rounds_add (others + r) (j - (others + r)) j T (omega arith))) c

  -- the members are then those of the new table but for their counts: so the table is ideal, and a round changes step counts only

  right_table : (U : Table) → Rights r U → uncounted U ≡ new_table r xs
  right_table U v = ap₂ table_with v.all.common.is_r (rest_members xs k.formed.ids_rising some pr r U v)

  right_ideal : (U : Table) → Rights r U → ideal U ≡ true
  right_ideal U v = sym (ideal_uncounted U) ∙ ap ideal (right_table U v)
      ∙ new_ideal r xs (record {
        r_low = k.formed.r_low;
        r_high = k.formed.r_high;
        is_rising = k.formed.ids_rising;
        enough = many;
        few = omega (arith, length_ids T.members, k.formed.count_high);
      })

  right_verdict : (U : Table) → Rights r U → verdict U ≡ 2
  unfolding verdict
  right_verdict U v = rw (facts_sound U v.all.common.kept.is_sound, right_ideal U v)

  right_counts : (U : Table) → Rights r U → uncounted (after_round U) ≡ uncounted U
  right_counts U v = right_table (after_round U) (rest_round xs k.formed.ids_rising some pr r U v) ∙ sym (right_table U v)

-- the steps of a turn are never ended by the bound
pub steps_end : StepsEnd
steps_end T f s n l = turn_until n T (record { formed = formed_facts T f; is_sound = sound_facts T s }) (live_in T.members n l)

-- Slices

-- so many rounds of a sound table, written over the slice, are what is read there
pub rounds_leaves : (j : ℕ) (ws : List ℕ) → Good ws → Written (after_rounds j (table_of ws)) (written (after_rounds j (table_of ws)) ws) ws
rounds_leaves j ws s =
    let a = rounds_last j (table_of ws) (good_kept ws s) in
    written_leaves (after_rounds j (table_of ws)) ws a.kept.formed (omega (arith, same_size a, (well_formed_facts ws s.is_well_formed).fits))

-- and it is a sound table's slice again
pub rounds_slice : (j : ℕ) (ws : List ℕ) → Good ws → Good (written (after_rounds j (table_of ws)) ws) × (table_of (written (after_rounds j (table_of ws)) ws) ≡ after_rounds j (table_of ws))
rounds_slice j ws s = let l = rounds_leaves j ws s in (leaves_good l (rounds_last j (table_of ws) (good_kept ws s)).kept.is_sound, l.table)

module _ (ws : List ℕ) (s : Good ws) where
  round_is : round_words ws ≡ written (after_round (table_of ws)) ws
  unfolding round_words
  round_is = rw (settle_accepts ws s.is_well_formed s.is_sound)

  pub round_slice : Good (round_words ws)
  round_slice = rw round_is (rounds_slice 1 ws s).0

  pub round_table : table_of (round_words ws) ≡ after_round (table_of ws)
  round_table = ap table_of round_is ∙ (rounds_slice 1 ws s).1

-- the slice after k rounds has the table after k rounds
pub after_rounds_law : (j : ℕ) (ws : List ℕ) → Good ws → Good (rounds j ws) × (table_of (rounds j ws) ≡ after_rounds j (table_of ws))
after_rounds_law zero ws s = (s, refl)
after_rounds_law (suc j) ws s = let g = after_rounds_law j (round_words ws) (round_slice ws s) in (g.0, g.1 ∙ ap (after_rounds j) (round_table ws s))

-- rounds after rounds, written over the slice, are so many rounds in all
rounds_on : (j n m : ℕ) (ws : List ℕ) → Good ws → j + n ≡ m
    → written (after_rounds n (table_of (written (after_rounds j (table_of ws)) ws))) (written (after_rounds j (table_of ws)) ws)
    ≡ written (after_rounds m (table_of ws)) ws
rounds_on j n m ws s q =
    let T = table_of ws in
    let us = written (after_rounds j T) ws in
    let a = rounds_last j T (good_kept ws s) in
    let b = rounds_last m T (good_kept ws s) in
    ap (λ (U : Table). written (after_rounds n U) us) (rounds_slice j ws s).1
    ∙ ap (λ (U : Table). written U us) (sym (rounds_add j n m T q))
    ∙ written_over (after_rounds m T) (after_rounds j T) ws (formed_lists _ b.kept.formed) (formed_lists _ a.kept.formed) (same_size b ∙ sym (same_size a))

-- the slice after k rounds is the table after k rounds, written over it
rounds_are : (j : ℕ) (ws : List ℕ) → Good ws → rounds j ws ≡ written (after_rounds j (table_of ws)) ws
rounds_are zero ws s = let f = well_formed_facts ws s.is_well_formed in sym (written_same ws f.own_header f.fits)
rounds_are (suc j) ws s = rounds_are j (round_words ws) (round_slice ws s) ∙ ap (λ (us : List ℕ). written (after_rounds j (table_of us)) us) (round_is ws s) ∙ rounds_on 1 j (suc j) ws s (omega arith)

-- what members - principals + r is in terms of those that are no principals
enough_is : (ws : List ℕ) → enough ws ≡ count (λ x. not (principal (members_in ws) x)) (ids (members_in ws)) + (table_of ws).r
enough_is ws = omega (arith, count_not (principal (members_in ws)) (ids (members_in ws)), length_ids (members_in ws))

-- a slice with that table is at rest
rest_of : (ws : List ℕ) → Good ws → verdict (table_of ws) ≡ 2 → verdict (after_round (table_of ws)) ≡ 2 → uncounted (after_round (table_of ws)) ≡ uncounted (table_of ws) → AtRest ws
unfolding round_answer
rest_of ws s v n c =
    let a = round_lasts (table_of ws) (good_kept ws s) in
    record {
      verdict_2 = v;
      replies_2 = rw (settle_accepts ws s.is_well_formed s.is_sound, n);
      counts_only = ap uncounted (round_table ws s) ∙ c;
      rest_stays = ap (drop (size (table_of ws))) (round_is ws s)
          ∙ written_rest (after_round (table_of ws)) ws (size (table_of ws)) (formed_lists (after_round (table_of ws)) a.kept.formed) (same_size a);
    }

-- The theorems

-- members - principals + r rounds are enough
pub settles_after_enough : SettlesAfter enough
settles_after_enough ws wf so j h =
    let s : Good ws = record { is_well_formed = wf; is_sound = so } in
    let k = good_kept ws s in
    let T = table_of ws in
    let a = after_rounds_law j ws s in
    let e = a.1 in
    let far : count (λ x. not (principal (members_in ws) x)) (ids (members_in ws)) + T.r ≤ j = omega (arith, enough_is ws) in
    let v = right_from T k j far in
    let U = after_rounds j T in
    let n = rest_round (ids (members_in ws)) k.formed.ids_rising (some T k) (principal (members_in ws)) T.r U v in
    rest_of (rounds j ws) a.0 (ap verdict e ∙ right_verdict T k U v) (ap (λ (X : Table). verdict (after_round X)) e ∙ right_verdict T k (after_round U) n)
    (subst (λ (X : Table). uncounted (after_round X) ≡ uncounted X) (sym e) (right_counts T k U v))

-- and at most members - 1
pub enough_at_most : EnoughIsFew
enough_at_most ws so = omega (arith, (sound_facts (table_of ws) so).enough, count_length (principal (members_in ws)) (ids (members_in ws)), length_ids (members_in ws))

pub settles_after_one_less : SettlesAfter one_less
settles_after_one_less ws wf so j h = settles_after_enough ws wf so j (omega (arith, enough_at_most ws so))

-- document 02's sentence
square : (s : ℕ) → s ≤ 2 * s * s
square zero = omega arith
square (suc s) = let q : 2 * suc s * suc s ≡ 2 * suc s * s + 2 * suc s = omega arith in omega arith

pub settles_as_document_02 : SettlesAfter document02
settles_as_document_02 ws wf so j h = settles_after_one_less ws wf so j (omega (arith, square (length (members_in ws))))

-- settle stops where the verdict is 2
runs_to : (limit e : ℕ) (T : Table) → ((j : ℕ) → e ≤ j → verdict (after_rounds j T) ≡ 2) → e ≤ limit → (rounds_run limit T ≤ e) × (verdict (after_settle limit T) ≡ 2)
runs_to zero e T f h = (omega arith, f 0 h)
runs_to (suc limit) e T f h = go (eqb (verdict T) 2) refl e f h (λ e f h. runs_to limit e (after_round T) f h)
  where
    go : (b : Bool) → eqb (verdict T) 2 ≡ b → (e : ℕ) → ((j : ℕ) → e ≤ j → verdict (after_rounds j T) ≡ 2) → e ≤ suc limit →
        ((e : ℕ) → ((j : ℕ) → e ≤ j → verdict (after_rounds j (after_round T)) ≡ 2) → e ≤ limit → (rounds_run limit (after_round T) ≤ e) × (verdict (after_settle limit (after_round T)) ≡ 2)) →
        ((if b then 0 else suc (rounds_run limit (after_round T))) ≤ e) × (verdict (after_rounds (if b then 0 else suc (rounds_run limit (after_round T))) T) ≡ 2)
    go true q e f h ih = (omega arith, eqb-true _ 2 q)
    go false q zero f h ih = absurd (eqb-false _ 2 q (f 0 (omega arith)))
    go false q (suc e) f h ih = let g = ih e (λ j l. f (suc j) (omega arith)) (omega arith) in (omega (arith, g.0), g.1)

runs_few : (limit : ℕ) (T : Table) → rounds_run limit T ≤ limit
runs_few zero T = omega arith
runs_few (suc limit) T = go (eqb (verdict T) 2) (runs_few limit (after_round T))
  where
    go : (b : Bool) → rounds_run limit (after_round T) ≤ limit → (if b then 0 else suc (rounds_run limit (after_round T))) ≤ suc limit
    go true h = omega arith
    go false h = omega arith

-- before each of them the verdict is another, and after fewer than the limit it is 2
runs_stop : (limit : ℕ) (T : Table) → ((j : ℕ) → j < rounds_run limit T → verdict (after_rounds j T) ≡ 2 → ⊥) × (rounds_run limit T < limit → verdict (after_settle limit T) ≡ 2)
runs_stop zero T = (λ j h v. omega arith, λ h. absurd (omega arith))
runs_stop (suc limit) T = go (eqb (verdict T) 2) refl (runs_stop limit (after_round T))
  where
    go : (b : Bool) → eqb (verdict T) 2 ≡ b →
        ((j : ℕ) → j < rounds_run limit (after_round T) → verdict (after_rounds j (after_round T)) ≡ 2 → ⊥) × (rounds_run limit (after_round T) < limit → verdict (after_settle limit (after_round T)) ≡ 2) →
        ((j : ℕ) → j < (if b then 0 else suc (rounds_run limit (after_round T))) → verdict (after_rounds j T) ≡ 2 → ⊥)
        × ((if b then 0 else suc (rounds_run limit (after_round T))) < suc limit → verdict (after_rounds (if b then 0 else suc (rounds_run limit (after_round T))) T) ≡ 2)
    go true q ih = (λ j h v. omega arith, λ h. eqb-true _ 2 q)
    go false q ih = (before, λ h. ih.1 (omega arith))
      where
        before : (j : ℕ) → j < suc (rounds_run limit (after_round T)) → verdict (after_rounds j T) ≡ 2 → ⊥
        before zero h v = eqb-false _ 2 q v
        before (suc j) h v = ih.0 j (omega arith) v

-- what settle replies and leaves
module _ (ws : List ℕ) (s : Good ws) (limit : ℕ) where
  settle_replies : settle_answer ws limit ≡ accepted (settle_reply limit (table_of ws))
  unfolding settle_answer
  settle_replies = rw (settle_accepts ws s.is_well_formed s.is_sound)

  settle_is : settle_words ws limit ≡ written (after_settle limit (table_of ws)) ws
  unfolding settle_words
  settle_is = rw (settle_accepts ws s.is_well_formed s.is_sound)

  settle_table : table_of (settle_words ws limit) ≡ after_settle limit (table_of ws)
  settle_table = ap table_of settle_is ∙ (rounds_slice (rounds_run limit (table_of ws)) ws s).1

  pub settle_rounds : settle_words ws limit ≡ rounds (rounds_run limit (table_of ws)) ws
  settle_rounds = settle_is ∙ sym (rounds_are (rounds_run limit (table_of ws)) ws s)

pub settle_leaves : SettleLeaves
settle_leaves ws wf so limit =
    let s : Good ws = record { is_well_formed = wf; is_sound = so } in
    let n = rounds_run limit (table_of ws) in
    let e = runs_stop limit (table_of ws) in
    record {
      rounds_run_law = n;
      few = runs_few limit (table_of ws);
      leaves = settle_rounds ws s limit;
      reports = settle_replies ws s limit ∙ ap (λ (v : ℕ). accepted (n ∷ v ∷ passed_by_all (members_in ws) ∷ [])) (ap verdict (sym (settle_table ws s limit)));
      none_ideal = λ j h v. e.0 j h (ap verdict (sym (after_rounds_law j ws s).1) ∙ v);
      early_ideal = λ h. ap verdict (settle_table ws s limit) ∙ e.1 h;
    }

-- rounds and settles run rounds

-- settle, if what comes after it is rounds and settles
settle_on : (limit : ℕ) (ss : List Service) (ws : List ℕ) → Good ws
    → ((us : List ℕ) → Good us → after_all service_words ss us ≡ written (after_rounds (rounds_in ss us) (table_of us)) us)
    → after_all service_words ss (settle_words ws limit) ≡ written (after_rounds (get_or (settle_answer ws limit).values 0 0 + rounds_in ss (settle_words ws limit)) (table_of ws)) ws
settle_on limit ss ws s rest =
    let n = rounds_run limit (table_of ws) in
    let m = rounds_in ss (settle_words ws limit) in
    let e : n + m ≡ get_or (settle_answer ws limit).values 0 0 + m = ap (λ (a : Answer). get_or a.values 0 0 + m) (sym (settle_replies ws s limit)) in
    rest (settle_words ws limit) (rw (settle_is ws s limit) (rounds_slice n ws s).0)
    ∙ ap (λ (us : List ℕ). written (after_rounds m (table_of us)) us) (settle_is ws s limit) ∙ rounds_on n m _ ws s e

upkeep_is : (ss : List Service) (ws : List ℕ) → Good ws → every is_upkeep ss ≡ true → after_all service_words ss ws ≡ written (after_rounds (rounds_in ss ws) (table_of ws)) ws
unfolding service_words
upkeep_is [] ws s h = let f = well_formed_facts ws s.is_well_formed in sym (written_same ws f.own_header f.fits)
upkeep_is (Called c ∷ ss) ws s h = absurd (false≢true h)
upkeep_is (Round ∷ ss) ws s h = upkeep_is ss (round_words ws) (round_slice ws s) h
    ∙ ap (λ (us : List ℕ). written (after_rounds (rounds_in ss (round_words ws)) (table_of us)) us) (round_is ws s)
    ∙ rounds_on 1 (rounds_in ss (round_words ws)) (rounds_in (Round ∷ ss) ws) ws s (omega arith)
upkeep_is (Settle limit ∷ ss) ws s h = settle_on limit ss ws s (λ us g. upkeep_is ss us g h)
upkeep_is (SettleAt vs ts ∷ ss) ws s h =
    settle_at_has (λ a us. after_all service_words ss us ≡ written (after_rounds (get_or a.values 0 0 + rounds_in ss us) (table_of ws)) ws) ws vs ts
    (settle_on _ ss ws s (λ us g. upkeep_is ss us g h))
    (λ k. let q : rounds_in ss ws ≡ 0 + rounds_in ss ws = omega arith in upkeep_is ss ws s h ∙ ap (λ (n : ℕ). written (after_rounds n (table_of ws)) ws) q)

pub upkeep_settles : UpkeepSettles enough
unfolding served
upkeep_settles ss ws wf so h b =
    let s : Good ws = record { is_well_formed = wf; is_sound = so } in
    subst AtRest (rounds_are (rounds_in ss ws) ws s ∙ sym (upkeep_is ss ws s h)) (settles_after_enough ws wf so (rounds_in ss ws) b)

pub settle_ends : SettleEnds enough
settle_ends ws wf so limit h =
    let s : Good ws = record { is_well_formed = wf; is_sound = so } in
    let g = runs_to limit (enough ws) (table_of ws) (λ j l. ap verdict (sym (after_rounds_law j ws s).1) ∙ (settles_after_enough ws wf so j l).verdict_2) h in
    record {
      rounds_run_law = rounds_run limit (table_of ws);
      few = g.0;
      reports = settle_replies ws s limit ∙ ap (λ (v : ℕ). accepted (rounds_run limit (table_of ws) ∷ v ∷ passed_by_all (members_in ws) ∷ [])) g.1;
      leaves_2 = ap verdict (settle_table ws s limit) ∙ g.1;
    }

pub settle_ends_one_less : SettleEnds one_less
settle_ends_one_less ws wf so limit h = settle_ends ws wf so limit (omega (arith, enough_at_most ws so))

pub settle_ends_255 : SettleEnds most_rounds
settle_ends_255 ws wf so limit h = settle_ends_one_less ws wf so limit (omega (arith, (well_formed_facts ws wf).table.count_high))
