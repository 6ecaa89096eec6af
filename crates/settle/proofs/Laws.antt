-- Why a table gets no round, and rounds one after the other, each looked at before it, with a limit or at the minutes of a list. Assumes nothing.
use Prim.Native.Nat.{ℕ, zero, suc, ◌+◌, ◌≤◌, ◌<◌}
use mathlib.Core.Path.{◌≡◌, refl, sym, ap, ◌∙◌}
use mathlib.Core.Bool.{Bool, true, false, false≢true}
use mathlib.Core.List.{List, [], ◌∷◌}
use native.Mathlib.Omega.{arith}
use lib.Dec.{ltb, eqb}
use lib.ListN.{length, get_or, drop, drop_of_length-le}
use lib.Seq.{drop-cons}
use borrow.Author.Tests.{ltb-true, ne_eqb, not-false}
use Rattle.std.specs.Prelude.{if◌then◌else◌, Option, Some, None}
use Rattle.model.specs.Lists.{every, rising}
use Rattle.model.specs.Table.{Table, table_of, members_in, well_formed}
use Rattle.model.specs.Ring.{sound, verdict, passed_by_all}
use Rattle.model.specs.Settle.{after_round, after_rounds, rounds_run, ran_reply}
use Rattle.model.specs.Windows.{Window, is_open, of_week, rounds_at}
use Rattle.model.specs.Refusals.{bad_windows, bad_minutes, settle_refusal, settle_at_refusal}
use Rattle.model.specs.Calls.{written}
use Rattle.laws.specs.Lists.{and-true, Above, Rising, rising_true}
use Rattle.laws.specs.Accepted.{settle_accepted, settle_accepts}
use denote.Enum.Bare.{sameb}
use Rattle.std.proofs.Common.{Result, ok_or}
use Rattle.answers.specs.Judged.{Judges}
use Rattle.answers.specs.declared.refusal.Refusal.{Refusal}
use Rattle.answers.specs.declared.refusal.Refusal.TheVariants.{NotSound as Unsound}
use Rattle.answers.specs.Verdict.{number_of}
use Rattle.answers.specs.contracts.report.Verdict.{the_type}
use Rattle.answers.specs.declared.report.Verdict.{Verdict}
use Rattle.answers.specs.declared.report.Verdict.TheVariants.{NotSound, Sound, Ideal}
use Rattle.theory.specs.Runs.{Good, good_kept}
use Rattle.theory.specs.Turns.{round_lasts}
use Rattle.turns.specs.Lasting.{Lasting}
use Rattle.turns.proofs.Lasting.{lasting_none, Next, lasting_next}

-- The causes

module _ (ws : List ℕ) where
  pub no_table : well_formed ws ≡ false → settle_refusal ws ≡ 1
  unfolding settle_refusal
  no_table h = rw h

  pub not_sound : well_formed ws ≡ true → sound (table_of ws) ≡ false → settle_refusal ws ≡ 14
  unfolding settle_refusal
  not_sound h s = rw (h, s)

  module _ (vs ts : List ℕ) where
    pub no_table_at : well_formed ws ≡ false → settle_at_refusal ws vs ts ≡ 1
    unfolding settle_at_refusal
    no_table_at h = rw h

    pub bad_windows_law : well_formed ws ≡ true → bad_windows vs ≡ true → settle_at_refusal ws vs ts ≡ 15
    unfolding settle_at_refusal
    bad_windows_law h b = rw (h, b)

    pub bad_minutes_law : well_formed ws ≡ true → bad_windows vs ≡ false → bad_minutes ts ≡ true → settle_at_refusal ws vs ts ≡ 16
    unfolding settle_at_refusal
    bad_minutes_law h b m = rw (h, b, m)

  pub granted : settle_refusal ws ≡ 0 → Good ws
  granted e = let a = settle_accepted ws e in record { is_well_formed = a.0; is_sound = a.1 }

-- The verdict, asked for 2

pub ideal_is_two : (v : Verdict) (b : Bool) → b ≡ sameb the_type v Ideal → b ≡ true → number_of v ≡ 2
ideal_is_two NotSound b e h = absurd (false≢true (sym e ∙ h))
ideal_is_two Sound b e h = absurd (false≢true (sym e ∙ h))
ideal_is_two Ideal b e h = refl

pub not_two : (v : Verdict) (b : Bool) → b ≡ sameb the_type v Ideal → b ≡ false → number_of v ≡ 2 → ⊥
not_two NotSound b e h z = omega (arith, z)
not_two Sound b e h z = omega (arith, z)
not_two Ideal b e h z = false≢true (sym h ∙ e)

-- Rounds

pub round_next : {ws us : List ℕ} → Good ws → us ≡ written (after_round (table_of ws)) ws → Next ws (after_round (table_of ws)) us
round_next {ws} g e = lasting_next g (lasting_none g) (after_round (table_of ws)) (round_lasts (table_of ws) (good_kept ws g)) e

-- after so many rounds, with the verdict v: what is left to run from us, as left counts it, is the whole of what is run from ws, as all counts it
pub record Settling (all left : Table → ℕ) (ws : List ℕ) (rounds v : ℕ) (us : List ℕ) : Type 0 where
  pub follows : Lasting ws us
  pub looked : v ≡ verdict (table_of us)
  pub counts : rounds + left (table_of us) ≡ all (table_of ws)
  pub rest : after_rounds (left (table_of us)) (table_of us) ≡ after_rounds (all (table_of ws)) (table_of ws)

-- reply and us are what a settle that runs k rounds from ws replies and leaves
abbrev pub Ran : ℕ → List ℕ → List ℕ → List ℕ → Type 0
Ran k ws reply us = (reply ≡ ran_reply k (table_of ws)) × (us ≡ written (after_rounds k (table_of ws)) ws)

module _ {ws : List ℕ} (g : Good ws) (all : Table → ℕ) where
  pub settling_starts : {left : Table → ℕ} {v : ℕ} → left (table_of ws) ≡ all (table_of ws) → v ≡ verdict (table_of ws) → Settling all left ws 0 v ws
  settling_starts q e = record { follows = lasting_none g; looked = e; counts = omega (arith, q); rest = ap (λ (k : ℕ). after_rounds k (table_of ws)) q }

  module _ {left : Table → ℕ} {us : List ℕ} {rounds v : ℕ} (u : Settling all left ws rounds v us) where
    -- none is left; the sum is of the table as it began
    pub settling_ends : {passed : ℕ} → passed ≡ passed_by_all (members_in ws) → left (table_of us) ≡ 0 → Ran (all (table_of ws)) ws (rounds ∷ v ∷ passed ∷ []) us
    settling_ends p z =
        let c : rounds ≡ all (table_of ws) = omega (arith, u.counts, z) in
        let t : table_of us ≡ after_rounds (all (table_of ws)) (table_of ws) = ap (λ (k : ℕ). after_rounds k (table_of us)) (sym z) ∙ u.rest in
        (rw (c, u.looked, t, p), u.follows.in_place ∙ ap (λ (T : Table). written T ws) t)

    -- one more runs
    pub settling_on : {next : Table → ℕ} {vs : List ℕ} {v' : ℕ} → left (table_of us) ≡ suc (next (after_round (table_of us))) → v' ≡ verdict (after_round (table_of us))
        → vs ≡ written (after_round (table_of us)) us → Settling all next ws (rounds + 1) v' vs
    settling_on {next} {vs} c e q =
        let x = lasting_next g u.follows (after_round (table_of us)) (round_lasts (table_of us) u.follows.lasts.kept) q in
        record {
          follows = x.follows;
          looked = e ∙ ap verdict (sym x.has);
          counts = omega (arith, ap next x.has, c, u.counts);
          rest = ap (λ (T : Table). after_rounds (next T) T) x.has ∙ (ap (λ (k : ℕ). after_rounds k (table_of us)) (sym c) ∙ u.rest);
        }

    -- none runs, and it goes on
    pub settling_past : {next : Table → ℕ} → next (table_of us) ≡ left (table_of us) → Settling all next ws rounds v us
    settling_past q = record { follows = u.follows; looked = u.looked; counts = omega (arith, q, u.counts); rest = ap (λ (k : ℕ). after_rounds k (table_of us)) q ∙ u.rest }

-- With a limit

pub none_left : (k : ℕ) (T : Table) → verdict T ≡ 2 → rounds_run k T ≡ 0
none_left zero T v = refl
none_left (suc k) T v = rw v

pub goes_on : (k j : ℕ) (T : Table) → k ≡ suc j → (verdict T ≡ 2 → ⊥) → rounds_run k T ≡ suc (rounds_run j (after_round T))
goes_on k j T e v = rw (e, ne_eqb (verdict T) 2 v)

-- At the minutes of a list

module _ (vs : List Window) where
  pub none_left_at : (ts : List ℕ) (T : Table) → verdict T ≡ 2 → rounds_at vs ts T ≡ 0
  none_left_at [] T v = refl
  none_left_at (t ∷ ts) T v = go (is_open vs (of_week t)) (none_left_at ts T v)
    where
      go : (b : Bool) → rounds_at vs ts T ≡ 0 → (if b then (if eqb (verdict T) 2 then 0 else suc (rounds_at vs ts (after_round T))) else rounds_at vs ts T) ≡ 0
      go true ih = rw v
      go false ih = ih

  module _ (ts : List ℕ) (i : ℕ) where
    pub list_ends : length ts ≤ i → (T : Table) → rounds_at vs (drop i ts) T ≡ 0
    list_ends h T = ap (λ (l : List ℕ). rounds_at vs l T) (drop_of_length-le ts {i = i} h)

    module _ (h : i < length ts) (T : Table) where
      pub goes_on_at : true ≡ is_open vs (of_week (get_or ts i 0)) → (verdict T ≡ 2 → ⊥) → rounds_at vs (drop i ts) T ≡ suc (rounds_at vs (drop (i + 1) ts) (after_round T))
      goes_on_at o v = let q : i + 1 ≡ suc i = omega arith in rw (q, drop-cons ts i 0 h, ← o, ne_eqb (verdict T) 2 v)

      pub passes_at : false ≡ is_open vs (of_week (get_or ts i 0)) → rounds_at vs (drop (i + 1) ts) T ≡ rounds_at vs (drop i ts) T
      passes_at o = let q : i + 1 ≡ suc i = omega arith in rw (q, drop-cons ts i 0 h, ← o)

-- strictly rising minutes below 4294967295 are no more than that: so a u32 counts the rounds
pub minutes_few : (ts : List ℕ) → bad_minutes ts ≡ false → length ts ≤ 4294967295
unfolding bad_minutes
minutes_few ts b =
    let a = and-true (rising ts) (every (λ t. ltb t 4294967295) ts) (not-false _ b) in
    go ts (rising_true ts a.0) a.1
  where
    below : (b x : ℕ) (l : List ℕ) → Above x l → every (λ t. ltb t b) l ≡ true → x < b → x + length l < b
    below b x [] h e l = omega arith
    below b x (y ∷ ys) h e l = let f = and-true (ltb y b) _ e in omega (arith, below b y ys h.1 f.1 (ltb-true y b f.0), h.0)

    go : (l : List ℕ) → Rising l → every (λ t. ltb t 4294967295) l ≡ true → length l ≤ 4294967295
    go [] h e = omega arith
    go (x ∷ l) h e = let f = and-true (ltb x 4294967295) _ e in omega (arith, below 4294967295 x l h f.1 (ltb-true x 4294967295 f.0))

-- What is passed over, told of a sound table alone

pub judged_formed : (ws : List ℕ) → well_formed ws ≡ true → (o : Option ℕ) (r : Result ℕ Refusal) → o ≡ (if sound (table_of ws) then Some (passed_by_all (members_in ws)) else None)
    → r ≡ ok_or o Unsound → Judges (settle_refusal ws) (passed_by_all (members_in ws)) r
judged_formed ws h o r e f = rw (f, e) (go (sound (table_of ws)) refl)
  where
    go : (b : Bool) → sound (table_of ws) ≡ b → Judges (settle_refusal ws) (passed_by_all (members_in ws)) (ok_or (if b then Some (passed_by_all (members_in ws)) else None) Unsound)
    go true s = (settle_accepts ws h s, refl)
    go false s = not_sound ws h s
