-- Declined and accepted calls: what a number other than 0 leaves, and what holds where no cause applies. Assumes nothing.
use Rattle.std.specs.Prelude.{◌≡◌, refl, Bool, true, false, not, List, [], ◌∷◌, ℕ, zero, suc, ◌-◌, ◌≤◌, ◌<◌, length, ltb, leb, if◌then◌else◌}
use Rattle.std.proofs.Common.{arith, ltb-false, leb-false}
use Rattle.std.proofs.lemmas.Bool.{lt-leb, not-false}
use Rattle.model.specs.Identifier.{between}
use Rattle.model.specs.Table.{record_size, size, table_of, members_in, well_formed}
use Rattle.model.specs.Ring.{live, named, successor, sound}
use Rattle.model.specs.Answer.{Answer, accepted, declined, Cause, ◌when◌, first_of, answer, afterwards}
use Rattle.model.specs.Steps.{without}
use Rattle.model.specs.Windows.{week}
use Rattle.model.specs.Refusals.{full, cuts_off, too_few_principals, join_refusal, member_refusal, leave_refusal, settle_refusal, bad_windows, bad_minutes, open_refusal, settle_at_refusal}
use Rattle.laws.specs.Lists.{or-false}

pub declined_answer : (k : ℕ) (a : Answer) → (k ≡ 0 → ⊥) → declined k ≡ answer k a
declined_answer zero a h = absurd (h refl)
declined_answer (suc k) a h = refl

pub answer_number : (k : ℕ) (vs : List ℕ) → (answer k (accepted vs)).number ≡ k
answer_number zero vs = refl
answer_number (suc k) vs = refl

pub unchanged : {A : Type 0} (k : ℕ) (new old : List A) → (k ≡ 0 → ⊥) → old ≡ afterwards k new old
unchanged zero new old h = absurd (h refl)
unchanged (suc k) new old h = refl

-- a buffer afterwards has what the new contents have where no number declines the call, and the old ones
pub afterwards_has : {A : Type 0} (P : List A → Type 0) (k : ℕ) (new old : List A) → (k ≡ 0 → P new) → P old → P (afterwards k new old)
afterwards_has P zero new old h g = h refl
afterwards_has P (suc k) new old h g = g

pub none_applies : (n : ℕ) (b : Bool) (k : ℕ) → (if b then suc n else k) ≡ 0 → (b ≡ false) × (k ≡ 0)
none_applies n true k h = absurd (omega arith)
none_applies n false k h = (refl, h)

pub record MayJoin (ws : List ℕ) (j p : ℕ) : Type 0 where
  pub table : well_formed ws ≡ true
  pub new : live (members_in ws) j ≡ false
  pub by : live (members_in ws) p ≡ true
  pub inside : between p j (successor (named (members_in ws) p)) ≡ true
  pub head_live : live (members_in ws) (successor (named (members_in ws) p)) ≡ true
  pub room : full ws ≡ false

pub join_accepted : (ws : List ℕ) (j p : ℕ) → join_refusal ws j p ≡ 0 → MayJoin ws j p
unfolding join_refusal
join_accepted ws j p h =
    let a = none_applies 0 (not (well_formed ws)) _ h in
    let b = none_applies 1 _ _ a.1 in
    let c = none_applies 2 _ _ b.1 in
    let d = none_applies 3 _ _ c.1 in
    let e = none_applies 12 _ _ d.1 in
    let f = none_applies 4 (full ws) 0 e.1 in
    record { table = not-false _ a.0; new = b.0; by = not-false _ c.0; inside = not-false _ d.0; head_live = not-false _ e.0; room = f.0 }

pub member_table : (ws : List ℕ) (n : ℕ) → member_refusal ws n ≡ 0 → well_formed ws ≡ true
unfolding member_refusal
member_table ws n h = not-false _ (none_applies 0 (not (well_formed ws)) _ h).0

pub member_accepted : (ws : List ℕ) (n : ℕ) → member_refusal ws n ≡ 0 → live (members_in ws) n ≡ true
unfolding member_refusal
member_accepted ws n h = not-false _ (none_applies 2 (not (live (members_in ws) n)) 0 (none_applies 0 (not (well_formed ws)) _ h).1).0

pub member_accepts : (ws : List ℕ) (n : ℕ) → well_formed ws ≡ true → live (members_in ws) n ≡ true → member_refusal ws n ≡ 0
unfolding member_refusal
member_accepts ws n h l = rw (h, l)

-- 1 and 3 come first in every call of a member: where one of them applies, the causes after them do not matter
pub causes_declined : (ws : List ℕ) (n : ℕ) (cs : List Cause) → (member_refusal ws n ≡ 0 → ⊥) → member_refusal ws n ≡ first_of ((1 when not (well_formed ws)) ∷ (3 when not (live (members_in ws) n)) ∷ cs)
unfolding member_refusal
causes_declined ws n cs h = go (not (well_formed ws)) (not (live (members_in ws) n)) h
  where
    go : (a b : Bool) → (first_of ((1 when a) ∷ (3 when b) ∷ []) ≡ 0 → ⊥) → first_of ((1 when a) ∷ (3 when b) ∷ []) ≡ first_of ((1 when a) ∷ (3 when b) ∷ cs)
    go true b h = refl
    go false true h = refl
    go false false h = absurd (h refl)

-- and where neither does, they decide
pub causes_left : (ws : List ℕ) (n : ℕ) (cs : List Cause) → member_refusal ws n ≡ 0 → first_of ((1 when not (well_formed ws)) ∷ (3 when not (live (members_in ws) n)) ∷ cs) ≡ first_of cs
unfolding member_refusal
causes_left ws n cs h = go (not (well_formed ws)) (not (live (members_in ws) n)) h
  where
    go : (a b : Bool) → first_of ((1 when a) ∷ (3 when b) ∷ []) ≡ 0 → first_of ((1 when a) ∷ (3 when b) ∷ cs) ≡ first_of cs
    go true b h = absurd (omega arith)
    go false true h = absurd (omega arith)
    go false false h = refl

pub record MayLeave (ws : List ℕ) (n : ℕ) : Type 0 where
  pub table : well_formed ws ≡ true
  pub is_member : live (members_in ws) n ≡ true
  pub none_cut_off : cuts_off (without n (table_of ws)) ≡ false
  pub enough_left : too_few_principals (without n (table_of ws)) ≡ false

pub leave_accepted : (ws : List ℕ) (n : ℕ) → leave_refusal ws n ≡ 0 → MayLeave ws n
unfolding leave_refusal
leave_accepted ws n h =
    let a = none_applies 0 (not (well_formed ws)) _ h in
    let b = none_applies 2 _ _ a.1 in
    let c = none_applies 5 _ _ b.1 in
    let d = none_applies 6 (too_few_principals (without n (table_of ws))) 0 c.1 in
    record { table = not-false _ a.0; is_member = not-false _ b.0; none_cut_off = c.0; enough_left = d.0 }

pub has_room : (ws : List ℕ) → full ws ≡ false → (length (members_in ws) < 256) × (record_size (table_of ws).r ≤ length ws - size (table_of ws))
unfolding full
has_room ws h =
    let a = or-false (leb 256 (length (members_in ws))) (ltb (length ws - size (table_of ws)) (record_size (table_of ws).r)) h in
    (leb-false 256 (length (members_in ws)) a.0, ltb-false (length ws - size (table_of ws)) (record_size (table_of ws).r) a.1)

pub settle_accepted : (ws : List ℕ) → settle_refusal ws ≡ 0 → (well_formed ws ≡ true) × (sound (table_of ws) ≡ true)
unfolding settle_refusal
settle_accepted ws h =
    let a = none_applies 0 (not (well_formed ws)) _ h in
    let b = none_applies 13 (not (sound (table_of ws))) 0 a.1 in
    (not-false _ a.0, not-false _ b.0)

pub settle_accepts : (ws : List ℕ) → well_formed ws ≡ true → sound (table_of ws) ≡ true → settle_refusal ws ≡ 0
unfolding settle_refusal
settle_accepts ws h s = rw (h, s)

-- settle with windows is declined as settle is, where 15 and 16 do not apply
pub settle_at_left : (ws vs ts : List ℕ) → bad_windows vs ≡ false → bad_minutes ts ≡ false → settle_at_refusal ws vs ts ≡ settle_refusal ws
unfolding settle_at_refusal settle_refusal
settle_at_left ws vs ts b m = rw (b, m)

pub settle_at_accepted : (ws vs ts : List ℕ) → settle_at_refusal ws vs ts ≡ 0 → (settle_refusal ws ≡ 0) × (bad_windows vs ≡ false) × (bad_minutes ts ≡ false)
unfolding settle_at_refusal
settle_at_accepted ws vs ts h =
    let a = none_applies 0 (not (well_formed ws)) _ h in
    let b = none_applies 14 (bad_windows vs) _ a.1 in
    let c = none_applies 15 (bad_minutes ts) _ b.1 in
    let d = none_applies 13 (not (sound (table_of ws))) 0 c.1 in
    (settle_accepts ws (not-false _ a.0) (not-false _ d.0), b.0, c.0)

pub open_accepts : (vs : List ℕ) (m : ℕ) → bad_windows vs ≡ false → m < week → open_refusal vs m ≡ 0
unfolding open_refusal
open_accepts vs m b h = rw (b, lt-leb week m h)
