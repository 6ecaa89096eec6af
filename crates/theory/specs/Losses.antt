-- An accepted loss, and the audit after it. On a sound table: the verdict after it is 0 exactly where no withdrawal would have been granted. Where one
-- would have been, it would have left the same words.
use Rattle.std.specs.Prelude.{◌≡◌, refl, Bool, true, false, not, List, ℕ, ◌+◌, eqb, ltb, if◌then◌else◌}
use Rattle.std.proofs.Common.{sym, ap, ◌∙◌, arith, eqb-true, ltb-true}
use Rattle.std.proofs.lemmas.Bool.{eqb-false}
use Rattle.model.specs.Lists.{every}
use Rattle.model.specs.Table.{Member, table_of, members_in, well_formed}
use Rattle.model.specs.Ring.{live, has_live, principals, sound, verdict}
use Rattle.model.specs.Steps.{without}
use Rattle.model.specs.Refusals.{member_refusal, leave_refusal, cuts_off, too_few_principals}
use Rattle.model.specs.Calls.{fail_answer, fail_words, leave_answer, leave_words}
use Rattle.model.specs.Run.{Leave, Fail, call_answer, call_words, accepts}
use Rattle.laws.specs.Accepted.{answer_number, member_accepted, member_accepts, leave_accepted}
use Rattle.laws.specs.Verdicts.{verdict_few, verdict_cut_off}
use Rattle.theory.specs.Left.{lost_table}
use Rattle.theory.specs.Runs.{fail_good}

-- 6 and 7 are judged on the table without the member: where either applies, that table is not sound
declined_unsound : (ws : List ℕ) (n : ℕ) → well_formed ws ≡ true → live (members_in ws) n ≡ true → (leave_refusal ws n ≡ 0 → ⊥) → verdict (without n (table_of ws)) ≡ 0
unfolding leave_refusal cuts_off too_few_principals
declined_unsound ws n h l d = go (every (has_live ms) ms) refl (ltb (principals ms) ((table_of ws).r + 1)) refl (rw (h, l) at d)
  where
    ms : List Member
    ms = (without n (table_of ws)).members

    go : (e : Bool) → every (has_live ms) ms ≡ e → (t : Bool) → ltb (principals ms) ((table_of ws).r + 1) ≡ t
        → (◌≡◌ {A = ℕ} (if not e then 6 else if t then 7 else 0) 0 → ⊥) → verdict (without n (table_of ws)) ≡ 0
    go false e t q f = sym (verdict_cut_off (without n (table_of ws)) e)
    go true e true q f = sym (verdict_few (without n (table_of ws)) (omega (arith, ltb-true (principals ms) ((table_of ws).r + 1) q)))
    go true e false q f = absurd (f refl)

-- the calls, accepted, said of their refusals

loss_accepted : (ws : List ℕ) (n : ℕ) → accepts ws (Fail n) ≡ true → member_refusal ws n ≡ 0
unfolding call_answer fail_answer
loss_accepted ws n h = sym (answer_number (member_refusal ws n) _) ∙ eqb-true _ 0 h

leave_numbers : (ws : List ℕ) (n : ℕ) → accepts ws (Leave n) ≡ eqb (leave_refusal ws n) 0
unfolding call_answer leave_answer
leave_numbers ws n = ap (λ (k : ℕ). eqb k 0) (answer_number (leave_refusal ws n) _)

-- after an accepted loss on a sound table: sound, if a withdrawal would have been granted; else verdict 0, and so on every well-formed table
pub loss_judged : (ws : List ℕ) (n : ℕ) → well_formed ws ≡ true → accepts ws (Fail n) ≡ true →
    (sound (table_of ws) ≡ true → accepts ws (Leave n) ≡ true → sound (table_of (call_words ws (Fail n))) ≡ true)
    × (accepts ws (Leave n) ≡ false → verdict (table_of (call_words ws (Fail n))) ≡ 0)
unfolding call_words
loss_judged ws n h f = (granted, ungranted)
  where
    e : member_refusal ws n ≡ 0
    e = loss_accepted ws n f

    granted : sound (table_of ws) ≡ true → accepts ws (Leave n) ≡ true → sound (table_of (fail_words ws n)) ≡ true
    granted s a = (fail_good ws (record { is_well_formed = h; is_sound = s }) n (λ q. eqb-true _ 0 (sym (leave_numbers ws n) ∙ a))).is_sound

    ungranted : accepts ws (Leave n) ≡ false → verdict (table_of (fail_words ws n)) ≡ 0
    ungranted a = ap verdict (lost_table ws n e) ∙ declined_unsound ws n h (member_accepted ws n e) (λ q. eqb-false _ 0 (sym (leave_numbers ws n) ∙ a) q)

-- where a withdrawal is granted, a loss in its place answers the same and leaves the same words
pub granted_as_loss : (ws : List ℕ) (n : ℕ) → accepts ws (Leave n) ≡ true →
    (call_answer ws (Fail n) ≡ call_answer ws (Leave n))
    × (call_words ws (Fail n) ≡ call_words ws (Leave n))
unfolding call_answer call_words fail_answer fail_words leave_answer leave_words
granted_as_loss ws n a =
    let e : leave_refusal ws n ≡ 0 = eqb-true _ 0 (sym (leave_numbers ws n) ∙ a) in
    let m = leave_accepted ws n e in
    rw (e, member_accepts ws n m.table m.is_member) (refl, refl)
