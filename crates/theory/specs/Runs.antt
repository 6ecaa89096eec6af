-- Each of the seven calls keeps a slice well-formed and sound, and so does every list of them.
use Rattle.std.specs.Prelude.{◌≡◌, refl, Bool, true, ◌&&◌, List, ℕ, ◌≤◌, ◌<◌, length, ltb}
use Rattle.std.proofs.Common.{sym, ap, ◌∙◌, ltb-true, eqb-true, eq-eqb}
use Rattle.model.specs.Lists.{every}
use Rattle.model.specs.Table.{Table, space_of, size, table_of, well_formed}
use Rattle.model.specs.Ring.{sound}
use Rattle.model.specs.Steps.{joined, stabilized, rectified, is_named, without}
use Rattle.model.specs.Answer.{afterwards}
use Rattle.model.specs.Fold.{after_all, each_meets}
use Rattle.model.specs.Refusals.{join_refusal, member_refusal, leave_refusal}
use Rattle.model.specs.Calls.{written, written_freed, join_words, stabilize_words, rectify_words, fail_answer, fail_words, leave_answer, leave_words}
use Rattle.model.specs.Run.{Call, Join, Leave, Fail, Stabilize, Rectify, Lookup, Audit, numbers_of, call_answer, call_words, run, granted_call, granted}
use Rattle.laws.specs.Fold.{all_keep, all_meet}
use Rattle.laws.specs.Lists.{and-true, implied}
use Rattle.laws.specs.Accepted.{answer_number, afterwards_has, join_accepted, member_table, member_accepted, MayLeave, leave_accepted, has_room}
use Rattle.laws.specs.Tables.{Sound, well_formed_facts, sound_facts, facts_sound}
use Rattle.theory.specs.Claim.{Starts}
use Rattle.theory.specs.Left.{joined_read, stabilized_read, rectified_read, without_read}
use Rattle.theory.specs.Keep.{Kept}
use Rattle.theory.specs.Forms.{Written, written_leaves, join_leaves, stabilize_leaves, rectify_leaves, without_leaves}
use Rattle.theory.specs.Steps.{joined_kept, stabilized_kept, rectified_kept, without_kept}

-- what every call keeps of a slice
pub record Good (ws : List ℕ) : Type 0 where
  pub is_well_formed : well_formed ws ≡ true
  pub is_sound : sound (table_of ws) ≡ true

pub good_kept : (ws : List ℕ) → Good ws → Kept (table_of ws)
good_kept ws g = record { formed = (well_formed_facts ws g.is_well_formed).table; is_sound = sound_facts (table_of ws) g.is_sound }

pub leaves_good : {T : Table} {us ws : List ℕ} → Written T us ws → Sound T → Good us
leaves_good {T} l s = record { is_well_formed = l.is_well_formed; is_sound = ap sound l.table ∙ facts_sound T s }

pub written_good : (T : Table) (ws : List ℕ) → Kept T → size T ≤ length ws → Good (written T ws)
written_good T ws k h = leaves_good (written_leaves T ws k.formed h) k.is_sound

-- Each call

module _ (ws : List ℕ) (g : Good ws) where
  k : Kept (table_of ws)
  k = good_kept ws g

  join_good : (j p : ℕ) → j < space_of (table_of ws) → Good (join_words ws j p)
  unfolding join_words
  join_good j p hj = afterwards_has Good (join_refusal ws j p) (written (joined j p (table_of ws)) ws) ws go g
    where
      go : join_refusal ws j p ≡ 0 → Good (written (joined j p (table_of ws)) ws)
      go e =
          let a = join_accepted ws j p e in
          leaves_good (join_leaves ws j p hj e) (joined_kept (table_of ws) k j p hj a.new a.by a.inside (has_room ws a.room).0).is_sound

  pub stabilize_good : (n : ℕ) → Good (stabilize_words ws n)
  unfolding stabilize_words
  stabilize_good n = afterwards_has Good (member_refusal ws n) (written (stabilized n (table_of ws)) ws) ws go g
    where
      go : member_refusal ws n ≡ 0 → Good (written (stabilized n (table_of ws)) ws)
      go e = leaves_good (stabilize_leaves ws n e) (stabilized_kept (table_of ws) k n (member_accepted ws n e)).is_sound

  rectify_good : (n q : ℕ) → q < space_of (table_of ws) → Good (rectify_words ws n q)
  unfolding rectify_words
  rectify_good n q hq = afterwards_has Good (member_refusal ws n) (written (rectified n q (table_of ws)) ws) ws go g
    where
      go : member_refusal ws n ≡ 0 → Good (written (rectified n q (table_of ws)) ws)
      go e = leaves_good (rectify_leaves ws n q hq e) (rectified_kept (table_of ws) k n q hq (member_accepted ws n e)).is_sound

  without_good : (n : ℕ) → MayLeave ws n → Good (written_freed (without n (table_of ws)) ws)
  without_good n a = leaves_good (without_leaves ws n a.table a.is_member) (without_kept (table_of ws) k (is_named n) a.none_cut_off a.enough_left).is_sound

  pub leave_good : (n : ℕ) → Good (leave_words ws n)
  unfolding leave_words
  leave_good n = afterwards_has Good (leave_refusal ws n) (written_freed (without n (table_of ws)) ws) ws (λ e. without_good n (leave_accepted ws n e)) g

  -- a loss that a withdrawal would have been granted
  pub fail_good : (n : ℕ) → (member_refusal ws n ≡ 0 → leave_refusal ws n ≡ 0) → Good (fail_words ws n)
  unfolding fail_words
  fail_good n grant = afterwards_has Good (member_refusal ws n) (written_freed (without n (table_of ws)) ws) ws (λ e. without_good n (leave_accepted ws n (grant e))) g

-- the grant, said of the refusals
granted_fail : (ws : List ℕ) (n : ℕ) → granted_call ws (Fail n) ≡ true → member_refusal ws n ≡ 0 → leave_refusal ws n ≡ 0
unfolding granted_call call_answer fail_answer leave_answer
granted_fail ws n h e = sym (answer_number (leave_refusal ws n) _) ∙ eqb-true _ 0 (implied h (eq-eqb _ 0 (answer_number (member_refusal ws n) _ ∙ e)))

pub call_good : (c : Call) (ws : List ℕ) → every (λ x. ltb x (space_of (table_of ws))) (numbers_of c) ≡ true → granted_call ws c ≡ true → Good ws → Good (call_words ws c)
unfolding call_words
call_good (Join j p) ws h e g = join_good ws g j p (ltb-true j (space_of (table_of ws)) (and-true (ltb j (space_of (table_of ws))) _ h).0)
call_good (Leave n) ws h e g = leave_good ws g n
call_good (Fail n) ws h e g = fail_good ws g n (granted_fail ws n e)
call_good (Stabilize n) ws h e g = stabilize_good ws g n
call_good (Rectify n q) ws h e g = rectify_good ws g n q (ltb-true q (space_of (table_of ws)) (and-true (ltb q (space_of (table_of ws))) _ (and-true (ltb n (space_of (table_of ws))) _ h).1).0)
call_good (Lookup n k) ws h e g = g
call_good Audit ws h e g = g

-- no call changes the space
pub call_space : (c : Call) (ws : List ℕ) → space_of (table_of (call_words ws c)) ≡ space_of (table_of ws)
unfolding call_words join_words leave_words fail_words stabilize_words rectify_words
call_space c ws = go c
  where
    same : (k : ℕ) (T : Table) (us : List ℕ) → (k ≡ 0 → table_of us ≡ T) → space_of T ≡ space_of (table_of ws) → space_of (table_of (afterwards k us ws)) ≡ space_of (table_of ws)
    same k T us e q = afterwards_has (λ vs. space_of (table_of vs) ≡ space_of (table_of ws)) k us ws (λ z. ap space_of (e z) ∙ q) refl

    go : (c : Call) → space_of (table_of (call_words ws c)) ≡ space_of (table_of ws)
    go (Join j p) = same (join_refusal ws j p) (joined j p (table_of ws)) (written (joined j p (table_of ws)) ws) (joined_read ws j p) refl
    go (Leave n) = same (leave_refusal ws n) (without n (table_of ws)) (written_freed (without n (table_of ws)) ws) (λ e. without_read ws n (leave_accepted ws n e).table) refl
    go (Fail n) = same (member_refusal ws n) (without n (table_of ws)) (written_freed (without n (table_of ws)) ws) (λ e. without_read ws n (member_table ws n e)) refl
    go (Stabilize n) = same (member_refusal ws n) (stabilized n (table_of ws)) (written (stabilized n (table_of ws)) ws) (stabilized_read ws n) refl
    go (Rectify n q) = same (member_refusal ws n) (rectified n q (table_of ws)) (written (rectified n q (table_of ws)) ws) (rectified_read ws n q) refl
    go (Lookup n k) = refl
    go Audit = refl

-- Lists of calls

-- what every call keeps, its numbers being identifiers of a space w
record GoodIn (w : ℕ) (ws : List ℕ) : Type 0 where
  good : Good ws
  in_space : space_of (table_of ws) ≡ w

-- calls of any kind, with their numbers and their condition: if each keeps a slice good and its space, so does a list of them
module _ {C : Type 0} (next : List ℕ → C → List ℕ) (numbers : C → List ℕ) (test : List ℕ → C → Bool)
    (keeps : (c : C) (ws : List ℕ) → every (λ x. ltb x (space_of (table_of ws))) (numbers c) ≡ true → test ws c ≡ true → Good ws → Good (next ws c))
    (same_space : (c : C) (ws : List ℕ) → Good ws → space_of (table_of (next ws c)) ≡ space_of (table_of ws)) where
  keeps_in : (w : ℕ) (c : C) (ws : List ℕ) → (every (λ x. ltb x w) (numbers c) && test ws c) ≡ true → GoodIn w ws → GoodIn w (next ws c)
  keeps_in w c ws h g =
      let b = and-true (every (λ x. ltb x w) (numbers c)) _ h in
      record { good = keeps c ws (rw g.in_space b.0) b.1 g.good; in_space = same_space c ws g.good ∙ g.in_space }

  pub all_good : (cs : List C) (ws : List ℕ) → every (λ c. every (λ x. ltb x (space_of (table_of ws))) (numbers c)) cs ≡ true → each_meets next test cs ws ≡ true → Good ws → Good (after_all next cs ws)
  all_good cs ws identifiers grants g =
      let w = space_of (table_of ws) in
      (all_keep next (GoodIn w) (λ us c. every (λ x. ltb x w) (numbers c) && test us c) (keeps_in w) cs ws
      (all_meet next (λ c. every (λ x. ltb x w) (numbers c)) test cs ws identifiers grants)
      (record { good = g; in_space = refl })).good

pub run_good : (cs : List Call) (ws : List ℕ) → Starts cs ws → Good (run cs ws)
unfolding run granted
run_good cs ws s = all_good call_words numbers_of granted_call call_good (λ c us g. call_space c us) cs ws s.identifiers s.grants (record { is_well_formed = s.is_well_formed; is_sound = s.is_sound })
