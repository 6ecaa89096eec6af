-- Records as findings are written over them: at the end they are what the model says. Assumes nothing.
use Prim.Native.Nat.{ℕ, zero, suc, ◌≤◌, ◌<◌}
use mathlib.Core.Path.{◌≡◌, refl, sym, ap, ◌∙◌}
use mathlib.Core.List.{List, [], ◌∷◌, ◌++◌, append_assoc}
use mathlib.Core.Bool.{not}
use native.Mathlib.Omega.{arith}
use borrow.Author.Tests.{ltb-false, not-false}
use lib.Dec.{ltb}
use lib.ListN.{length, get_or, take, drop, set, length-map, get_or-map}
use lib.Seq.{take-suc, take-length, drop-cons, length-take-le, set_at}
use Rattle.model.specs.Lists.{overlay}
use Rattle.model.specs.Table.{Member, members_in, table_of, ids, well_formed}
use Rattle.model.specs.Findings.{Finding as FindingOf, finding_of, findings}
use Rattle.model.specs.Answer.{Answer, accepted, answer, afterwards}
use Rattle.model.specs.Steps.{audit_reply}
use Rattle.model.specs.Refusals.{findings_refusal}
use Rattle.model.specs.Calls.{findings_answer, findings_after}
use Rattle.laws.specs.Lists.{length_ids}
use Rattle.laws.specs.Accepted.{none_applies}
use Rattle.table.specs.FormedWords.{FormedWords}
use Rattle.table.proofs.WellFormed.{formed_words}
use Rattle.finding.specs.declared.Finding.{Finding}
use Rattle.finding.specs.View.{view, views}
use Rattle.answers.specs.Refusal.{number_of, refused}
use Rattle.answers.specs.declared.refusal.Refusal.{Refusal}
use Rattle.answers.proofs.Judged.{declined_by, kept_by}
use Rattle.findings.specs.Filled.{record_at, filled}

views_set : (fs : List Finding) (k : ℕ) (f : Finding) → views (set fs k f) ≡ set (views fs) k (view f)
views_set [] k f = refl
views_set (x ∷ fs) zero f = refl
views_set (x ∷ fs) (suc k) f = ap (λ (l : List FindingOf). view x ∷ l) (views_set fs k f)

-- one more finding, in its place after the others
one_more : {A : Type 0} (new old : List A) (n : ℕ) (d : A) → n < length new → n < length old → set (take n new ++ drop n old) n (get_or new n d) ≡ take (suc n) new ++ drop (suc n) old
one_more new old n d h k =
    rw (drop-cons old n d k, set_at (take n new) (get_or old n d) (drop (suc n) old) (get_or new n d) n (length-take-le n new (omega arith)), take-suc new n d h)
    (sym (append_assoc (take n new) (get_or new n d ∷ []) (drop (suc n) old)))

findings_length : (ms : List Member) → length (findings ms) ≡ length ms
findings_length ms = length-map (ids ms) (finding_of ms) ∙ length_ids ms

-- so the first n findings stand in front of the later records
filled_views : (ms : List Member) (ys : List Finding) (n : ℕ) → n ≤ length ms → length ms ≤ length ys → views (filled ms n ys) ≡ take n (findings ms) ++ drop n (views ys)
filled_views ms ys zero h k = refl
filled_views ms ys (suc n) h k =
    let e : get_or (findings ms) n (finding_of ms 0) ≡ finding_of ms (get_or (ids ms) n 0) = get_or-map (finding_of ms) (ids ms) n 0 in
    let a : n < length (findings ms) = omega (arith, findings_length ms) in
    let b : n < length (views ys) = omega (arith, length-map ys view) in
    views_set (filled ms n ys) n (record_at ms n) ∙ rw (filled_views ms ys n (omega arith) k, ← e) (one_more (findings ms) (views ys) n (finding_of ms 0) a b)

module _ (ws : List ℕ) (ys : List Finding) where
  abbrev ms : List Member
  ms = members_in ws

  -- nothing declines the call: the table is well-formed, and the list is not too short
  pub formed : findings_refusal ws (length ys) ≡ 0 → FormedWords ws
  unfolding findings_refusal
  formed e = formed_words ws (not-false _ (none_applies 0 (not (well_formed ws)) _ e).0)

  pub enough_room : findings_refusal ws (length ys) ≡ 0 → length ms ≤ length ys
  unfolding findings_refusal
  enough_room e = ltb-false (length ys) (length ms) (none_applies 9 (ltb (length ys) (length ms)) 0 (none_applies 0 (not (well_formed ws)) _ e).1).0

  all_filled : length ms ≤ length ys → views (filled ms (length ms) ys) ≡ overlay (findings ms) (views ys)
  all_filled h = filled_views ms ys (length ms) (omega arith) h ∙ rw (← findings_length ms, take-length (findings ms))

  -- the records that are written for an accepted call are what the model says
  pub filled_after : findings_refusal ws (length ys) ≡ 0 → views (filled ms (length ms) ys) ≡ findings_after ws (views ys)
  unfolding findings_after
  filled_after e = rw (length-map ys view, e) (all_filled (enough_room e))

  -- and the reply is the call's
  pub answered : (vs : List ℕ) → findings_refusal ws (length ys) ≡ 0 → vs ≡ audit_reply (table_of ws) → accepted vs ≡ findings_answer ws (views ys)
  unfolding findings_answer
  answered vs e h = rw (length-map ys view, e) (ap accepted h)

  -- a declined call answers its number, and leaves the records
  pub declined_call : (e : Refusal) → findings_refusal ws (length ys) ≡ number_of e → (refused e ≡ findings_answer ws (views ys)) × (views ys ≡ findings_after ws (views ys))
  unfolding findings_answer findings_after
  declined_call e h = rw length-map (declined_by e h _, kept_by e h _ _)
