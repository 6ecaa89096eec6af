-- What a line is answered has at most four values, and at most one where its call is declined. Assumes nothing.
use Prim.Native.Nat.{ℕ, zero, suc, ◌+◌, ◌≤◌}
use mathlib.Core.Bool.{Bool, true, false, not, ◌||◌}
use mathlib.Core.Path.{◌≡◌}
use mathlib.Core.List.{List, [], ◌∷◌, ◌++◌}
use mathlib.Core.Option.{Option, some, none}
use native.Mathlib.Omega.{arith}
use lib.Dec.{eqb}
use lib.ListN.{length, get_or, drop, replicate, length-append}
use lib.Seq.{length-take-le}
use Rattle.std.specs.Prelude.{if◌then◌else◌}
use Rattle.model.specs.Lists.{option}
use Rattle.model.specs.Identifier.{between}
use Rattle.model.specs.Table.{Member, members_in}
use Rattle.model.specs.Ring.{live, named, successor, is_pending, best_successor, passed_by}
use Rattle.model.specs.Answer.{Answer, accepted, answer}
use Rattle.model.specs.Steps.{offered, is_better, stabilize_from_predecessor, stabilize_reply, lookup_from}
use Rattle.model.specs.Refusals.{join_refusal, member_refusal, leave_refusal, audit_refusal, new_refusal}
use Rattle.model.specs.Calls.{join_answer, stabilize_answer, rectify_answer, fail_answer, leave_answer, lookup_answer, audit_answer, new_answer}
use Rattle.model.specs.Run.{Call, Join, Leave, Fail, Stabilize, Rectify, Lookup, Audit, call_answer}
use Rattle.answers.specs.declared.Answer.{Answer as Numbers}
use Rattle.answers.specs.Packed.{padded, Says}
use Rattle.script.specs.declared.Word.{Word}
use Rattle.script.specs.Session.{call_named, word_answer}

-- few values
pub data Short : Answer → Type 0 where
  told : (vs : List ℕ) → length vs ≤ 4 → Short (accepted vs)
  refused : (k : ℕ) (vs : List ℕ) → length vs ≤ 1 → Short (record { number = k; values = vs })

short_one : {v : ℕ} → Short (accepted (v ∷ []))
short_one {v} = told (v ∷ []) (omega arith)

short_two : {v u : ℕ} → Short (accepted (v ∷ u ∷ []))
short_two {v} {u} = told (v ∷ u ∷ []) (omega arith)

short_four : {a b c d : ℕ} → Short (accepted (a ∷ b ∷ c ∷ d ∷ []))
short_four {a} {b} {c} {d} = told (a ∷ b ∷ c ∷ d ∷ []) (omega arith)

short_answer : (k : ℕ) (a : Answer) → Short a → Short (answer k a)
short_answer zero a s = s
short_answer (suc k) a s = refused (suc k) [] (omega arith)

short_lookup : (ms : List Member) (n k q moves passed : ℕ) → Short (lookup_from ms n k q moves passed)
short_lookup ms zero k q moves passed = refused 8 (q ∷ []) (omega arith)
short_lookup ms (suc n) k q moves passed = go (passed + passed_by ms (named ms q)) (best_successor ms q) (λ p b. short_lookup ms n k b (suc moves) p)
  where
    found : (p b : ℕ) (t : Bool) → Short (lookup_from ms n k b (suc moves) p) → Short (if t then accepted (b ∷ q ∷ moves ∷ p ∷ []) else lookup_from ms n k b (suc moves) p)
    found p b true s = short_four
    found p b false s = s

    go : (p : ℕ) (o : Option ℕ) → ((p b : ℕ) → Short (lookup_from ms n k b (suc moves) p))
        → Short (option o (record { number = 8; values = q ∷ [] })
        (λ b. if eqb k b || between q k b then accepted (b ∷ q ∷ moves ∷ p ∷ []) else lookup_from ms n k b (suc moves) p))
    go p none s = refused 8 (q ∷ []) (omega arith)
    go p (some b) s = found p b (eqb k b || between q k b) (s p b)

short_step : (ms : List Member) (m : Member) → Short (accepted (stabilize_reply ms m))
unfolding stabilize_reply
short_step ms m = go (is_pending m) (not (live ms (successor m))) (is_better ms m)
  where
    go : (a b c : Bool) → Short (accepted (if a then 2 ∷ successor (stabilize_from_predecessor ms m) ∷ [] else if b then 0 ∷ [] else if c then 1 ∷ offered ms m ∷ [] else 2 ∷ successor m ∷ []))
    go true b c = short_two
    go false true c = short_one
    go false false true = short_two
    go false false false = short_two

short_call : (ws : List ℕ) (c : Call) → Short (call_answer ws c)
unfolding call_answer join_answer leave_answer fail_answer stabilize_answer rectify_answer lookup_answer audit_answer
short_call ws (Join j p) = short_answer (join_refusal ws j p) _ short_one
short_call ws (Leave n) = short_answer (leave_refusal ws n) _ short_one
short_call ws (Fail n) = short_answer (member_refusal ws n) _ short_one
short_call ws (Stabilize n) = short_answer (member_refusal ws n) _ (short_step (members_in ws) (named (members_in ws) n))
short_call ws (Rectify n q) = short_answer (member_refusal ws n) _ short_one
short_call ws (Lookup n k) = short_answer (member_refusal ws n) _ (short_lookup (members_in ws) (length (members_in ws)) k n 0 0)
short_call ws Audit = short_answer (audit_refusal ws) _ short_four

pub short_word : (ws : List ℕ) (w : Word) (ns : List ℕ) → Short (word_answer ws w ns)
unfolding word_answer new_answer
short_word ws w ns = go (call_named w ns)
  where
    go : (o : Option Call) → Short (option o (new_answer ws (get_or ns 0 0) (drop 1 ns)) (λ c. call_answer ws c))
    go none = short_answer (new_refusal (length ws) (get_or ns 0 0) (drop 1 ns)) _ short_one
    go (some c) = short_call ws c

-- an answer in numbers has as many values as it counts
padded_length : (vs : List ℕ) → length (padded vs) ≡ 4
padded_length vs = length-take-le 4 (vs ++ replicate 4 0) (simp (length-append) (omega arith))

pub says_few : {n : Numbers} {a : Answer} → Says n a → n.count ≤ length n.values
says_few {n} {a} s = rw (s.packs, padded_length a.values) s.few
