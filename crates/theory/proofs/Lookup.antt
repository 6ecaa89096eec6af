-- The theorems of which Lookup in specs/ has the definitions, with their proofs.
use Rattle.std.specs.Prelude.{◌≡◌, refl, ◌⊎◌, Bool, true, false, ◌||◌, List, [], ◌∷◌, ℕ, zero, suc, ◌+◌, ◌<◌, eqb, length, if◌then◌else◌}
use Rattle.std.proofs.Common.{sym, ap, ◌∙◌, inl, inr, arith, eqb-true}
use Rattle.std.proofs.Math.Option.{Option, some, none}
use Rattle.std.proofs.lemmas.Bool.{eqb-false}
use Rattle.model.specs.Lists.{option, count}
use Rattle.model.specs.Identifier.{between}
use Rattle.model.specs.Table.{Member, members_in, ids}
use Rattle.model.specs.Ring.{live, named, best_successor, passed_by, moved}
use Rattle.model.specs.Answer.{accepted}
use Rattle.model.specs.Steps.{lookup_from, lookup}
use Rattle.model.specs.Refusals.{member_refusal}
use Rattle.model.specs.Calls.{lookup_answer}
use Rattle.laws.specs.Order.{Before, is_before, before_true, before_false, true_before, before_trans, before_irrefl, ahead_of, false_outside}
use Rattle.laws.specs.Lists.{In, count_lt, count_less, or-true, or-false, live_in, in_live, length_ids}
use Rattle.theory.specs.Entries.{first_live_in}
use Rattle.laws.specs.Accepted.{member_accepted}
use Rattle.theory.specs.Lookup.{passed_on, Answered}

-- one move more
pub moved_last : (ms : List Member) (k x : ℕ) {y z : ℕ} → moved ms k x ≡ some y → best_successor ms y ≡ some z → moved ms (suc k) x ≡ some z
moved_last ms zero x {y} {z} h e = let q : x ≡ y = cc in rw (q, e)
moved_last ms (suc k) x {y} {z} h e = go (best_successor ms x) (λ u g. moved_last ms k u g e) h
  where
    go : (o : Option ℕ) → ((u : ℕ) → moved ms k u ≡ some y → moved ms (suc k) u ≡ some z) → option o none (λ u. moved ms k u) ≡ some y → option o none (λ u. moved ms (suc k) u) ≡ some z
    go none ih g = let c : ◌≡◌ {A = ℕ} 0 1 = cc in absurd (omega arith)
    go (some u) ih g = ih u g

-- adds what is passed over where it leads
passed_last : (ms : List Member) (k x : ℕ) {y z : ℕ} → moved ms k x ≡ some y → best_successor ms y ≡ some z → passed_on ms (suc k) x ≡ passed_on ms k x + passed_by ms (named ms z)
passed_last ms zero x {y} {z} h e = let q : x ≡ y = cc in rw (q, e)
passed_last ms (suc k) x {y} {z} h e = go (best_successor ms x) (λ u g. passed_last ms k u g e) h
  where
    p : ℕ
    p = passed_by ms (named ms x)

    go : (o : Option ℕ) → ((u : ℕ) → moved ms k u ≡ some y → passed_on ms (suc k) u ≡ passed_on ms k u + passed_by ms (named ms z)) → option o none (λ u. moved ms k u) ≡ some y →
        p + option o 0 (λ u. passed_on ms (suc k) u) ≡ (p + option o 0 (λ u. passed_on ms k u)) + passed_by ms (named ms z)
    go none ih g = let c : ◌≡◌ {A = ℕ} 0 1 = cc in absurd (omega arith)
    go (some u) ih g = omega (arith, ih u g)

module _ (ms : List Member) (n k : ℕ) where
  -- how many members come after q on the way round from the key: a move that does not end the walk leaves fewer
  left : ℕ → ℕ
  left q = count (is_before k q) (ids ms)

  left_less : {q b : ℕ} → In b (ids ms) → Before k q b → left b < left q
  unfolding left
  left_less {q} {b} i h = count_lt (is_before k b) (is_before k q) (λ x j e. before_true (before_trans h (true_before k b x e))) i (before_false before_irrefl) (before_true h)

  walk : (fuel q moves passed : ℕ) → In q (ids ms) → moved ms moves n ≡ some q → passed + passed_by ms (named ms q) ≡ passed_on ms moves n → left q < fuel
      → moves + left q < length ms → Answered ms n k (lookup_from ms fuel k q moves passed)
  walk zero q moves passed i e a h g = absurd (omega arith)
  walk (suc fuel) q moves passed i e a h g = go (best_successor ms q) refl (λ b. walk fuel b (suc moves) sum)
    where
      sum : ℕ
      sum = passed + passed_by ms (named ms q)

      go : (o : Option ℕ) → best_successor ms q ≡ o → ((b : ℕ) → In b (ids ms) → moved ms (suc moves) n ≡ some b
          → sum + passed_by ms (named ms b) ≡ passed_on ms (suc moves) n → left b < fuel → suc moves + left b < length ms
          → Answered ms n k (lookup_from ms fuel k b (suc moves) sum)) →
          Answered ms n k (option o (record { number = 8; values = q ∷ [] }) (λ b. if eqb k b || between q k b then accepted (b ∷ q ∷ moves ∷ sum ∷ []) else lookup_from ms fuel k b (suc moves) sum))
      go none f ih = inr (record { q = q; moves = moves; answer = refl; few = omega arith; leads = e; place_live = in_live ms i; no_move = f })
      go (some b) f ih = sub (eqb k b || between q k b) refl
        where
          ib : In b (ids ms)
          ib = (first_live_in ms (named ms q).successors f).0

          owns : (eqb k b ≡ true) ⊎ (between q k b ≡ true) → (k ≡ b) ⊎ (between q k b ≡ true)
          owns (inl t) = inl (eqb-true k b t)
          owns (inr t) = inr t

          sub : (t : Bool) → (eqb k b || between q k b) ≡ t → Answered ms n k (if t then accepted (b ∷ q ∷ moves ∷ sum ∷ []) else lookup_from ms fuel k b (suc moves) sum)
          sub true t = inl (record {
            b = b;
            q = q;
            moves = moves;
            passed = sum;
            answer = refl;
            few = omega arith;
            leads = e;
            added = a;
            place_live = in_live ms i;
            owner_live = in_live ms ib;
            move = f;
            owns = owns (or-true _ _ t);
          })
          sub false t =
              let u = or-false _ _ t in
              let d = left_less ib (ahead_of (false_outside q k b u.1) (eqb-false k b u.0)) in
              ih b ib (moved_last ms moves n e f) (ap (λ (s : ℕ). s + passed_by ms (named ms b)) a ∙ sym (passed_last ms moves n e f)) (omega arith) (omega arith)

-- every lookup from a member is answered so, on every table
pub lookup_answers : (ms : List Member) (n k : ℕ) → live ms n ≡ true → Answered ms n k (lookup ms n k)
unfolding left
lookup_answers ms n k h =
    let i = live_in ms n h in
    let c = count_less (is_before k n) i (before_false before_irrefl) in
    let e = length_ids ms in
    walk ms n k (length ms) n 0 0 i refl (omega arith) (omega arith) (omega arith)

-- the same of the call, wherever no number declines it before the walk
pub lookup_answer_answers : (ws : List ℕ) (n k : ℕ) → member_refusal ws n ≡ 0 → Answered (members_in ws) n k (lookup_answer ws n k)
unfolding lookup_answer
lookup_answer_answers ws n k h = rw h (lookup_answers (members_in ws) n k (member_accepted ws n h))
