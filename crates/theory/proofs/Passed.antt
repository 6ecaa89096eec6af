-- The theorems of which Passed in specs/ has the definitions, with their proofs.
use Rattle.std.specs.Prelude.{ℕ, zero, suc, ◌+◌, ◌<◌, ◌≡◌, refl, Bool, true, false, ◌||◌, List, [], ◌∷◌, map, eqb, length, get_or, if◌then◌else◌}
use Rattle.std.proofs.Common.{sym, ap, ◌∙◌, inl, inr, arith}
use Rattle.std.proofs.Math.Option.{Option, some, none}
use Rattle.model.specs.Lists.{option, sum}
use Rattle.model.specs.Identifier.{between}
use Rattle.model.specs.Table.{Member, Table, table_of, members_in, ids, well_formed}
use Rattle.model.specs.Ring.{live, named, successor, Search, past, searched, first_live, best_successor, passed_by, passed_by_all, principal, sound, ideal, verdict}
use Rattle.model.specs.Answer.{Answer, accepted, answer}
use Rattle.model.specs.Steps.{lookup_from, lookup}
use Rattle.model.specs.Settle.{after_round, rounds_run}
use Rattle.model.specs.Refusals.{member_refusal}
use Rattle.model.specs.Calls.{lookup_answer, settle_answer, round_words}
use Rattle.laws.specs.Lists.{In, here, there, found, named_in, in_ids, rising_nodup, live_in, in_live}
use Rattle.laws.specs.Searches.{first_next, found_first}
use Rattle.laws.specs.Accepted.{member_accepts, settle_accepts}
use Rattle.laws.specs.Tables.{well_formed_facts}
use Rattle.laws.specs.Verdicts.{verdict_ideal}
use Rattle.theory.specs.Entries.{first_live_in}
use Rattle.theory.specs.Lookup.{passed_on, Answered}
use Rattle.theory.proofs.Lookup.{lookup_answer_answers}
use Rattle.theory.specs.KeyOwners.{Finds}
use Rattle.theory.proofs.Held.{ideal_found}
use Rattle.theory.specs.Runs.{Good, good_kept}
use Rattle.theory.proofs.Rounds.{AllCalm, calm_round}
use Rattle.theory.proofs.BoundProof.{round_table}
use Rattle.theory.specs.Passed.{Tells, first_before, walk_before, find_before, three}

pub search_tells : (ms : List Member) (l : List ℕ) → Tells ms l (searched ms l)
search_tells ms [] = record {
  dead = λ i h. absurd (omega arith);
  next = λ y e. let c : ◌≡◌ {A = ℕ} 0 1 = cc e in absurd (omega arith);
  nothing = λ e. refl;
}
search_tells ms (x ∷ l) = go (live ms x) refl (search_tells ms l)
  where
    later : live ms x ≡ false → Tells ms l (searched ms l) → (i : ℕ) → i < suc (searched ms l).passed → live ms (get_or (x ∷ l) i 0) ≡ false
    later e t zero h = e
    later e t (suc i) h = t.dead i (omega arith)

    go : (b : Bool) → live ms x ≡ b → Tells ms l (searched ms l) → Tells ms (x ∷ l) (if b then record { entry = some x; passed = 0 } else past (searched ms l))
    go true e t = record {
      dead = λ i h. absurd (omega arith);
      next = λ y f. let q : x ≡ y = cc f in (omega arith, q, rw q at e);
      nothing = λ f. let c : ◌≡◌ {A = ℕ} 0 1 = cc f in absurd (omega arith);
    }
    go false e t = record {
      dead = later e t;
      next = λ y f. let w = t.next y f in (omega (arith, w.0), w.1, w.2);
      nothing = λ f. ap suc (t.nothing f);
    }

-- the first live entry is what it was, and so is every best successor
pub first_as_before : (ms : List Member) (l : List ℕ) → first_live ms l ≡ first_before ms l
first_as_before ms [] = refl
first_as_before ms (x ∷ l) = first_next ms x l ∙ ap (λ (o : Option ℕ). if live ms x then some x else o) (first_as_before ms l)

walk_as_before : (ms : List Member) (fuel k q moves passed : ℕ) → three (lookup_from ms fuel k q moves passed) ≡ walk_before ms fuel k q moves
walk_as_before ms zero k q moves passed = refl
walk_as_before ms (suc fuel) k q moves passed = rw (← first_as_before ms (named ms q).successors) (go (best_successor ms q) (λ b. walk_as_before ms fuel k b (suc moves) sum))
  where
    sum : ℕ
    sum = passed + passed_by ms (named ms q)

    pick : (b : ℕ) (t : Bool) → three (lookup_from ms fuel k b (suc moves) sum) ≡ walk_before ms fuel k b (suc moves) →
        three (if t then accepted (b ∷ q ∷ moves ∷ sum ∷ []) else lookup_from ms fuel k b (suc moves) sum) ≡ (if t then accepted (b ∷ q ∷ moves ∷ []) else walk_before ms fuel k b (suc moves))
    pick b true i = refl
    pick b false i = i

    go : (o : Option ℕ) → ((b : ℕ) → three (lookup_from ms fuel k b (suc moves) sum) ≡ walk_before ms fuel k b (suc moves)) →
        three (option o (record { number = 8; values = q ∷ [] }) (λ b. if eqb k b || between q k b then accepted (b ∷ q ∷ moves ∷ sum ∷ []) else lookup_from ms fuel k b (suc moves) sum))
        ≡ option o (record { number = 8; values = q ∷ [] }) (λ b. if eqb k b || between q k b then accepted (b ∷ q ∷ moves ∷ []) else walk_before ms fuel k b (suc moves))
    go none i = refl
    go (some b) i = pick b (eqb k b || between q k b) (i b)

-- find's number, owner, member and moves are what they were, on every table and from every identifier; 8's member too
pub find_as_before : (ws : List ℕ) (n k : ℕ) → three (lookup_answer ws n k) ≡ find_before ws n k
unfolding lookup_answer
find_as_before ws n k = go (member_refusal ws n)
  where
    go : (c : ℕ) → three (answer c (lookup (members_in ws) n k)) ≡ answer c (walk_before (members_in ws) (length (members_in ws)) k n 0)
    go zero = walk_as_before (members_in ws) (length (members_in ws)) k n 0 0
    go (suc c) = refl

-- On an ideal table

nothing_added : (ms ns : List Member) → ((m : Member) → In m ns → passed_by ms m ≡ 0) → sum (map (passed_by ms) ns) ≡ 0
nothing_added ms [] f = refl
nothing_added ms (m ∷ ns) f = omega (arith, f m (here refl), nothing_added ms ns (λ v i. f v (there i)))

-- no member passes anything over
pub ideal_passes_none : (ws : List ℕ) → well_formed ws ≡ true → ideal (table_of ws) ≡ true → passed_by_all (members_in ws) ≡ 0
ideal_passes_none ws wf h = nothing_added (members_in ws) (members_in ws) (λ m i. ap (λ (s : Search). s.passed) (ideal_found (table_of ws) (well_formed_facts ws wf).table h i))

no_rounds : (limit : ℕ) (T : Table) → verdict T ≡ 2 → rounds_run limit T ≡ 0
no_rounds zero T e = refl
no_rounds (suc limit) T e = rw e

-- so settle's third value is 0, as its first is
pub ideal_settle : (ws : List ℕ) → well_formed ws ≡ true → sound (table_of ws) ≡ true → ideal (table_of ws) ≡ true → (limit : ℕ) → settle_answer ws limit ≡ accepted (0 ∷ 2 ∷ 0 ∷ [])
unfolding settle_answer
ideal_settle ws wf so h limit = let v = sym (verdict_ideal (table_of ws) so h) in rw (settle_accepts ws wf so, no_rounds limit (table_of ws) v, v, ideal_passes_none ws wf h)

module _ (ws : List ℕ) (wf : well_formed ws ≡ true) (h : ideal (table_of ws) ≡ true) where
  abbrev ms : List Member
  ms = members_in ws

  none_at : (q : ℕ) → In q (ids ms) → passed_by ms (named ms q) ≡ 0
  none_at q i = ap (λ (s : Search). s.passed) (ideal_found (table_of ws) (well_formed_facts ws wf).table h (found ms i).0)

  none_on : (k q : ℕ) → In q (ids ms) → passed_on ms k q ≡ 0
  none_on zero q i = none_at q i
  none_on (suc k) q i = go (best_successor ms q) refl (none_on k)
    where
      go : (o : Option ℕ) → best_successor ms q ≡ o → ((y : ℕ) → In y (ids ms) → passed_on ms k y ≡ 0) → passed_by ms (named ms q) + option o 0 (λ y. passed_on ms k y) ≡ 0
      go none e f = omega (arith, none_at q i)
      go (some y) e f = omega (arith, none_at q i, f y (first_live_in ms (named ms q).successors e).0)

  -- whatever find answers, from every member and for every key, its fourth value is 0
  pub ideal_find_passes_none : (n k owner : ℕ) → live ms n ≡ true → (f : Finds ws n k owner) → f.passed ≡ 0
  ideal_find_passes_none n k owner l f = go (lookup_answer_answers ws n k (member_accepts ws n wf l))
    where
      go : Answered ms n k (lookup_answer ws n k) → f.passed ≡ 0
      go (inl o) = ap (λ (a : Answer). get_or a.values 3 0) (sym f.answer ∙ o.answer) ∙ (o.added ∙ none_on o.moves n (live_in ms n l))
      go (inr c) = absurd (omega (arith, ap (λ (a : Answer). a.number) (sym f.answer ∙ c.answer)))

-- After a round

module _ (ws : List ℕ) (wf : well_formed ws ≡ true) (so : sound (table_of ws) ≡ true) where
  abbrev T : Table
  T = table_of ws

  abbrev after : Table
  after = after_round T

  good : Good ws
  good = record { is_well_formed = wf; is_sound = so }

  calms : AllCalm T.r (ids T.members) (principal T.members) after
  calms = calm_round T.r (ids T.members) (principal T.members) T (record { kept = good_kept ws good; is_r = refl; is_ids = refl; spares = λ q i h. h })

  none_by : (m : Member) → In m after.members → passed_by after.members m ≡ 0
  none_by m i =
      let fo = calms.common.kept.formed in
      let e = named_in after.members (rising_nodup (ids after.members) fo.ids_rising) i in
      let l : In (successor m) (ids after.members) = rw e at (calms.calm m.id (rw calms.common.is_ids at (in_ids i))).lives in
      ap (λ (f : Search). f.passed) (found_first after.members m.successors (omega (arith, (fo.each m i).list_length, fo.r_low)) (in_live after.members l))

  -- the first entry of each member of a sound table is a member then: nothing is passed over, until a member goes
  pub round_passes_none : passed_by_all (members_in (round_words ws)) ≡ 0
  round_passes_none = ap (λ (U : Table). passed_by_all U.members) (round_table ws good) ∙ nothing_added after.members after.members none_by
