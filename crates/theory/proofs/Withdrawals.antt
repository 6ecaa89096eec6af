-- The theorems of which Withdrawals in specs/ has the definitions, with their proofs.
use Rattle.std.specs.Prelude.{◌≡◌, refl, false, List, [], ◌∷◌, ◌++◌, map, ℕ, suc, ◌+◌, ◌-◌, ◌≤◌, ◌<◌, length}
use Rattle.std.proofs.Math.Path.{ap}
use Rattle.std.proofs.Math.Bool.{true, not}
use native.Mathlib.Omega.{arith}
use borrow.Author.Tests.{le-ltb}
use Rattle.model.specs.Lists.{count}
use Rattle.model.specs.Table.{Member, Table, table_of, members_in, ids, well_formed}
use Rattle.model.specs.Ring.{live, skips, principal, principals, has_live}
use Rattle.model.specs.Answer.{accepted}
use Rattle.model.specs.Steps.{is_named, staying, without}
use Rattle.model.specs.Refusals.{cuts_off, too_few_principals, leave_refusal}
use Rattle.model.specs.Calls.{leave_answer, leave_words}
use Rattle.model.specs.Run.{Leave, call_words, run}
use Rattle.laws.specs.Lists.{In, here, there, NoDup, count_le, count_all, count_length, count_but_one, count_any, every_in, in_every, Rising, rising_nodup, length_ids, named_in, in_ids, live_in, in_live}
use Rattle.laws.specs.Tables.{Formed, Sound, Ideal, well_formed_facts, sound_facts, ideal_facts}
use Rattle.laws.specs.Places.{places_nodup}
use Rattle.laws.specs.Verdicts.{verdict_facts}
use Rattle.laws.specs.Removed.{staying_from, staying_ids, without_keeps, without_length}
use Rattle.theory.specs.Claim.{InRingOrder}
use Rattle.theory.proofs.Static.{lists_in_order}
use Rattle.theory.specs.Left.{withdrawn_table}
use Rattle.theory.specs.Runs.{Good, leave_good}
use Rattle.theory.specs.New.{ups_in, ups_skip}
use Rattle.theory.specs.Withdrawals.{MaySpare, AllGranted}

-- A table that can lose k members more: each list names different identifiers, more than k of them live, and skips no member; r + 1 members and k more

record Spare (k : ℕ) (T : Table) : Type 0 where
  different : (m : Member) → In m T.members → NoDup m.successors
  lively : (m : Member) → In m T.members → k < count (live T.members) m.successors
  unskipped : (q : ℕ) → In q (ids T.members) → (m : Member) → In m T.members → skips q m.id m.successors ≡ false
  many : k + (T.r + 1) ≤ length T.members

-- neither 6 nor 7 applies to it
module _ (k : ℕ) (T : Table) (s : Spare k T) where
  none_cut_off : cuts_off T ≡ false
  unfolding cuts_off
  none_cut_off = ap not (in_every (has_live T.members) T.members (λ m i. count_any (live T.members) m.successors (omega (arith, s.lively m i))))

  enough_principals : too_few_principals T ≡ false
  unfolding too_few_principals
  enough_principals =
      let all : (q : ℕ) → In q (ids T.members) → principal T.members q ≡ true =
      λ q i. in_every (λ m. not (skips q m.id m.successors)) T.members (λ m j. ap not (s.unskipped q i m j)) in
      le-ltb (principals T.members) (T.r + 1) (omega (
        arith,
        s.many,
        length_ids T.members,
        count_all (ids T.members),
        count_le (λ x. true) (principal T.members) (ids T.members) (λ q i e. all q i),
      ))

-- without a member it can lose one fewer: each list names that one once at most
without_spare : (k n : ℕ) (T : Table) → Rising (ids T.members) → In n (ids T.members) → Spare (suc k) T → Spare k (without n T)
without_spare k n T rise i s = record {
  different = λ m j. s.different m (was j);
  lively = λ m j. omega (arith, s.lively m (was j), count_but_one n (live T.members) (live (staying (is_named n) T.members)) m.successors (s.different m (was j)) stays);
  unskipped = λ q j m h. s.unskipped q (staying_ids (is_named n) q T.members j) m (was h);
  many = omega (arith, s.many, without_length n T.members rise i);
}
  where
    was : {m : Member} → In m (staying (is_named n) T.members) → In m T.members
    was {m} j = staying_from (is_named n) m T.members j

    stays : (x : ℕ) → (x ≡ n → ⊥) → live T.members x ≡ true → live (staying (is_named n) T.members) x ≡ true
    stays x d h = in_live (staying (is_named n) T.members) (without_keeps n x T.members (live_in T.members x h) d)

-- A sound and ideal table of m members can lose r - 1, and m - r - 1

ideal_spare : (k : ℕ) (T : Table) → Formed T → Sound T → Ideal T → k < T.r → k + (T.r + 1) ≤ length T.members → Spare k T
ideal_spare k T fo so d few enough = record {
  different = λ m i. (places_nodup (m.id ∷ m.successors) (ordered m i).different).1;
  lively = λ m i. omega (arith, (fo.each m i).list_length, count_all m.successors, count_le (λ x. true) (live T.members) m.successors (λ x j e. in_live T.members (entry m i j)));
  unskipped = λ q j m i. rw (d.each m i).list (ups_skip (ids T.members) fo.ids_rising T.r m.id q j);
  many = enough;
}
  where
    ordered : (m : Member) → In m T.members → InRingOrder T.r m.id m.successors
    ordered m i = rw (named_in T.members (rising_nodup (ids T.members) fo.ids_rising) i) at (lists_in_order T fo so m.id (in_ids i))

    entry : {x : ℕ} (m : Member) → In m T.members → In x m.successors → In x (ids T.members)
    entry {x} m i j = ups_in (ids T.members) (omega (arith, enough, length_ids T.members)) T.r m.id x (rw (d.each m i).list at j)

-- The withdrawals, one after the other

rising_in : (ws : List ℕ) → well_formed ws ≡ true → Rising (ids (members_in ws))
rising_in ws h = (well_formed_facts ws h).table.ids_rising

granted : (ws : List ℕ) (n k : ℕ) → well_formed ws ≡ true → In n (ids (members_in ws)) → Spare (suc k) (table_of ws) → leave_refusal ws n ≡ 0
unfolding leave_refusal
granted ws n k h i s =
    let t = without_spare k n (table_of ws) (rising_in ws h) i s in
    rw (h, in_live (members_in ws) i, none_cut_off k (without n (table_of ws)) t, enough_principals k (without n (table_of ws)) t)

grants : (ws before : List ℕ) (n : ℕ) (later : List ℕ) → Good ws → NoDup (before ++ (n ∷ later)) → ((x : ℕ) → In x (before ++ (n ∷ later)) → In x (ids (members_in ws))) →
    Spare (length (before ++ (n ∷ later))) (table_of ws) → leave_answer (run (map Leave before) ws) n ≡ accepted ((length (members_in ws) - length before - 1) ∷ [])
unfolding run call_words leave_answer
grants ws [] n later g nd all s =
    let i = all n (here refl) in
    let e : length (staying (is_named n) (members_in ws)) ≡ length (members_in ws) - 0 - 1 = omega (arith, without_length n (members_in ws) (rising_in ws g.is_well_formed) i) in
    rw (granted ws n (length later) g.is_well_formed i s, e)
grants ws (b ∷ before) n later g nd all s =
    let i = all b (here refl) in
    let e = granted ws b (length (before ++ (n ∷ later))) g.is_well_formed i s in
    let t = withdrawn_table ws b e in
    let ms : members_in (leave_words ws b) ≡ staying (is_named b) (members_in ws) = ap (λ (T : Table). T.members) t in
    let c : length (members_in (leave_words ws b)) - length before - 1 ≡ length (members_in ws) - suc (length before) - 1 =
    omega (arith, without_length b (members_in ws) (rising_in ws g.is_well_formed) i, ap length ms) in
    rw (← c) (grants (leave_words ws b) before n later (leave_good ws g b) nd.1
    (λ x j. rw ms (without_keeps b x (members_in ws) (all x (there j)) (λ q. nd.0 (rw q at j))))
    (rw t (without_spare _ b (table_of ws) (rising_in ws g.is_well_formed) i s)))

pub withdrawals_granted : (ws ns : List ℕ) → MaySpare ws ns → AllGranted ws ns
withdrawals_granted ws ns m before n later e =
    let v = verdict_facts (table_of ws) m.verdict_2 in
    let fo = (well_formed_facts ws m.is_well_formed).table in
    let so = sound_facts (table_of ws) v.0 in
    let s = ideal_spare (length ns) (table_of ws) fo so (ideal_facts (table_of ws) v.1) (omega (arith, m.few, fo.r_low))
    (omega (arith, m.enough_left, so.enough, count_length (principal (members_in ws)) (ids (members_in ws)), length_ids (members_in ws))) in
    grants ws before n later (record { is_well_formed = m.is_well_formed; is_sound = v.0 }) (rw e at m.different)
    (λ x i. live_in (members_in ws) x (every_in (live (members_in ws)) (rw e at m.are_members) i)) (rw e at s)
