-- What it says of a table that it is well-formed, that it is sound, and that it is ideal: the tests of model as records of facts.
use Rattle.std.specs.Prelude.{◌≡◌, refl, true, ◌||◌, List, ◌∷◌, ℕ, zero, suc, ◌+◌, ◌≤◌, ◌<◌, ltb, eqb, length}
use Rattle.std.proofs.Common.{ap, arith, ltb-true, leb-true, eqb-true, lt-ltb, le-leb, eq-eqb, ne_eqb}
use Rattle.model.specs.Identifier.{space}
use Rattle.model.specs.Table.{Member, idle, Table, table_with, space_of, word_limit, header_size, header_of, record_size, size, table_of, ids, formed_member, formed, well_formed}
use Rattle.model.specs.Ring.{has_live, principals, candidate_inside, sound, next_down, next_ups, ideal_member, ideal}
use Rattle.model.specs.Steps.{with_successors, with_predecessor, with_pending, with_members, with_steps}
use Rattle.model.specs.Calls.{written, written_freed}
use Rattle.model.specs.Lists.{same}
use Rattle.laws.specs.Lists.{In, here, there, and-true, true_and, same_eq, same_refl, every_in, in_every, Rising, rising_true, true_rising}
use Rattle.laws.specs.Words.{Lengths, OwnHeader, header_written, header_steps, written_table, written_freed_table, written_length, written_freed_length}

-- a record is right
pub record FormedMember (w r : ℕ) (m : Member) : Type 0 where
  pub pending_bit : m.pending ≤ 1
  pub no_candidate : m.pending ≡ 0 → m.candidate ≡ 0
  pub list_length : length m.successors ≡ r
  pub id_small : m.id < w
  pub predecessor_small : m.predecessor < w
  pub candidate_small : m.candidate < w
  pub entries_small : (e : ℕ) → In e m.successors → e < w
  pub steps_small : m.steps < word_limit

-- with nothing pending; and with another list, another candidate, another predecessor, another step count
pub idle_formed : (w r x p : ℕ) (l : List ℕ) → x < w → p < w → length l ≡ r → ((e : ℕ) → In e l → e < w) → FormedMember w r (idle x p l)
idle_formed w r x p l hx hp n h = record {
  pending_bit = omega arith;
  no_candidate = λ q. refl;
  list_length = n;
  id_small = hx;
  predecessor_small = hp;
  candidate_small = omega arith;
  entries_small = h;
  steps_small = omega arith;
}

module _ {w r : ℕ} {m : Member} (f : FormedMember w r m) where
  pub list_formed : (l : List ℕ) → length l ≡ r → ((e : ℕ) → In e l → e < w) → FormedMember w r (with_successors l m)
  list_formed l n h = record {
    pending_bit = f.pending_bit;
    no_candidate = f.no_candidate;
    list_length = n;
    id_small = f.id_small;
    predecessor_small = f.predecessor_small;
    candidate_small = f.candidate_small;
    entries_small = h;
    steps_small = f.steps_small;
  }

  pub pending_formed : (b c : ℕ) → b ≤ 1 → (b ≡ 0 → c ≡ 0) → c < w → FormedMember w r (with_pending b c m)
  pending_formed b c hb hc h = record {
    pending_bit = hb;
    no_candidate = hc;
    list_length = f.list_length;
    id_small = f.id_small;
    predecessor_small = f.predecessor_small;
    candidate_small = h;
    entries_small = f.entries_small;
    steps_small = f.steps_small;
  }

  pub predecessor_formed : (p : ℕ) → p < w → FormedMember w r (with_predecessor p m)
  predecessor_formed p h = record {
    pending_bit = f.pending_bit;
    no_candidate = f.no_candidate;
    list_length = f.list_length;
    id_small = f.id_small;
    predecessor_small = h;
    candidate_small = f.candidate_small;
    entries_small = f.entries_small;
    steps_small = f.steps_small;
  }

  pub steps_formed : (s : ℕ) → s < word_limit → FormedMember w r (with_steps s m)
  steps_formed s h = record {
    pending_bit = f.pending_bit;
    no_candidate = f.no_candidate;
    list_length = f.list_length;
    id_small = f.id_small;
    predecessor_small = f.predecessor_small;
    candidate_small = f.candidate_small;
    entries_small = f.entries_small;
    steps_small = h;
  }

-- a table is well-formed
pub record Formed (T : Table) : Type 0 where
  pub r_low : 1 ≤ T.r
  pub r_high : T.r ≤ 8
  pub count_high : length T.members ≤ 256
  pub ids_rising : Rising (ids T.members)
  pub each : (m : Member) → In m T.members → FormedMember (space_of T) T.r m

-- of r and members alone; with other members
pub table_formed : (r : ℕ) (ms : List Member) → 1 ≤ r → r ≤ 8 → length ms ≤ 256 → Rising (ids ms) → ((m : Member) → In m ms → FormedMember (space_of (table_with r ms)) r m) → Formed (table_with r ms)
table_formed r ms low high few rise each = record { r_low = low; r_high = high; count_high = few; ids_rising = rise; each = each }

module _ {T : Table} (f : Formed T) where
  pub members_formed : (ns : List Member) → length ns ≤ 256 → Rising (ids ns) → ((m : Member) → In m ns → FormedMember (space_of T) T.r m) → Formed (with_members ns T)
  members_formed ns few rise each = record { r_low = f.r_low; r_high = f.r_high; count_high = few; ids_rising = rise; each = each }

-- a slice holds a well-formed table
pub record WellFormed (ws : List ℕ) : Type 0 where
  pub header : header_size ≤ length ws
  pub own_header : OwnHeader ws
  pub fits : size (table_of ws) ≤ length ws
  pub table : Formed (table_of ws)

-- a table is sound
pub record Sound (T : Table) : Type 0 where
  pub live_entry : (m : Member) → In m T.members → has_live T.members m ≡ true
  pub enough : T.r + 1 ≤ principals T.members
  pub candidate_inside_law : (m : Member) → In m T.members → candidate_inside m ≡ true

-- a member of the identifiers xs is ideal, and a table is
pub record IdealMember (r : ℕ) (xs : List ℕ) (m : Member) : Type 0 where
  pub list : m.successors ≡ next_ups r xs m.id
  pub below : m.predecessor ≡ next_down xs m.id

pub record Ideal (T : Table) : Type 0 where
  pub each : (m : Member) → In m T.members → IdealMember T.r (ids T.members) m

-- what fits a word is an identifier of every table
pub space_words : (T : Table) → space_of T ≡ word_limit
unfolding space
space_words T = refl

-- and an identifier of a well-formed one fits a word
pub identifiers_fit : (T : Table) → Formed T → space_of T ≤ word_limit
identifiers_fit T f = omega (arith, space_words T)

-- pending is 1, or there is no candidate
no_candidate_of : (p c : ℕ) → (eqb p 1 || eqb c 0) ≡ true → p ≡ 0 → c ≡ 0
no_candidate_of p c h e = eqb-true c 0 (rw (ne_eqb p 1 (λ q. omega arith)) at h)

of_no_candidate : (p c : ℕ) → p ≤ 1 → (p ≡ 0 → c ≡ 0) → (eqb p 1 || eqb c 0) ≡ true
of_no_candidate zero c h f = eq-eqb c 0 (f refl)
of_no_candidate (suc zero) c h f = refl
of_no_candidate (suc (suc p)) c h f = absurd (omega arith)

pub formed_member_law : (w r : ℕ) (m : Member) → formed_member w r m ≡ true → FormedMember w r m
unfolding formed_member
formed_member_law w r m h =
    let a = and-true _ _ h in
    let b = and-true _ _ a.0 in
    let c = and-true _ _ b.0 in
    let d = and-true _ _ c.0 in
    let small : (e : ℕ) → In e (m.id ∷ m.predecessor ∷ m.candidate ∷ m.successors) → e < w = λ e i. ltb-true e w (every_in (λ x. ltb x w) a.1 i) in
    record {
      pending_bit = leb-true _ _ d.0;
      no_candidate = no_candidate_of m.pending m.candidate d.1;
      list_length = eqb-true _ _ c.1;
      id_small = small _ (here refl);
      predecessor_small = small _ (there (here refl));
      candidate_small = small _ (there (there (here refl)));
      entries_small = λ e i. small e (there (there (there i)));
      steps_small = ltb-true _ _ b.1;
    }

pub member_formed : (w r : ℕ) (m : Member) → FormedMember w r m → formed_member w r m ≡ true
unfolding formed_member
member_formed w r m f =
    true_and (true_and (true_and (true_and (le-leb _ _ f.pending_bit) (of_no_candidate m.pending m.candidate f.pending_bit f.no_candidate)) (eq-eqb _ _ f.list_length))
    (lt-ltb _ _ f.steps_small))
    (true_and (lt-ltb _ _ f.id_small) (true_and (lt-ltb _ _ f.predecessor_small)
    (true_and (lt-ltb _ _ f.candidate_small) (in_every (λ x. ltb x w) m.successors (λ e i. lt-ltb e w (f.entries_small e i))))))

pub formed_facts : (T : Table) → formed T ≡ true → Formed T
unfolding formed
formed_facts T h =
    let a = and-true _ _ h in
    let b = and-true _ _ a.0 in
    let c = and-true _ _ b.0 in
    let d = and-true _ _ c.0 in
    record {
      r_low = leb-true _ _ d.0;
      r_high = leb-true _ _ d.1;
      count_high = leb-true _ _ c.1;
      ids_rising = rising_true (ids T.members) b.1;
      each = λ m i. formed_member_law (space_of T) T.r m (every_in (formed_member (space_of T) T.r) a.1 i);
    }

pub facts_formed : (T : Table) → Formed T → formed T ≡ true
unfolding formed
facts_formed T f =
    true_and (true_and (true_and (true_and (le-leb _ _ f.r_low) (le-leb _ _ f.r_high)) (le-leb _ _ f.count_high)) (true_rising (ids T.members) f.ids_rising))
    (in_every (formed_member (space_of T) T.r) T.members (λ m i. member_formed (space_of T) T.r m (f.each m i)))

pub well_formed_facts : (ws : List ℕ) → well_formed ws ≡ true → WellFormed ws
unfolding well_formed
well_formed_facts ws h =
    let a = and-true _ _ h in
    let b = and-true _ _ a.0 in
    let c = and-true _ _ b.0 in
    let h = leb-true _ _ c.0 in
    record { header = h; own_header = header_written ws h (eqb-true _ _ b.1); fits = leb-true _ _ c.1; table = formed_facts (table_of ws) a.1 }

pub facts_well_formed : (ws : List ℕ) → WellFormed ws → well_formed ws ≡ true
unfolding well_formed
facts_well_formed ws f = true_and (true_and (true_and (le-leb _ _ f.header) (le-leb _ _ f.fits)) (eq-eqb _ _ (header_steps ws f.own_header))) (facts_formed (table_of ws) f.table)

pub sound_facts : (T : Table) → sound T ≡ true → Sound T
unfolding sound
sound_facts T h =
    let a = and-true _ _ h in
    let b = and-true _ _ a.0 in
    record { live_entry = λ m i. every_in (has_live T.members) b.0 i; enough = leb-true _ _ b.1; candidate_inside_law = λ m i. every_in candidate_inside a.1 i }

pub facts_sound : (T : Table) → Sound T → sound T ≡ true
unfolding sound
facts_sound T s = true_and (true_and (in_every (has_live T.members) T.members s.live_entry) (le-leb _ _ s.enough)) (in_every candidate_inside T.members s.candidate_inside_law)

pub ideal_member_law : (r : ℕ) (xs : List ℕ) (m : Member) → ideal_member r xs m ≡ true → IdealMember r xs m
unfolding ideal_member
ideal_member_law r xs m h = let a = and-true (same m.successors (next_ups r xs m.id)) _ h in record { list = same_eq _ _ a.0; below = eqb-true _ _ a.1 }

pub member_ideal : (r : ℕ) (xs : List ℕ) (m : Member) → IdealMember r xs m → ideal_member r xs m ≡ true
unfolding ideal_member
member_ideal r xs m d = rw (d.list, d.below) (true_and (same_refl (next_ups r xs m.id)) (eq-eqb (next_down xs m.id) _ refl))

pub ideal_facts : (T : Table) → ideal T ≡ true → Ideal T
unfolding ideal
ideal_facts T h = record { each = λ m i. ideal_member_law T.r (ids T.members) m (every_in (ideal_member T.r (ids T.members)) h i) }

pub facts_ideal : (T : Table) → Ideal T → ideal T ≡ true
unfolding ideal
facts_ideal T d = in_every (ideal_member T.r (ids T.members)) T.members (λ m i. member_ideal T.r (ids T.members) m (d.each m i))

-- A slice that holds a well-formed table, no shorter than it

pub holds_formed : (T : Table) (ws : List ℕ) → table_of ws ≡ T → OwnHeader ws → Formed T → size T ≤ length ws → WellFormed ws
holds_formed T ws e o f h = record { header = omega arith; own_header = o; fits = omega (arith, ap size e); table = rw e f }

pub formed_lists : (T : Table) → Formed T → Lengths T.r T.members
formed_lists T f m i = (f.each m i).list_length

pub written_formed : (T : Table) (ws : List ℕ) → Formed T → size T ≤ length ws → WellFormed (written T ws)
written_formed T ws f h =
    let lists = formed_lists T f in
    holds_formed T (written T ws) (written_table T ws lists) (ap header_of (written_table T ws lists)) f (omega (arith, written_length T ws lists h))

pub written_freed_formed : (T : Table) (ws : List ℕ) → Formed T → size T + record_size T.r ≤ length ws → WellFormed (written_freed T ws)
written_freed_formed T ws f h =
    let lists = formed_lists T f in
    holds_formed T (written_freed T ws) (written_freed_table T ws lists) (ap header_of (written_freed_table T ws lists)) f (omega (arith, written_freed_length T ws lists h))
