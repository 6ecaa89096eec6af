-- One lemma for all steps: a table keeps well-formed and sound if its members are the old ones and at most one fresh record. And where each record is then found.
use Rattle.std.specs.Prelude.{◌≡◌, refl, ◌⊎◌, Bool, true, false, not, List, [], ◌∷◌, ℕ, suc, ◌≤◌, ◌<◌, length, ltb, eqb, if◌then◌else◌}
use Rattle.std.proofs.Common.{sym, ap, ◌∙◌, inl, inr, ⊎_elim, arith, eqb-true, eq-eqb, ne_eqb, ltb-true, ltb-false}
use Rattle.std.proofs.lemmas.Bool.{eqb-false}
use Rattle.model.specs.Lists.{any, count}
use Rattle.model.specs.Table.{Member, Table, space_of, ids}
use Rattle.model.specs.Ring.{live, named, skips, principal, has_live, candidate_inside}
use Rattle.model.specs.Steps.{with_members, inserted, replaced}
use Rattle.laws.specs.Lists.{In, here, there, in_cons, in_nil, live_in, in_live, count_le, every_in, in_every, any_in, in_any, Rising, Above}
use Rattle.laws.specs.Tables.{FormedMember, Formed, Sound, members_formed}

-- what every step keeps
pub record Kept (T : Table) : Type 0 where
  pub formed : Formed T
  pub is_sound : Sound T

-- a record that may come into the table T: its extended list skips no principal
pub record Fresh (T : Table) (v : Member) : Type 0 where
  pub formed : FormedMember (space_of T) T.r v
  pub live_entry : has_live T.members v ≡ true
  pub candidate_inside_law : candidate_inside v ≡ true
  pub spares : (q : ℕ) → In q (ids T.members) → principal T.members q ≡ true → skips q v.id v.successors ≡ false

-- ns are the members ms, and v among them or in the place of one of them
pub record Changed (ms : List Member) (v : Member) (ns : List Member) : Type 0 where
  pub from : (m : Member) → In m ns → (m ≡ v) ⊎ In m ms
  pub grows : (x : ℕ) → In x (ids ms) → In x (ids ns)
  pub counts : (f : ℕ → Bool) → count f (ids ms) ≤ count f (ids ns)

-- an entry that is live stays so
live_stays : (ms ns : List Member) (l : List ℕ) → ((x : ℕ) → In x (ids ms) → In x (ids ns)) → any (live ms) l ≡ true → any (live ns) l ≡ true
live_stays ms ns l sub h = let w = any_in (live ms) l h in in_any (live ns) w.1 (in_live ns (sub w.0 (live_in ms w.0 w.2)))

-- the principals stay principals, for neither the old lists nor the fresh one skip them
pub changed_principal : (T : Table) (v : Member) (ns : List Member) → Fresh T v → Changed T.members v ns → (q : ℕ) → In q (ids T.members)
    → principal T.members q ≡ true → principal ns q ≡ true
changed_principal T v ns f c q k h = in_every (λ m. not (skips q m.id m.successors)) ns (λ m i. spared m (c.from m i))
  where
    spared : (m : Member) → (m ≡ v) ⊎ In m T.members → not (skips q m.id m.successors) ≡ true
    spared m (inl e) = rw e (ap not (f.spares q k h))
    spared m (inr i) = every_in (λ m. not (skips q m.id m.successors)) h i

-- so, the one lemma: the table stays sound
pub changed_sound : (T : Table) (v : Member) (ns : List Member) → Sound T → Fresh T v → Changed T.members v ns → Sound (with_members ns T)
changed_sound T v ns s f c = record {
  live_entry = λ m i. lively m (c.from m i);
  enough = omega (arith, s.enough, c.counts (principal ns), count_le (principal T.members) (principal ns) (ids T.members) (changed_principal T v ns f c));
  candidate_inside_law = λ m i. inside m (c.from m i);
}
  where
    lively : (m : Member) → (m ≡ v) ⊎ In m T.members → has_live ns m ≡ true
    lively m (inl e) = rw e (live_stays T.members ns v.successors c.grows f.live_entry)
    lively m (inr i) = live_stays T.members ns m.successors c.grows (s.live_entry m i)

    inside : (m : Member) → (m ≡ v) ⊎ In m T.members → candidate_inside m ≡ true
    inside m (inl e) = rw e f.candidate_inside_law
    inside m (inr i) = s.candidate_inside_law m i

pub changed_formed : (T : Table) (v : Member) (ns : List Member) → Formed T → FormedMember (space_of T) T.r v → Changed T.members v ns → length ns ≤ 256
    → Rising (ids ns) → Formed (with_members ns T)
changed_formed T v ns t f c few rise = members_formed t ns few rise (λ m i. go m (c.from m i))
  where
    go : (m : Member) → (m ≡ v) ⊎ In m T.members → FormedMember (space_of T) T.r m
    go m (inl e) = rw e f
    go m (inr i) = t.each m i

-- v in the place of the member with its identifier

pub replaced_ids : (v : Member) (ms : List Member) → ids (replaced v ms) ≡ ids ms
replaced_ids v [] = refl
replaced_ids v (m ∷ ms) = go (eqb m.id v.id) refl (replaced_ids v ms)
  where
    go : (b : Bool) → eqb m.id v.id ≡ b → ids (replaced v ms) ≡ ids ms → ids (if b then v ∷ ms else m ∷ replaced v ms) ≡ m.id ∷ ids ms
    go true e ih = ap (λ (x : ℕ). x ∷ ids ms) (sym (eqb-true _ _ e))
    go false e ih = ap (λ (l : List ℕ). m.id ∷ l) ih

replaced_from : (v m : Member) (ms : List Member) → In m (replaced v ms) → (m ≡ v) ⊎ In m ms
replaced_from v m [] i = inr i
replaced_from v m (n ∷ ms) i = go (eqb n.id v.id) i (replaced_from v m ms)
  where
    go : (b : Bool) → In m (if b then v ∷ ms else n ∷ replaced v ms) → (In m (replaced v ms) → (m ≡ v) ⊎ In m ms) → (m ≡ v) ⊎ In m (n ∷ ms)
    go true i ih = ⊎_elim inl (λ k. inr (there k)) (in_cons i)
    go false i ih = ⊎_elim (λ e. inr (here e)) (λ k. ⊎_elim inl (λ j. inr (there j)) (ih k)) (in_cons i)

-- it is found there, and all others as they were
pub replaced_named : (v : Member) (ms : List Member) → In v.id (ids ms) → named (replaced v ms) v.id ≡ v
replaced_named v [] i = absurd (in_nil i)
replaced_named v (m ∷ ms) i = go (eqb m.id v.id) refl (in_cons i) (replaced_named v ms)
  where
    go : (b : Bool) → eqb m.id v.id ≡ b → (v.id ≡ m.id) ⊎ In v.id (ids ms) → (In v.id (ids ms) → named (replaced v ms) v.id ≡ v)
        → named (if b then v ∷ ms else m ∷ replaced v ms) v.id ≡ v
    go true e i ih = rw (eq-eqb v.id v.id refl)
    go false e (inl q) ih = absurd (eqb-false m.id v.id e (sym q))
    go false e (inr j) ih = rw e (ih j)

pub replaced_others : (v : Member) (x : ℕ) (ms : List Member) → (v.id ≡ x → ⊥) → named (replaced v ms) x ≡ named ms x
replaced_others v x [] n = refl
replaced_others v x (m ∷ ms) n = go (eqb m.id v.id) refl (replaced_others v x ms n)
  where
    go : (b : Bool) → eqb m.id v.id ≡ b → named (replaced v ms) x ≡ named ms x → named (if b then v ∷ ms else m ∷ replaced v ms) x ≡ named (m ∷ ms) x
    go true e ih = let q = eqb-true m.id v.id e in rw (ne_eqb v.id x n, ne_eqb m.id x (λ d. n (sym q ∙ d)))
    go false e ih = ap (λ (k : Member). if eqb m.id x then m else k) ih

pub replaced_changed : (v : Member) (ms : List Member) → Changed ms v (replaced v ms)
replaced_changed v ms = record { from = λ m i. replaced_from v m ms i; grows = λ x i. rw (replaced_ids v ms) i; counts = λ f. rw (replaced_ids v ms) (omega arith) }

-- v among the members, in its place

inserted_from : (v m : Member) (ms : List Member) → In m (inserted v ms) → (m ≡ v) ⊎ In m ms
inserted_from v m [] i = in_cons i
inserted_from v m (n ∷ ms) i = go (ltb v.id n.id) i (inserted_from v m ms)
  where
    go : (b : Bool) → In m (if b then v ∷ n ∷ ms else n ∷ inserted v ms) → (In m (inserted v ms) → (m ≡ v) ⊎ In m ms) → (m ≡ v) ⊎ In m (n ∷ ms)
    go true i ih = in_cons i
    go false i ih = ⊎_elim (λ e. inr (here e)) (λ k. ⊎_elim inl (λ j. inr (there j)) (ih k)) (in_cons i)

inserted_grows : (v : Member) (x : ℕ) (ms : List Member) → In x (ids ms) → In x (ids (inserted v ms))
inserted_grows v x [] i = absurd (in_nil i)
inserted_grows v x (m ∷ ms) i = go (ltb v.id m.id) (inserted_grows v x ms)
  where
    go : (b : Bool) → (In x (ids ms) → In x (ids (inserted v ms))) → In x (ids (if b then v ∷ m ∷ ms else m ∷ inserted v ms))
    go true ih = there i
    go false ih = ⊎_elim (λ e. here e) (λ k. there (ih k)) (in_cons i)

pub inserted_in : (v : Member) (ms : List Member) → In v.id (ids (inserted v ms))
inserted_in v [] = here refl
inserted_in v (m ∷ ms) = go (ltb v.id m.id) (inserted_in v ms)
  where
    go : (b : Bool) → In v.id (ids (inserted v ms)) → In v.id (ids (if b then v ∷ m ∷ ms else m ∷ inserted v ms))
    go true ih = here refl
    go false ih = there ih

-- it is found there, and all others as they were
pub inserted_named : (v : Member) (ms : List Member) → (In v.id (ids ms) → ⊥) → named (inserted v ms) v.id ≡ v
inserted_named v [] n = rw (eq-eqb v.id v.id refl)
inserted_named v (m ∷ ms) n = go (ltb v.id m.id) (inserted_named v ms (λ i. n (there i)))
  where
    go : (b : Bool) → named (inserted v ms) v.id ≡ v → named (if b then v ∷ m ∷ ms else m ∷ inserted v ms) v.id ≡ v
    go true ih = rw (eq-eqb v.id v.id refl)
    go false ih = rw (ne_eqb m.id v.id (λ q. n (here (sym q)))) ih

pub inserted_others : (v : Member) (x : ℕ) (ms : List Member) → (v.id ≡ x → ⊥) → named (inserted v ms) x ≡ named ms x
inserted_others v x [] n = rw (ne_eqb v.id x n)
inserted_others v x (m ∷ ms) n = go (ltb v.id m.id) (inserted_others v x ms n)
  where
    go : (b : Bool) → named (inserted v ms) x ≡ named ms x → named (if b then v ∷ m ∷ ms else m ∷ inserted v ms) x ≡ named (m ∷ ms) x
    go true ih = rw (ne_eqb v.id x n)
    go false ih = ap (λ (k : Member). if eqb m.id x then m else k) ih

inserted_counts : (f : ℕ → Bool) (v : Member) (ms : List Member) → count f (ids ms) ≤ count f (ids (inserted v ms))
inserted_counts f v [] = omega arith
inserted_counts f v (m ∷ ms) = go (ltb v.id m.id) (inserted_counts f v ms)
  where
    go : (b : Bool) → count f (ids ms) ≤ count f (ids (inserted v ms)) → count f (ids (m ∷ ms)) ≤ count f (ids (if b then v ∷ m ∷ ms else m ∷ inserted v ms))
    go true ih = omega arith
    go false ih = omega arith

pub inserted_changed : (v : Member) (ms : List Member) → Changed ms v (inserted v ms)
inserted_changed v ms = record { from = λ m i. inserted_from v m ms i; grows = λ x i. inserted_grows v x ms i; counts = λ f. inserted_counts f v ms }

pub inserted_length : (v : Member) (ms : List Member) → length (inserted v ms) ≡ suc (length ms)
inserted_length v [] = refl
inserted_length v (m ∷ ms) = go (ltb v.id m.id) (inserted_length v ms)
  where
    go : (b : Bool) → length (inserted v ms) ≡ suc (length ms) → length (if b then v ∷ m ∷ ms else m ∷ inserted v ms) ≡ suc (suc (length ms))
    go true ih = refl
    go false ih = ap suc ih

inserted_above : (x : ℕ) (v : Member) (ms : List Member) → x < v.id → Above x (ids ms) → (In v.id (ids ms) → ⊥) → Above x (ids (inserted v ms))
inserted_above x v [] h a n = (h, tt)
inserted_above x v (m ∷ ms) h a n = go (ltb v.id m.id) refl (inserted_above m.id v ms)
  where
    go : (b : Bool) → ltb v.id m.id ≡ b → (m.id < v.id → Above m.id (ids ms) → (In v.id (ids ms) → ⊥) → Above m.id (ids (inserted v ms)))
        → Above x (ids (if b then v ∷ m ∷ ms else m ∷ inserted v ms))
    go true e ih = (h, (ltb-true v.id m.id e, a.1))
    go false e ih = let ne : v.id ≡ m.id → ⊥ = λ q. n (here q) in (a.0, ih (omega (arith, ltb-false v.id m.id e)) a.1 (λ i. n (there i)))

pub inserted_rising : (v : Member) (ms : List Member) → Rising (ids ms) → (In v.id (ids ms) → ⊥) → Rising (ids (inserted v ms))
inserted_rising v [] a n = tt
inserted_rising v (m ∷ ms) a n = go (ltb v.id m.id) refl
  where
    go : (b : Bool) → ltb v.id m.id ≡ b → Rising (ids (if b then v ∷ m ∷ ms else m ∷ inserted v ms))
    go true e = (ltb-true v.id m.id e, a)
    go false e = let ne : v.id ≡ m.id → ⊥ = λ q. n (here q) in inserted_above m.id v ms (omega (arith, ltb-false v.id m.id e)) a (λ i. n (there i))
