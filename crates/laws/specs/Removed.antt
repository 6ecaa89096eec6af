-- The members that stay where some go, whichever they are: they were members, still by rising identifier; who was a principal is one; and the
-- table stays well-formed. Then one member alone: the others stay, and they are one fewer.
use Rattle.std.specs.Prelude.{◌≡◌, refl, ◌⊎◌, Bool, true, false, not, List, [], ◌∷◌, ℕ, suc, ◌+◌, ◌*◌, ◌≤◌, length, eqb, if◌then◌else◌}
use Rattle.std.proofs.Common.{sym, ap, ◌∙◌, inl, inr, ⊎_elim, arith}
use Rattle.std.proofs.lemmas.Bool.{false≢true}
use borrow.Author.Tests.{eqb-true, eqb-false, ne_eqb, ltb-false, not-false}
use Rattle.model.specs.Table.{Member, Table, record_size, size, ids}
use Rattle.model.specs.Ring.{named, skips, principal, has_live}
use Rattle.model.specs.Steps.{is_named, staying, without, without_those}
use Rattle.model.specs.Refusals.{cuts_off, too_few_principals}
use Rattle.laws.specs.Lists.{In, here, there, in_cons, in_nil, every_in, in_every, NoDup, Rising, above_in, above_rising, in_above, in_ids, named_in, found}
use Rattle.laws.specs.Tables.{Formed, Sound, members_formed}

module _ (gone : Member → Bool) where
  pub staying_from : (m : Member) (ms : List Member) → In m (staying gone ms) → In m ms
  staying_from m [] i = i
  staying_from m (k ∷ ms) i = go (gone k) i (staying_from m ms)
    where
      go : (b : Bool) → In m (if not b then k ∷ staying gone ms else staying gone ms) → (In m (staying gone ms) → In m ms) → In m (k ∷ ms)
      go true i ih = there (ih i)
      go false i ih = ⊎_elim (λ e. here e) (λ j. there (ih j)) (in_cons i)

  pub staying_in : (m : Member) (ms : List Member) → In m ms → gone m ≡ false → In m (staying gone ms)
  staying_in m [] i h = i
  staying_in m (k ∷ ms) i h = go (gone k) refl (in_cons i) (λ j. staying_in m ms j h)
    where
      go : (b : Bool) → gone k ≡ b → (m ≡ k) ⊎ In m ms → (In m ms → In m (staying gone ms)) → In m (if not b then k ∷ staying gone ms else staying gone ms)
      go true e (inl q) ih = absurd (false≢true (sym h ∙ ap gone q ∙ e))
      go true e (inr j) ih = ih j
      go false e (inl q) ih = here q
      go false e (inr j) ih = there (ih j)

  pub staying_ids : (x : ℕ) (ms : List Member) → In x (ids (staying gone ms)) → In x (ids ms)
  staying_ids x ms i = let w = found (staying gone ms) i in (rw w.1 at (in_ids (staying_from (named (staying gone ms) x) ms w.0)))

  -- who stays keeps its record
  pub staying_named : (x : ℕ) (ms : List Member) → NoDup (ids ms) → In x (ids (staying gone ms)) → named (staying gone ms) x ≡ named ms x
  staying_named x ms nd i =
      let w = found (staying gone ms) i in
      sym (named_in ms nd (staying_from (named (staying gone ms) x) ms w.0)) ∙ ap (named ms) w.1

  -- whom none of the members skips, none of those that stay does
  pub staying_principal : (x : ℕ) (ms : List Member) → principal ms x ≡ true → principal (staying gone ms) x ≡ true
  staying_principal x ms h = in_every (λ m. not (skips x m.id m.successors)) (staying gone ms) (λ m i. every_in (λ m. not (skips x m.id m.successors)) h (staying_from m ms i))

  pub staying_most : (ms : List Member) → length (staying gone ms) ≤ length ms
  staying_most [] = omega arith
  staying_most (m ∷ ms) = go (gone m) (staying_most ms)
    where
      go : (b : Bool) → length (staying gone ms) ≤ length ms → length (if not b then m ∷ staying gone ms else staying gone ms) ≤ suc (length ms)
      go true h = omega arith
      go false h = omega arith

  pub staying_rising : (ms : List Member) → Rising (ids ms) → Rising (ids (staying gone ms))
  staying_rising [] a = tt
  staying_rising (m ∷ ms) a = go (gone m) (staying_rising ms (above_rising m.id (ids ms) a))
    where
      go : (b : Bool) → Rising (ids (staying gone ms)) → Rising (ids (if not b then m ∷ staying gone ms else staying gone ms))
      go true ih = ih
      go false ih = in_above (ids (staying gone ms)) ih (λ x i. above_in (ids ms) a (staying_ids x ms i))

  pub staying_formed : (T : Table) → Formed T → Formed (without_those gone T)
  staying_formed T t = members_formed t _ (omega (arith, staying_most T.members, t.count_high)) (staying_rising T.members t.ids_rising) (λ m k. t.each m (staying_from m T.members k))

  -- where 6 and 7, judged on the table as it is then, do not decline it, it stays sound: candidates are judged record by record
  pub staying_sound : (T : Table) → Sound T → cuts_off (without_those gone T) ≡ false → too_few_principals (without_those gone T) ≡ false → Sound (without_those gone T)
  unfolding cuts_off too_few_principals
  staying_sound T s six seven = record {
    live_entry = λ m i. every_in (has_live (staying gone T.members)) (not-false _ six) i;
    enough = ltb-false _ _ seven;
    candidate_inside_law = λ m i. s.candidate_inside_law m (staying_from m T.members i);
  }

-- One member

-- every other member stays
pub without_keeps : (n x : ℕ) (ms : List Member) → In x (ids ms) → (x ≡ n → ⊥) → In x (ids (staying (is_named n) ms))
without_keeps n x ms i d =
    let w = found ms i in
    rw w.1 at (in_ids (staying_in (is_named n) (named ms x) ms w.0 (ne_eqb (named ms x).id n (λ q. d (sym w.1 ∙ q)))))

-- of members none of which it is all stay
pub without_none : (n : ℕ) (ms : List Member) → (In n (ids ms) → ⊥) → staying (is_named n) ms ≡ ms
without_none n [] d = refl
without_none n (m ∷ ms) d = rw (ne_eqb m.id n (λ q. d (here (sym q)))) (ap (λ (l : List Member). m ∷ l) (without_none n ms (λ i. d (there i))))

pub without_length : (n : ℕ) (ms : List Member) → Rising (ids ms) → In n (ids ms) → suc (length (staying (is_named n) ms)) ≡ length ms
without_length n [] a i = absurd (in_nil i)
without_length n (m ∷ ms) a i = go (eqb m.id n) refl (in_cons i) (without_length n ms (above_rising m.id (ids ms) a))
  where
    go : (b : Bool) → eqb m.id n ≡ b → (n ≡ m.id) ⊎ In n (ids ms) → (In n (ids ms) → suc (length (staying (is_named n) ms)) ≡ length ms)
        → suc (length (if not b then m ∷ staying (is_named n) ms else staying (is_named n) ms)) ≡ suc (length ms)
    go true e k ih = ap (λ (l : List Member). suc (length l)) (without_none n ms (λ j. omega (arith, eqb-true m.id n e, above_in (ids ms) a j)))
    go false e (inl q) ih = absurd (eqb-false m.id n e (sym q))
    go false e (inr k) ih = ap suc (ih k)

-- the table without a member is one record smaller
pub without_size : (n : ℕ) (T : Table) → Formed T → In n (ids T.members) → size (without n T) + record_size T.r ≡ size T
without_size n T f i = omega (arith, ap (λ (k : ℕ). k * record_size T.r) (without_length n T.members f.ids_rising i))
