-- Step counts erased: no reply depends on a count. Each of these definitions tells of a table what it tells of the table without counts, and each step leaves
-- the same of both but for counts. Assumes nothing.
use Rattle.std.specs.Prelude.{◌≡◌, Bool, ◌&&◌, ◌||◌, ltb, length, if◌then◌else◌}
use Rattle.std.proofs.Math.Path.{refl, ap, ap₂}
use Rattle.std.proofs.Common.{sym, ◌∙◌}
use Rattle.std.proofs.Math.Bool.{true, false, not}
use Rattle.std.proofs.lemmas.Bool.{false≢true}
use mathlib.Core.List.{List, [], ◌∷◌, ◌++◌, map}
use Rattle.std.proofs.Math.Option.{some}
use Prim.Native.Nat.{ℕ, zero, suc, ◌+◌}
use Rattle.std.proofs.Math.Dec.{leb, eqb}
use borrow.Author.Tests.{eqb-true, eq-eqb}
use Rattle.model.specs.Lists.{option, every, any, count, sum, contains, bit, same_by}
use Rattle.model.specs.Identifier.{between}
use Rattle.model.specs.Table.{Member, idle, Table, space_of, ids}
use Rattle.model.specs.Ring.{live, named, successor, skips, principal, principals, has_live, is_pending, candidate_inside, sound, Search, past, searched, first_live, best_successor, passed_by, passed_by_all, reaches, on_ring, ring_members, moves_from, ideal_member, ideal, verdict}
use Rattle.model.specs.Answer.{accepted}
use Rattle.model.specs.Steps.{with_predecessor, with_steps, with_members, uncounted, inserted, joined, drop_head, adopt, await_candidate, clear_pending, offered, is_better, stabilize_from_successor, stabilize_from_predecessor, stabilize, stabilize_reply, replaced, stabilized, renews, rectify_in, rectified, staying, is_named, without, lookup_from, lookup, audit_reply}
use Rattle.model.specs.Alike.{alike_member, alike}
use Rattle.model.specs.Findings.{finding_of, findings}
use Rattle.model.specs.Held.{runs_of}
use Rattle.model.specs.Pairs.{neighbours, pairs}
use Rattle.laws.specs.Lists.{and-true, true_and, same_eq, same_refl}

-- the members that `uncounted` leaves
abbrev pub erased : List Member → List Member
erased ms = map (with_steps 0) ms

-- Members, one by one and by name

pub erased_length : (ms : List Member) → length (erased ms) ≡ length ms
erased_length [] = refl
erased_length (m ∷ ms) = ap suc (erased_length ms)

pub erased_ids : (ms : List Member) → ids (erased ms) ≡ ids ms
erased_ids [] = refl
erased_ids (m ∷ ms) = ap (λ (l : List ℕ). m.id ∷ l) (erased_ids ms)

erased_every : (f g : Member → Bool) → ((m : Member) → f (with_steps 0 m) ≡ g m) → (ms : List Member) → every f (erased ms) ≡ every g ms
erased_every f g h [] = refl
erased_every f g h (m ∷ ms) = ap₂ (λ (a b : Bool). a && b) (h m) (erased_every f g h ms)

erased_map : (f g : Member → ℕ) → ((m : Member) → f (with_steps 0 m) ≡ g m) → (ms : List Member) → map f (erased ms) ≡ map g ms
erased_map f g h [] = refl
erased_map f g h (m ∷ ms) = ap₂ (λ (a : ℕ) (l : List ℕ). a ∷ l) (h m) (erased_map f g h ms)

module _ (x : ℕ) where
  pub erased_named : (ms : List Member) → named (erased ms) x ≡ with_steps 0 (named ms x)
  erased_named [] = refl
  erased_named (m ∷ ms) = go (eqb m.id x) (erased_named ms)
    where
      go : (b : Bool) → named (erased ms) x ≡ with_steps 0 (named ms x) → (if b then with_steps 0 m else named (erased ms) x) ≡ with_steps 0 (if b then m else named ms x)
      go true ih = refl
      go false ih = ih

  erased_live : (ms : List Member) → live (erased ms) x ≡ live ms x
  erased_live ms = ap (λ (l : List ℕ). contains l x) (erased_ids ms)

  erased_list : (ms : List Member) → (named (erased ms) x).successors ≡ (named ms x).successors
  erased_list ms = ap (λ (m : Member). m.successors) (erased_named ms)

  erased_predecessor : (ms : List Member) → (named (erased ms) x).predecessor ≡ (named ms x).predecessor
  erased_predecessor ms = ap (λ (m : Member). m.predecessor) (erased_named ms)

  erased_principal : (ms : List Member) → principal (erased ms) x ≡ principal ms x
  erased_principal ms = erased_every (λ m. not (skips x m.id m.successors)) (λ m. not (skips x m.id m.successors)) (λ m. refl) ms

module _ (ms : List Member) where
  pub erased_principals : principals (erased ms) ≡ principals ms
  erased_principals = λ i. count (λ x. erased_principal x ms i) (erased_ids ms i)

  erased_has_live : (m : Member) → has_live (erased ms) (with_steps 0 m) ≡ has_live ms m
  erased_has_live m = λ i. any (λ x. erased_live x ms i) m.successors

  pub erased_all_live : every (has_live (erased ms)) (erased ms) ≡ every (has_live ms) ms
  erased_all_live = erased_every (has_live (erased ms)) (has_live ms) erased_has_live ms

-- Walks

module _ (ms : List Member) where
  erased_searched : (l : List ℕ) → searched (erased ms) l ≡ searched ms l
  erased_searched [] = refl
  erased_searched (x ∷ l) = ap₂ (λ (b : Bool) (s : Search). if b then record { entry = some x; passed = 0 } else past s) (erased_live x ms) (erased_searched l)

  erased_best : (x : ℕ) → best_successor (erased ms) x ≡ best_successor ms x
  erased_best x = ap (first_live (erased ms)) (erased_list x ms) ∙ ap (λ (s : Search). s.entry) (erased_searched (named ms x).successors)

  erased_passed : (m : Member) → passed_by (erased ms) (with_steps 0 m) ≡ passed_by ms m
  erased_passed m = ap (λ (s : Search). s.passed) (erased_searched m.successors)

  passed_named : (x : ℕ) → passed_by (erased ms) (named (erased ms) x) ≡ passed_by ms (named ms x)
  passed_named x = ap (passed_by (erased ms)) (erased_named x ms) ∙ erased_passed (named ms x)

  pub erased_passed_all : passed_by_all (erased ms) ≡ passed_by_all ms
  erased_passed_all = ap sum (erased_map (passed_by (erased ms)) (passed_by ms) erased_passed ms)

  erased_reaches : (n z x : ℕ) → reaches (erased ms) n z x ≡ reaches ms n z x
  erased_reaches zero z x = refl
  erased_reaches (suc n) z x = λ i. option (erased_best x i) false (λ y. eqb y z || erased_reaches n z y i)

  erased_on_ring : (x : ℕ) → on_ring (erased ms) x ≡ on_ring ms x
  erased_on_ring x = ap (λ (n : ℕ). reaches (erased ms) n x x) (erased_length ms) ∙ erased_reaches (length ms) x x

  erased_ring : ring_members (erased ms) ≡ ring_members ms
  erased_ring = λ i. count (λ x. erased_on_ring x i) (erased_ids ms i)

  erased_moves : (n k x : ℕ) → moves_from (erased ms) n k x ≡ moves_from ms n k x
  erased_moves zero k x = erased_length ms
  erased_moves (suc n) k x = λ i. if erased_on_ring x i then k else option (erased_best x i) (erased_length ms i) (λ y. erased_moves n (suc k) y i)

  erased_finding : (x : ℕ) → finding_of (erased ms) x ≡ finding_of ms x
  erased_finding x = ap₂ (λ (b : Bool) (k : ℕ). record { id = x; principal = bit b; moves = k }) (erased_principal x ms)
      (ap (λ (n : ℕ). moves_from (erased ms) n 0 x) (erased_length ms) ∙ erased_moves (length ms) 0 x)

  pub erased_findings : findings (erased ms) ≡ findings ms
  erased_findings = λ i. map (λ x. erased_finding x i) (erased_ids ms i)

  erased_walk : (n k q moves passed : ℕ) → lookup_from (erased ms) n k q moves passed ≡ lookup_from ms n k q moves passed
  erased_walk zero k q moves passed = refl
  erased_walk (suc n) k q moves passed = λ i. option (erased_best q i) (record { number = 8; values = q ∷ [] })
      (λ b. if eqb k b || between q k b then accepted (b ∷ q ∷ moves ∷ (passed + passed_named q i) ∷ [])
      else erased_walk n k b (suc moves) (passed + passed_named q i) i)

  pub erased_lookup : (n k : ℕ) → lookup (erased ms) n k ≡ lookup ms n k
  erased_lookup n k = ap (λ (c : ℕ). lookup_from (erased ms) c k n 0 0) (erased_length ms) ∙ erased_walk (length ms) k n 0 0

-- Held runs, and pairs

pub erased_runs : (ms : List Member) (n : ℕ) (ks : List ℕ) → runs_of (erased ms) n ks ≡ runs_of ms n ks
unfolding runs_of
erased_runs ms n ks = rw (erased_ids ms)

pub erased_pairs : (ms : List Member) → pairs (erased ms) ≡ pairs ms
erased_pairs [] = refl
erased_pairs (m ∷ ms) = ap (λ (l : List (ℕ × ℕ)). neighbours m.id m.successors ++ l) (erased_pairs ms)

-- The verdict

module _ (T : Table) where
  abbrev ms : List Member
  ms = T.members

  pub sound_uncounted : sound (uncounted T) ≡ sound T
  unfolding sound candidate_inside
  sound_uncounted = λ i. (erased_all_live ms i && leb (T.r + 1) (erased_principals ms i) && inside i)
    where
      inside : every candidate_inside (erased ms) ≡ every candidate_inside ms
      inside = erased_every candidate_inside candidate_inside (λ m. refl) ms

  pub ideal_uncounted : ideal (uncounted T) ≡ ideal T
  unfolding ideal ideal_member
  ideal_uncounted = ap (λ (xs : List ℕ). every (ideal_member T.r xs) (erased ms)) (erased_ids ms) ∙ each
    where
      each : every (ideal_member T.r (ids ms)) (erased ms) ≡ every (ideal_member T.r (ids ms)) ms
      each = erased_every (ideal_member T.r (ids ms)) (ideal_member T.r (ids ms)) (λ m. refl) ms

  pub verdict_uncounted : verdict (uncounted T) ≡ verdict T
  unfolding verdict
  verdict_uncounted = λ i. if sound_uncounted i then if ideal_uncounted i then 2 else 1 else 0

  pub audit_uncounted : audit_reply (uncounted T) ≡ audit_reply T
  audit_uncounted = λ i. erased_length ms i ∷ erased_principals ms i ∷ erased_ring ms i ∷ verdict_uncounted i ∷ []

-- A member's step, and its notice

module _ (ms : List Member) (m : Member) where
  erased_better : is_better (erased ms) (with_steps 0 m) ≡ is_better ms m
  erased_better = ap (λ (c : ℕ). between m.id c (successor m)) (erased_predecessor (successor m) ms)

  from_predecessor : stabilize_from_predecessor (erased ms) (with_steps 0 m) ≡ with_steps 0 (stabilize_from_predecessor ms m)
  unfolding stabilize_from_predecessor
  from_predecessor =
      ap₂ (λ (b : Bool) (l : List ℕ). clear_pending (if b then adopt m.candidate l (with_steps 0 m) else with_steps 0 m)) (erased_live m.candidate ms) (erased_list m.candidate ms)
      ∙ go (live ms m.candidate)
    where
      go : (b : Bool) → clear_pending (if b then adopt m.candidate (named ms m.candidate).successors (with_steps 0 m) else with_steps 0 m)
          ≡ with_steps 0 (clear_pending (if b then adopt m.candidate (named ms m.candidate).successors m else m))
      go true = refl
      go false = refl

  from_successor : stabilize_from_successor (erased ms) (with_steps 0 m) ≡ with_steps 0 (stabilize_from_successor ms m)
  unfolding stabilize_from_successor
  from_successor =
      (λ i. if erased_better i then await_candidate (erased_predecessor (successor m) ms i) (adopt (successor m) (erased_list (successor m) ms i) (with_steps 0 m))
      else adopt (successor m) (erased_list (successor m) ms i) (with_steps 0 m)) ∙ go (is_better ms m)
    where
      l : List ℕ
      l = (named ms (successor m)).successors

      go : (b : Bool) → (if b then await_candidate (offered ms m) (adopt (successor m) l (with_steps 0 m)) else adopt (successor m) l (with_steps 0 m))
          ≡ with_steps 0 (if b then await_candidate (offered ms m) (adopt (successor m) l m) else adopt (successor m) l m)
      go true = refl
      go false = refl

  erased_step : (w : ℕ) → stabilize w (erased ms) (with_steps 0 m) ≡ with_steps 0 (stabilize w ms m)
  unfolding stabilize
  erased_step w =
      (λ i. if is_pending m then from_predecessor i else if erased_live (successor m) ms i then from_successor i else with_steps 0 (drop_head w m))
      ∙ go (is_pending m) (live ms (successor m))
    where
      go : (a b : Bool) → (if a then with_steps 0 (stabilize_from_predecessor ms m) else if b then with_steps 0 (stabilize_from_successor ms m) else with_steps 0 (drop_head w m))
          ≡ with_steps 0 (if a then stabilize_from_predecessor ms m else if b then stabilize_from_successor ms m else drop_head w m)
      go true b = refl
      go false true = refl
      go false false = refl

  pub erased_reply : stabilize_reply (erased ms) (with_steps 0 m) ≡ stabilize_reply ms m
  unfolding stabilize_reply
  erased_reply = λ i. if is_pending m then 2 ∷ successor (from_predecessor i) ∷ []
      else if not (erased_live (successor m) ms i) then 0 ∷ []
      else if erased_better i then 1 ∷ erased_predecessor (successor m) ms i ∷ []
      else 2 ∷ successor m ∷ []

  module _ (q : ℕ) where
    pub erased_renews : renews (live (erased ms) m.predecessor) q (with_steps 0 m) ≡ renews (live ms m.predecessor) q m
    unfolding renews
    erased_renews = ap (λ (b : Bool). between m.predecessor q m.id || not b) (erased_live m.predecessor ms)

    erased_rectify : rectify_in (erased ms) q (with_steps 0 m) ≡ with_steps 0 (rectify_in ms q m)
    erased_rectify = ap (λ (b : Bool). if b then with_predecessor q (with_steps 0 m) else with_steps 0 m) erased_renews ∙ go (renews (live ms m.predecessor) q m)
      where
        go : (b : Bool) → (if b then with_predecessor q (with_steps 0 m) else with_steps 0 m) ≡ with_steps 0 (if b then with_predecessor q m else m)
        go true = refl
        go false = refl

-- Records put in, replaced and removed

erased_inserted : (v : Member) (ms : List Member) → erased (inserted v ms) ≡ inserted (with_steps 0 v) (erased ms)
erased_inserted v [] = refl
erased_inserted v (m ∷ ms) = go (ltb v.id m.id) (erased_inserted v ms)
  where
    go : (b : Bool) → erased (inserted v ms) ≡ inserted (with_steps 0 v) (erased ms)
        → erased (if b then v ∷ m ∷ ms else m ∷ inserted v ms) ≡ (if b then with_steps 0 v ∷ with_steps 0 m ∷ erased ms else with_steps 0 m ∷ inserted (with_steps 0 v) (erased ms))
    go true ih = refl
    go false ih = ap (λ (l : List Member). with_steps 0 m ∷ l) ih

erased_replaced : (v : Member) (ms : List Member) → erased (replaced v ms) ≡ replaced (with_steps 0 v) (erased ms)
erased_replaced v [] = refl
erased_replaced v (m ∷ ms) = go (eqb m.id v.id) (erased_replaced v ms)
  where
    go : (b : Bool) → erased (replaced v ms) ≡ replaced (with_steps 0 v) (erased ms)
        → erased (if b then v ∷ ms else m ∷ replaced v ms) ≡ (if b then with_steps 0 v ∷ erased ms else with_steps 0 m ∷ replaced (with_steps 0 v) (erased ms))
    go true ih = refl
    go false ih = ap (λ (l : List Member). with_steps 0 m ∷ l) ih

-- whichever members go, if by a test that reads no count
erased_staying : (gone : Member → Bool) → ((m : Member) → gone (with_steps 0 m) ≡ gone m) → (ms : List Member) → erased (staying gone ms) ≡ staying gone (erased ms)
erased_staying gone h [] = refl
erased_staying gone h (m ∷ ms) = go (gone m) (erased_staying gone h ms) ∙ ap (λ (b : Bool). if not b then with_steps 0 m ∷ staying gone (erased ms) else staying gone (erased ms)) (sym (h m))
  where
    go : (b : Bool) → erased (staying gone ms) ≡ staying gone (erased ms)
        → erased (if not b then m ∷ staying gone ms else staying gone ms) ≡ (if not b then with_steps 0 m ∷ staying gone (erased ms) else staying gone (erased ms))
    go true ih = ih
    go false ih = ap (λ (l : List Member). with_steps 0 m ∷ l) ih

-- The steps of a table

-- a stabilize step of n, not counted
abbrev pub stepped : ℕ → Table → Table
stepped n T = with_members (replaced (stabilize (space_of T) T.members (named T.members n)) T.members) T

module _ (T : Table) where
  pub joined_uncounted : (j p : ℕ) → uncounted (joined j p T) ≡ joined j p (uncounted T)
  joined_uncounted j p = ap (λ (ms : List Member). with_members ms T) (erased_inserted _ T.members ∙ ap (λ (l : List ℕ). inserted (idle j p l) (erased T.members)) (sym (erased_list p T.members)))

  pub stabilized_uncounted : (n : ℕ) → uncounted (stabilized n T) ≡ stepped n (uncounted T)
  stabilized_uncounted n = ap (λ (ms : List Member). with_members ms T) (erased_replaced _ T.members
      ∙ ap (λ (v : Member). replaced v (erased T.members)) (sym (erased_step T.members (named T.members n) (space_of T)) ∙ ap (stabilize (space_of T) (erased T.members)) (sym (erased_named n T.members))))

  pub rectified_uncounted : (n q : ℕ) → uncounted (rectified n q T) ≡ rectified n q (uncounted T)
  rectified_uncounted n q = ap (λ (ms : List Member). with_members ms T) (erased_replaced _ T.members
      ∙ ap (λ (v : Member). replaced v (erased T.members)) (sym (erased_rectify T.members (named T.members n) q) ∙ ap (rectify_in (erased T.members) q) (sym (erased_named n T.members))))

  pub without_uncounted : (n : ℕ) → uncounted (without n T) ≡ without n (uncounted T)
  without_uncounted n = ap (λ (ms : List Member). with_members ms T) (erased_staying (is_named n) (λ m. refl) T.members)

-- Alike: it reads no count, and says yes exactly of tables that are equal without theirs

members_erased : (ms ns : List Member) → same_by alike_member (erased ms) (erased ns) ≡ same_by alike_member ms ns
unfolding alike_member
members_erased [] [] = refl
members_erased [] (n ∷ ns) = refl
members_erased (m ∷ ms) [] = refl
members_erased (m ∷ ms) (n ∷ ns) = ap (λ (b : Bool). alike_member m n && b) (members_erased ms ns)

member_refl : (m : Member) → alike_member m m ≡ true
unfolding alike_member
member_refl m =
    rw (eq-eqb m.id m.id refl, eq-eqb m.predecessor m.predecessor refl, eq-eqb m.pending m.pending refl, eq-eqb m.candidate m.candidate refl) (same_refl m.successors)

members_refl : (ms : List Member) → same_by alike_member ms ms ≡ true
members_refl [] = refl
members_refl (m ∷ ms) = true_and (member_refl m) (members_refl ms)

member_equal : (m n : Member) → alike_member m n ≡ true → with_steps 0 m ≡ with_steps 0 n
unfolding alike_member
member_equal m n h =
    let a = and-true _ _ h in
    let b = and-true _ _ a.0 in
    let c = and-true _ _ b.0 in
    let d = and-true _ _ c.0 in
    let list = same_eq m.successors n.successors a.1 in
    let candidates = eqb-true m.candidate n.candidate b.1 in
    let pendings = eqb-true m.pending n.pending c.1 in
    let predecessors = eqb-true m.predecessor n.predecessor d.1 in
    let names = eqb-true m.id n.id d.0 in
    λ i. record { id = names i; predecessor = predecessors i; pending = pendings i; candidate = candidates i; successors = list i; steps = 0 }

members_equal : (ms ns : List Member) → same_by alike_member ms ns ≡ true → erased ms ≡ erased ns
members_equal [] [] h = refl
members_equal [] (n ∷ ns) h = absurd (false≢true h)
members_equal (m ∷ ms) [] h = absurd (false≢true h)
members_equal (m ∷ ms) (n ∷ ns) h = let a = and-true (alike_member m n) _ h in ap₂ (λ (k : Member) (l : List Member). k ∷ l) (member_equal m n a.0) (members_equal ms ns a.1)

module _ (A B : Table) where
  pub alike_uncounted : alike (uncounted A) (uncounted B) ≡ alike A B
  unfolding alike
  alike_uncounted = ap (λ (b : Bool). eqb A.r B.r && b) (members_erased A.members B.members)

  pub alike_equal : alike A B ≡ true → uncounted A ≡ uncounted B
  unfolding alike
  alike_equal h =
      let a = and-true (eqb A.r B.r) _ h in
      let r = eqb-true A.r B.r a.0 in
      let ms = members_equal A.members B.members a.1 in
      λ i. record { r = r i; members = ms i }

alike_refl : (T : Table) → alike T T ≡ true
unfolding alike
alike_refl T = true_and (eq-eqb T.r T.r refl) (members_refl T.members)

pub equal_alike : (A B : Table) → uncounted A ≡ uncounted B → alike A B ≡ true
equal_alike A B e = sym (alike_uncounted A B) ∙ ap (λ (T : Table). alike T (uncounted B)) e ∙ alike_refl (uncounted B)
