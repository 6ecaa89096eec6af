-- From right successors on, each round makes one more entry of every list right. Where all are, a round leaves every record as it is: the members are those
-- of the new table.
use Rattle.std.specs.Prelude.{◌≡◌, refl, ◌⊎◌, Bool, false, List, [], ◌∷◌, map, ℕ, zero, suc, ◌-◌, ◌≤◌, length, get_or, take}
use Rattle.std.proofs.Common.{sym, ap, ap₂, subst, ◌∙◌, inl, inr, arith, take_all, take-take}
use Rattle.std.proofs.lemmas.Bool.{eqb-false}
use Rattle.model.specs.Lists.{without_last}
use Rattle.model.specs.Table.{Member, Table, ids}
use Rattle.model.specs.Ring.{named, is_pending, next_up, next_down, next_ups}
use Rattle.model.specs.Steps.{with_steps}
use Rattle.model.specs.New.{new_member}
use Rattle.model.specs.Settle.{after_turn, after_round}
use Rattle.laws.specs.Order.{equal?, inside_outside}
use Rattle.laws.specs.Lists.{In, here, there, found, in_ids, named_in, Rising, rising_nodup}
use Rattle.theory.proofs.Static.{next_up_law}
use Rattle.theory.specs.New.{down_spares, up_in, down_in}
use Rattle.theory.specs.Turns.{acted_turn}
use Rattle.theory.specs.Calm.{succ_of, pred_of, Met, by_own, by_nearer}
use Rattle.theory.proofs.Rounds.{round_gives, Common, among, AllCalm, all_calm_turn}
use Rattle.theory.proofs.Far.{right_turn}

take_ups : (j n : ℕ) (xs : List ℕ) (x : ℕ) → j ≤ n → take j (next_ups n xs x) ≡ next_ups j xs x
take_ups zero n xs x h = refl
take_ups (suc j) zero xs x h = absurd (omega arith)
take_ups (suc j) (suc n) xs x h = ap (λ (l : List ℕ). next_up xs x ∷ l) (take_ups j n xs (next_up xs x) (omega arith))

-- members that are all made from their identifiers
all_made : (g : Member → Member) (f : ℕ → Member) (ms : List Member) → ((m : Member) → In m ms → g m ≡ f m.id) → map g ms ≡ map f (ids ms)
all_made g f [] h = refl
all_made g f (m ∷ ms) h = ap₂ (λ (k : Member) (l : List Member). k ∷ l) (h m (here refl)) (all_made g f ms (λ k i. h k (there i)))

module _ (xs : List ℕ) (rise : Rising xs) (some : 1 ≤ length xs) (pr : ℕ → Bool) (r : ℕ) where
  abbrev list_of : Table → ℕ → List ℕ
  list_of T x = (named T.members x).successors

  -- of every list the first k entries are right, and the successor in any case
  pub record Right (k : ℕ) (T : Table) : Type 0 where
    pub all : AllCalm r xs pr T
    pub first : (x : ℕ) → In x xs → succ_of T x ≡ next_up xs x
    pub lists : (x : ℕ) → In x xs → take k (list_of T x) ≡ next_ups k xs x

  module _ (k n : ℕ) (T : Table) (i : In n xs) (v : Right k T) where
    list_own : list_of (after_turn n T) n ≡ next_up xs n ∷ without_last (list_of T (next_up xs n))
    list_own = right_turn xs rise pr r some n T i v.all (v.first n i)

    list_other : (x : ℕ) → (x ≡ n → ⊥) → list_of (after_turn n T) x ≡ list_of T x
    list_other x d = let c = v.all.common in ((acted_turn n T c.kept (among r xs pr c i)).others x d).list

    long : (x : ℕ) → In x xs → length (list_of T x) ≡ r
    long x j =
        let c = v.all.common in
        let f = found T.members (among r xs pr c j) in
        (c.kept.formed.each (named T.members x) f.0).list_length ∙ c.is_r

    -- one entry more than before, of r
    own : (j : ℕ) → j ≤ k → suc j ≤ r → take (suc j) (list_of (after_turn n T) n) ≡ next_ups (suc j) xs n
    own j h l =
        let z = next_up xs n in
        let iz = up_in xs some n in
        ap (take (suc j)) list_own ∙ ap (λ (l : List ℕ). z ∷ l)
        (take-take j (length (list_of T z) - 1) (list_of T z) (omega (arith, long z iz)) ∙ sym (take-take j k (list_of T z) h) ∙ ap (take j) (v.lists z iz) ∙ take_ups j k xs z h)

    other : (j x : ℕ) → (x ≡ n → ⊥) → take j (list_of T x) ≡ next_ups j xs x → take j (list_of (after_turn n T) x) ≡ next_ups j xs x
    other j x d e = ap (take j) (list_other x d) ∙ e

    kept_turn : k ≤ r → Right k (after_turn n T)
    kept_turn le = record { all = all_calm_turn r xs pr n T i v.all; first = λ x j. head x j (equal? x n); lists = λ x j. entries k le (λ j h. own j (omega arith)) x j (equal? x n) (v.lists x j) }
      where
        head : (x : ℕ) → In x xs → (x ≡ n) ⊎ (x ≡ n → ⊥) → succ_of (after_turn n T) x ≡ next_up xs x
        head x j (inl e) = rw e (ap (λ (l : List ℕ). get_or l 0 0) list_own)
        head x j (inr d) = ap (λ (l : List ℕ). get_or l 0 0) (list_other x d) ∙ v.first x j

        entries : (k : ℕ) → k ≤ r → ((j : ℕ) → suc j ≤ k → suc j ≤ r → take (suc j) (list_of (after_turn n T) n) ≡ next_ups (suc j) xs n) → (x : ℕ) → In x xs
            → (x ≡ n) ⊎ (x ≡ n → ⊥) → take k (list_of T x) ≡ next_ups k xs x → take k (list_of (after_turn n T) x) ≡ next_ups k xs x
        entries zero le f x j e q = refl
        entries (suc k) le f x j (inl e) q = rw e (f k (omega arith) le)
        entries (suc k) le f x j (inr d) q = other (suc k) x d q

  -- a round more, an entry more
  pub right_round : (k : ℕ) (T : Table) → suc k ≤ r → Right k T → Right (suc k) (after_round T)
  right_round k T le v =
      let g = round_gives xs (Right k) (λ x U. take (suc k) (list_of U x) ≡ next_ups (suc k) xs x) (λ n U i u. kept_turn k n U i u (omega arith))
      (λ n U i u. own k n U i u k (omega arith) le) (λ n x U i j d u e. other k n U i u (suc k) x d e) T v.all.common.is_ids v in
      record { all = g.0.all; first = g.0.first; lists = g.1 }

  pub rest_round : (T : Table) → Right r T → Right r (after_round T)
  rest_round T v = (round_gives xs (Right r) (λ x U. Unit {0}) (λ n U i u. kept_turn r n U i u (omega arith)) (λ n U i u. tt) (λ n x U i j d u e. tt) T v.all.common.is_ids v).0

  -- predecessors are right where successors are, for they are met
  right_predecessor : (k : ℕ) (T : Table) → Right k T → (x : ℕ) → In x xs → pred_of T x ≡ next_down xs x
  right_predecessor k T v x i = go (rw is_x at (v.all.calm d id).met)
    where
      d : ℕ
      d = next_down xs x

      id : In d xs
      id = down_in xs some x

      is_x : succ_of T d ≡ x
      is_x = v.first d id ∙ next_up_law d x xs rise i (λ q k. down_spares xs rise x q i k)

      go : Met T d x → pred_of T x ≡ d
      go (by_own e) = e
      go (by_nearer j h) = absurd (inside_outside h (down_spares xs rise x (pred_of T x) i (rw v.all.common.is_ids at j)))

  -- where all entries are right, all is, but for the step counts
  pub rest_members : (T : Table) → Right r T → map (with_steps 0) T.members ≡ map (new_member r xs) xs
  rest_members T v = subst (λ (l : List ℕ). map (with_steps 0) T.members ≡ map (new_member r xs) l) c.is_ids (all_made (with_steps 0) (new_member r xs) T.members made)
    where
      c : Common r xs pr T
      c = v.all.common

      made : (m : Member) → In m T.members → with_steps 0 m ≡ new_member r xs m.id
      made m i =
          let f = c.kept.formed.each m i in
          let ix : In m.id xs = rw c.is_ids at (in_ids i) in
          let q = named_in T.members (rising_nodup (ids T.members) c.kept.formed.ids_rising) i in
          let none : m.pending ≡ 0 = omega (arith, f.pending_bit, eqb-false m.pending 1 (subst (λ (u : Member). is_pending u ≡ false) q (v.all.calm m.id ix).quiet)) in
          let list : m.successors ≡ next_ups r xs m.id = sym (take_all r m.successors (omega (arith, f.list_length, c.is_r)))
          ∙ subst (λ (u : Member). take r u.successors ≡ next_ups r xs m.id) q (v.lists m.id ix) in
          let down : m.predecessor ≡ next_down xs m.id = subst (λ (u : Member). u.predecessor ≡ next_down xs m.id) q (right_predecessor r T v m.id ix) in
          λ k. record { id = m.id; predecessor = down k; pending = none k; candidate = f.no_candidate none k; successors = list k; steps = 0 }
