-- How far the principals are from a wrong successor: one member further with every round. So after as many rounds as there are members that are no principals, and
-- one more, no successor is wrong.
use Rattle.std.specs.Prelude.{◌≡◌, refl, ◌⊎◌, Bool, true, false, not, List, [], ◌∷◌, ℕ, zero, suc, ◌≤◌, length, get_or}
use Rattle.std.proofs.Common.{sym, ap, ◌∙◌, inl, inr, true≢false, arith}
use Rattle.model.specs.Lists.{select, count, without_last}
use Rattle.model.specs.Table.{Table, ids}
use Rattle.model.specs.Ring.{named, next_up, next_down}
use Rattle.model.specs.Settle.{after_turn, after_round}
use Rattle.laws.specs.Order.{equal?, Inside, Outside, below, beyond, rest, mid, high, low, inside_outside, inside_ends, Before, before_trans, before_irrefl, onward}
use Rattle.laws.specs.Lists.{In, found, here, there, in_cons, in_nil, NoDup, pigeonhole, in_select, select_count, Rising}
use Rattle.theory.specs.Entries.{Clear, principal_clear, of_named}
use Rattle.theory.proofs.Static.{next_up_law}
use Rattle.theory.specs.New.{up_spares, down_spares, up_in, down_in}
use Rattle.theory.specs.Turns.{acted_turn}
use Rattle.theory.specs.Calm.{succ_of, pred_of, Met, by_own, by_nearer}
use Rattle.theory.proofs.Calm.{other_side, not_own}
use Rattle.theory.proofs.Rounds.{Turned, turned, round_gives, Common, among, AllCalm, all_calm_turn}

-- Order: the way up from y to v, with u not passed
short_step : {n y u v : ℕ} → Inside n y u → Outside y u v → (v ≡ u) ⊎ Inside n v u
short_step {n} {y} {u} {v} i o = go (equal? v u) i o
  where
    go : (v ≡ u) ⊎ (v ≡ u → ⊥) → Inside n y u → Outside y u v → (v ≡ u) ⊎ Inside n v u
    go (inl e) i o = inl e
    go (inr d) (mid a b) (below c e) = absurd (omega arith)
    go (inr d) (mid a b) (beyond c e) = inr (mid (omega arith) (omega arith))
    go (inr d) (mid a b) (rest c e) = absurd (omega arith)
    go (inr d) (high a b) (below c e) = inr (high a (omega arith))
    go (inr d) (high a b) (beyond c e) = absurd (omega arith)
    go (inr d) (high a b) (rest c e) = inr (low (omega arith) a)
    go (inr d) (low a b) (below c e) = absurd (omega arith)
    go (inr d) (low a b) (beyond c e) = inr (low (omega arith) b)
    go (inr d) (low a b) (rest c e) = absurd (omega arith)

-- u is not passed on the way from d to z, and is neither: so z is passed on the way to u
passed_on : {d u z : ℕ} → Outside d u z → (u ≡ z → ⊥) → (d ≡ u → ⊥) → Inside d z u
passed_on (below a b) p q = high (omega arith) b
passed_on (beyond a b) p q = mid a (omega arith)
passed_on (rest a b) p q = low (omega arith) (omega arith)

head_clear : (q a : ℕ) (l : List ℕ) → 1 ≤ length l → Clear q a l → Outside a q (get_or l 0 0)
head_clear q a [] h c = absurd (omega arith)
head_clear q a (b ∷ l) h c = c.0

-- The members xs, some of them principals of the first table
module _ (xs : List ℕ) (rise : Rising xs) (pr : ℕ → Bool) where
  -- z and the next members up, m in all, are no principals
  abbrev pub Far : ℕ → ℕ → Type 0
  Far zero z = Unit {0}
  Far (suc m) z = (pr z ≡ false) × Far m (next_up xs z)

  far_less : (m z : ℕ) → Far (suc m) z → Far m z
  far_less zero z f = tt
  far_less (suc m) z f = (f.0, far_less m (next_up xs z) f.1)

  -- nothing on the way from n to u is a principal: so from a member y on that way it is one more than from u
  far_fill : (n u : ℕ) → In u xs → ((q : ℕ) → In q xs → Inside n q u → pr q ≡ false) → (k y : ℕ) → In y xs → Inside n y u → Far k u → Far (suc k) y
  far_fill n u iu none zero y iy h f = (none y iy h, tt)
  far_fill n u iu none (suc k) y iy h f = (none y iy h, go (short_step h (up_spares xs rise y u iu)) (λ i. far_fill n u iu none k (next_up xs y) (up_in xs (long iy) y) i (far_less k u f)))
    where
      long : {x : ℕ} {l : List ℕ} → In x l → 1 ≤ length l
      long (here e) = omega arith
      long (there i) = omega arith

      go : (next_up xs y ≡ u) ⊎ Inside n (next_up xs y) u → (Inside n (next_up xs y) u → Far (suc k) (next_up xs y)) → Far (suc k) (next_up xs y)
      go (inl e) ih = rw e f
      go (inr i) ih = ih i

  -- of all members some are no principals, and no more than those can stand before the first that is one
  module _ (some : 1 ≤ length xs) (p : ℕ) (ip : In p xs) (ep : pr p ≡ true) where
    record Apart (m y : ℕ) : Type 0 where
      these : List ℕ
      many : length these ≡ m
      different : NoDup these
      members : (x : ℕ) → In x these → In x xs
      none : (x : ℕ) → In x these → pr x ≡ false
      ahead : (x : ℕ) → In x these → (x ≡ y) ⊎ Before (suc p) y x

    apart : (m y : ℕ) → In y xs → Far m y → Apart m y
    apart zero y i f = record { these = []; many = refl; different = tt; members = λ x j. absurd (in_nil j); none = λ x j. absurd (in_nil j); ahead = λ x j. absurd (in_nil j) }
    apart (suc m) y i f = go (apart m (next_up xs y) (up_in xs some y) f.1)
      where
        -- the way to the next member up does not pass p
        on : Before (suc p) y (next_up xs y)
        on = onward (up_spares xs rise y p ip) (λ e. true≢false (sym ep ∙ sym (ap pr e) ∙ f.0))

        go : Apart m (next_up xs y) → Apart (suc m) y
        go a = record {
          these = y ∷ a.these;
          many = ap suc a.many;
          different = (λ j. before_irrefl (later y j), a.different);
          members = λ x j. mem x (in_cons j);
          none = λ x j. non x (in_cons j);
          ahead = λ x j. on_way x (in_cons j);
        }
          where
            later : (x : ℕ) → In x a.these → Before (suc p) y x
            later x j = further (a.ahead x j)
              where
                further : (x ≡ next_up xs y) ⊎ Before (suc p) (next_up xs y) x → Before (suc p) y x
                further (inl e) = rw e on
                further (inr b) = before_trans on b

            mem : (x : ℕ) → (x ≡ y) ⊎ In x a.these → In x xs
            mem x (inl e) = rw e i
            mem x (inr j) = a.members x j

            non : (x : ℕ) → (x ≡ y) ⊎ In x a.these → pr x ≡ false
            non x (inl e) = rw e f.0
            non x (inr j) = a.none x j

            on_way : (x : ℕ) → (x ≡ y) ⊎ In x a.these → (x ≡ y) ⊎ Before (suc p) y x
            on_way x (inl e) = inl e
            on_way x (inr j) = inr (later x j)

    far_few : (m y : ℕ) → In y xs → Far m y → m ≤ count (λ x. not (pr x)) xs
    far_few m y i f =
        let a = apart m y i f in
        omega (
          arith,
          a.many,
          pigeonhole a.these (select (λ x. not (pr x)) xs) a.different
              (λ x j. in_select (λ x. not (pr x)) (a.members x j) (ap not (a.none x j))),
          select_count (λ x. not (pr x)) xs,
        )

  -- Rounds

  module _ (r : ℕ) (some : 1 ≤ length xs) where
    -- no principal lies between a member and its successor
    skipped : (T : Table) → Common r xs pr T → (n q : ℕ) → In n xs → In q xs → Inside n q (succ_of T n) → pr q ≡ false
    skipped T c n q i j h = go (pr q) refl
      where
        out : pr q ≡ true → Outside n q (succ_of T n)
        out e =
            let f = found T.members (among r xs pr c i) in
            head_clear q n (named T.members n).successors (omega (arith, (c.kept.formed.each (named T.members n) f.0).list_length, c.kept.formed.r_low))
            (of_named (λ y l. Clear q y l) T.members (λ m k. principal_clear q (c.spares q j e) k) (among r xs pr c i))

        go : (b : Bool) → pr q ≡ b → b ≡ false
        go true e = absurd (inside_outside h (out e))
        go false e = refl

    -- the member before a wrong successor z of n: it lies between, so it is no principal
    record Behind (n z : ℕ) : Type 0 where
      before : ℕ
      member : In before xs
      between : Inside n before z
      up : next_up xs before ≡ z

    behind : (n z : ℕ) → In n xs → In z xs → (n ≡ z → ⊥) → (z ≡ next_up xs n → ⊥) → Behind n z
    behind n z i j ne wrong = record { before = next_down xs z; member = down_in xs some z; between = go (other_side (down_spares xs rise z n j i) ne); up = up_of (next_down xs z) refl }
      where
        up_of : (d : ℕ) → next_down xs z ≡ d → next_up xs d ≡ z
        up_of d e = next_up_law d z xs rise j (λ q k. rw e at (down_spares xs rise z q j k))

        go : (next_down xs z ≡ n) ⊎ Inside n (next_down xs z) z → Inside n (next_down xs z) z
        go (inl e) = absurd (wrong (sym (up_of n e)))
        go (inr k) = k

    -- a wrong successor is far
    abbrev Wrong : ℕ → Table → ℕ → Type 0
    Wrong k T x = (succ_of T x ≡ next_up xs x → ⊥) → Far k (succ_of T x)

    pub record Fars (k : ℕ) (T : Table) : Type 0 where
      pub all : AllCalm r xs pr T
      pub far : (x : ℕ) → In x xs → Wrong k T x

    module _ (k : ℕ) (n : ℕ) (T : Table) (i : In n xs) (v : Fars k T) where
      c : Common r xs pr T
      c = v.all.common

      alive : (x : ℕ) → In x xs → In (succ_of T x) xs
      alive x j = rw c.is_ids at (v.all.calm x j).lives

      not_self : (x : ℕ) → In x xs → x ≡ succ_of T x → ⊥
      not_self x j = not_own T c.kept x (among r xs pr c j)

      turn : Turned T (after_turn n T) n
      turn = turned n T c.kept (among r xs pr c i) (v.all.calm n i)

      is_next : succ_of (after_turn n T) n ≡ turn.next
      is_next = ap (λ (l : List ℕ). get_or l 0 0) turn.list

      abbrev Which : Type 0
      Which = ((pred_of T (succ_of T n) ≡ n) × (turn.next ≡ succ_of T n)) ⊎ ((turn.next ≡ pred_of T (succ_of T n)) × In turn.next (ids T.members) × Inside n turn.next (succ_of T n))

      -- a right successor stays
      right_stays : succ_of T n ≡ next_up xs n → Which → turn.next ≡ next_up xs n
      right_stays e (inl h) = h.1 ∙ e
      right_stays e (inr h) = absurd (inside_outside (rw e at h.2) (up_spares xs rise n turn.next (rw c.is_ids at h.1)))

      -- d, the member before the wrong successor, has it for its own: then n takes d
      module _ (wrong : succ_of T n ≡ next_up xs n → ⊥) (b : Behind n (succ_of T n)) where
        d_none : pr b.before ≡ false
        d_none = skipped T c n b.before i b.member b.between

        has_met : succ_of T b.before ≡ succ_of T n → pred_of T (succ_of T n) ≡ b.before
        has_met e = go (rw e at (v.all.calm b.before b.member).met)
          where
            go : Met T b.before (succ_of T n) → pred_of T (succ_of T n) ≡ b.before
            go (by_own q) = q
            go (by_nearer j h) = absurd (inside_outside h (rw b.up at (up_spares xs rise b.before (pred_of T (succ_of T n)) (rw c.is_ids at j))))

        taken : succ_of T b.before ≡ succ_of T n → Which → Far (suc k) turn.next
        taken e (inl h) = absurd ((inside_ends b.between).0 (sym (has_met e) ∙ h.0))
        taken e (inr h) = rw (h.0 ∙ has_met e) (d_none, rw b.up (v.far n i wrong))

        -- or another, which is wrong too, and skips n's
        filled : (succ_of T b.before ≡ succ_of T n → ⊥) → Far (suc k) (succ_of T n)
        filled ne =
            let d = b.before in
            let u = succ_of T d in
            let iu = alive d b.member in
            far_fill d u iu (λ q j h. skipped T c d q b.member j h) k (succ_of T n) (alive n i)
            (passed_on (rw b.up at (up_spares xs rise d u iu)) ne (not_self d b.member)) (v.far d b.member (λ e. ne (e ∙ b.up)))

        further : Far (suc k) (succ_of T n) → Which → Far (suc k) turn.next
        further f (inl h) = rw h.1 f
        further f (inr h) = far_less (suc k) turn.next (far_fill n (succ_of T n) (alive n i) (λ q j h. skipped T c n q i j h) (suc k) turn.next (rw c.is_ids at h.1) h.2 f)

      far_own : Wrong (suc k) (after_turn n T) n
      far_own wrong = rw is_next (go (equal? (succ_of T n) (next_up xs n)))
        where
          sub : (succ_of T n ≡ next_up xs n → ⊥) → (b : Behind n (succ_of T n)) → (succ_of T b.before ≡ succ_of T n) ⊎ (succ_of T b.before ≡ succ_of T n → ⊥) → Far (suc k) turn.next
          sub ne b (inl e) = taken ne b e turn.which
          sub ne b (inr d) = further ne b (filled ne b d) turn.which

          go : (succ_of T n ≡ next_up xs n) ⊎ (succ_of T n ≡ next_up xs n → ⊥) → Far (suc k) turn.next
          go (inl e) = absurd (wrong (is_next ∙ right_stays e turn.which))
          go (inr ne) = let b = behind n (succ_of T n) i (alive n i) (not_self n i) ne in sub ne b (equal? (succ_of T b.before) (succ_of T n))

      far_other : (m x : ℕ) → In x xs → (x ≡ n → ⊥) → Wrong m T x → Wrong m (after_turn n T) x
      far_other m x j d f wrong =
          let e = ap (λ (l : List ℕ). get_or l 0 0) ((acted_turn n T c.kept (among r xs pr c i)).others x d).list in
          rw e (f (λ q. wrong (e ∙ q)))

    fars_turn : (k n : ℕ) (T : Table) → In n xs → Fars k T → Fars k (after_turn n T)
    fars_turn k n T i v = record { all = all_calm_turn r xs pr n T i v.all; far = λ x j. go x j (equal? x n) }
      where
        go : (x : ℕ) → In x xs → (x ≡ n) ⊎ (x ≡ n → ⊥) → Wrong k (after_turn n T) x
        go x j (inl e) = rw e (λ wrong. far_less k _ (far_own k n T i v wrong))
        go x j (inr d) = far_other k n T i v k x j d (v.far x j)

    -- a round more, a member further
    pub fars_round : (k : ℕ) (T : Table) → Fars k T → Fars (suc k) (after_round T)
    fars_round k T v =
        let g = round_gives xs (Fars k) (λ x U. Wrong (suc k) U x) (fars_turn k) (far_own k) (λ n x U i j d u f. far_other k n U i u (suc k) x j d f) T v.all.common.is_ids v in
        record { all = g.0.all; far = g.1 }

    -- none is wrong where even the member before it would be too far
    pub none_wrong : (k : ℕ) (T : Table) → Fars k T → (p : ℕ) → In p xs → pr p ≡ true → count (λ x. not (pr x)) xs ≤ k → (x : ℕ) → In x xs → succ_of T x ≡ next_up xs x
    none_wrong k T v p ip ep h x i = go (equal? (succ_of T x) (next_up xs x))
      where
        go : (succ_of T x ≡ next_up xs x) ⊎ (succ_of T x ≡ next_up xs x → ⊥) → succ_of T x ≡ next_up xs x
        go (inl e) = e
        go (inr ne) =
            let b = behind x (succ_of T x) i (alive k x T i v x i) (not_self k x T i v x i) ne in
            absurd (omega (arith, far_few some p ip ep (suc k) b.before b.member (d_none k x T i v ne b, rw b.up (v.far x i ne))))

    -- a turn of a member whose successor is right: it stays, and its list is followed
    pub right_turn : (n : ℕ) (T : Table) → In n xs → AllCalm r xs pr T → succ_of T n ≡ next_up xs n
        → (named (after_turn n T).members n).successors ≡ next_up xs n ∷ without_last (named T.members (next_up xs n)).successors
    right_turn n T i a e =
        let v : Fars 0 T = record { all = a; far = λ x j ne. tt } in
        let t = turn 0 n T i v in
        t.list ∙ ap (λ (x : ℕ). x ∷ without_last (named T.members x).successors) (right_stays 0 n T i v e t.which)
