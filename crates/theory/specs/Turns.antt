-- What the steps and notices of one member n may change of a table, and so a turn of n, and turns of several members: sound stays sound, the
-- principals stay principals, no other member's list or pending moves, and a live predecessor gives way only to a member between.
use Rattle.std.specs.Prelude.{◌≡◌, ◌⊎◌, Bool, not, ◌||◌, List, [], ◌∷◌, ℕ, zero, suc, ◌<◌, eqb, length, if◌then◌else◌}
use Rattle.std.proofs.Math.Path.{refl}
use Rattle.std.proofs.Common.{sym, ap, subst, ◌∙◌, inl, inr}
use Rattle.std.proofs.Math.Bool.{true, false}
use Rattle.model.specs.Lists.{contains}
use Rattle.model.specs.Identifier.{between}
use Rattle.model.specs.Table.{Member, Table, space_of, size, ids}
use Rattle.model.specs.Ring.{live, named, is_pending, principal}
use Rattle.model.specs.Steps.{with_predecessor, stabilize, replaced, stabilized, renews, rectify_in, rectified, count_step}
use Rattle.model.specs.Settle.{delivered, is_done, last_step, finished, until_done, after_turn, after_turns, after_round, after_rounds}
use Rattle.laws.specs.Order.{equal?, Inside, true_inside}
use Rattle.laws.specs.Lists.{In, here, there, length_ids, found, live_in, in_live}
use Rattle.laws.specs.Stabilize.{same_id, same_predecessor}
use Rattle.laws.specs.Rectify.{rectify_same}
use Rattle.theory.specs.Keep.{Kept, changed_principal, replaced_ids, replaced_named, replaced_others, replaced_changed}
use Rattle.theory.specs.Forms.{small}
use Rattle.theory.specs.Steps.{stabilize_fresh, stabilized_kept, rectify_fresh, rectified_kept}

-- the predecessor p of x stays, or becomes n, which is between p and x, or p is no member
pub data Predecessor (ms : List Member) (n x p q : ℕ) : Type 0 where
  stays : q ≡ p → Predecessor ms n x p q
  dead : q ≡ n → live ms p ≡ false → Predecessor ms n x p q
  nearer : q ≡ n → Inside p n x → Predecessor ms n x p q

-- the list and what is pending are as they were
pub record SameList (u v : Member) : Type 0 where
  pub list : u.successors ≡ v.successors
  pub is_pending_law : is_pending u ≡ is_pending v

-- what turns keep of the table T
pub record Lasts (T T' : Table) : Type 0 where
  pub kept : Kept T'
  pub same_r : T'.r ≡ T.r
  pub same_space : space_of T' ≡ space_of T
  pub same_ids : ids T'.members ≡ ids T.members
  pub principals_stay : (q : ℕ) → In q (ids T.members) → principal T.members q ≡ true → principal T'.members q ≡ true

-- T' is T after steps and notices of n
pub record Acted (n : ℕ) (T T' : Table) : Type 0 where
  pub lasts : Lasts T T'
  pub others : (x : ℕ) → (x ≡ n → ⊥) → SameList (named T'.members x) (named T.members x)
  pub predecessors : (x : ℕ) → Predecessor T.members n x (named T.members x).predecessor (named T'.members x).predecessor

pub lasts_none : (T : Table) → Kept T → Lasts T T
lasts_none T k = record { kept = k; same_r = refl; same_space = refl; same_ids = refl; principals_stay = λ q i h. h }

pub lasts_trans : {T U X : Table} → Lasts T U → Lasts U X → Lasts T X
lasts_trans a b = record {
  kept = b.kept;
  same_r = b.same_r ∙ a.same_r;
  same_space = b.same_space ∙ a.same_space;
  same_ids = b.same_ids ∙ a.same_ids;
  principals_stay = λ q i h. b.principals_stay q (rw a.same_ids i) (a.principals_stay q i h);
}

-- and its size
pub same_size : {T U : Table} → Lasts T U → size U ≡ size T
same_size {T} {U} a = let q : length U.members ≡ length T.members = sym (length_ids U.members) ∙ ap length a.same_ids ∙ length_ids T.members in rw (q, a.same_r)

acted_none : (n : ℕ) (T : Table) → Kept T → Acted n T T
acted_none n T k = record { lasts = lasts_none T k; others = λ x d. record { list = refl; is_pending_law = refl }; predecessors = λ x. stays refl }

predecessor_trans : (ms ns : List Member) (n x p q s : ℕ) → ids ns ≡ ids ms → Predecessor ms n x p q → Predecessor ns n x q s → Predecessor ms n x p s
predecessor_trans ms ns n x p q s e (stays a) (stays b) = stays (b ∙ a)
predecessor_trans ms ns n x p q s e (stays a) (dead b d) = dead b (subst (λ (xs : List ℕ). contains xs p ≡ false) e (subst (λ (z : ℕ). live ns z ≡ false) a d))
predecessor_trans ms ns n x p q s e (stays a) (nearer b i) = nearer b (subst (λ (z : ℕ). Inside z n x) a i)
predecessor_trans ms ns n x p q s e (dead a d) (stays b) = dead (b ∙ a) d
predecessor_trans ms ns n x p q s e (dead a d) (dead b c) = dead b d
predecessor_trans ms ns n x p q s e (dead a d) (nearer b i) = dead b d
predecessor_trans ms ns n x p q s e (nearer a i) (stays b) = nearer (b ∙ a) i
predecessor_trans ms ns n x p q s e (nearer a i) (dead b c) = nearer b i
predecessor_trans ms ns n x p q s e (nearer a i) (nearer b j) = nearer b i

acted_trans : {n : ℕ} {T U X : Table} → Acted n T U → Acted n U X → Acted n T X
acted_trans {n} {T} {U} {X} a b = record {
  lasts = lasts_trans a.lasts b.lasts;
  others = λ x d. record { list = (b.others x d).list ∙ (a.others x d).list; is_pending_law = (b.others x d).is_pending_law ∙ (a.others x d).is_pending_law };
  predecessors = λ x. predecessor_trans T.members U.members n x _ _ _ a.lasts.same_ids (a.predecessors x) (b.predecessors x);
}

-- What the steps and notices leave of a record

-- a notice writes nothing else, and by its rule
rectify_list : (ms : List Member) (q : ℕ) (m : Member) → SameList (rectify_in ms q m) m
rectify_list ms q m = let s = rectify_same ms q m in record { list = s.list; is_pending_law = ap (λ (p : ℕ). eqb p 1) s.pending }

rectify_predecessor : (ms : List Member) (q x : ℕ) (m : Member) → m.id ≡ x → Predecessor ms q x m.predecessor (rectify_in ms q m).predecessor
unfolding renews
rectify_predecessor ms q x m e = go (between m.predecessor q m.id) refl (live ms m.predecessor) refl
  where
    go : (a : Bool) → between m.predecessor q m.id ≡ a → (b : Bool) → live ms m.predecessor ≡ b
        → Predecessor ms q x m.predecessor (if a || not b then with_predecessor q m else m).predecessor
    go true ea b eb = nearer refl (rw e at (true_inside m.predecessor q m.id ea))
    go false ea true eb = stays refl
    go false ea false eb = dead refl eb

module _ (T : Table) (k : Kept T) (n : ℕ) (i : In n (ids T.members)) where
  -- one record in its place
  module _ (v : Member) (e : v.id ≡ n) where
    placed : named (replaced v T.members) n ≡ v
    placed = subst (λ (x : ℕ). named (replaced v T.members) x ≡ v) e (replaced_named v T.members (subst (λ (x : ℕ). In x (ids T.members)) (sym e) i))

    elsewhere : (x : ℕ) → (x ≡ n → ⊥) → named (replaced v T.members) x ≡ named T.members x
    elsewhere x d = replaced_others v x T.members (λ q. d (sym q ∙ e))

    at_place : (P : ℕ → Member → Type 0) → P n v → ((x : ℕ) → (x ≡ n → ⊥) → P x (named T.members x)) → (x : ℕ) → P x (named (replaced v T.members) x)
    at_place P own left x = go (equal? x n)
      where
        go : (x ≡ n) ⊎ (x ≡ n → ⊥) → P x (named (replaced v T.members) x)
        go (inl q) = rw (q, placed) own
        go (inr d) = rw (elsewhere x d) (left x d)

  -- a stabilize step of n

  stepped_id : (stabilize (space_of T) T.members (named T.members n)).id ≡ n
  stepped_id = same_id T.members (named T.members n) (space_of T) ∙ (found T.members i).1

  pub stepped_named : named (stabilized n T).members n ≡ count_step (stabilize (space_of T) T.members (named T.members n))
  stepped_named = placed (count_step (stabilize (space_of T) T.members (named T.members n))) stepped_id

  pub acted_step : Acted n T (stabilized n T)
  acted_step =
      let ms = T.members in
      let v = count_step (stabilize (space_of T) ms (named ms n)) in
      record {
        lasts = record {
          kept = stabilized_kept T k n (in_live ms i);
          same_r = refl;
          same_space = refl;
          same_ids = replaced_ids v ms;
          principals_stay = changed_principal T v (replaced v ms) (stabilize_fresh T k (named ms n) (found ms i).0) (replaced_changed v ms);
        };
        others = λ x d. rw (elsewhere v stepped_id x d) (record { list = refl; is_pending_law = refl });
        predecessors = at_place v stepped_id (λ x m. Predecessor ms n x (named ms x).predecessor m.predecessor) (stays (same_predecessor ms (named ms n) (space_of T))) (λ x d. stays refl);
      }

  -- a notice of q to n

  noticed_id : (q : ℕ) → (rectify_in T.members q (named T.members n)).id ≡ n
  noticed_id q = (rectify_same T.members q (named T.members n)).id ∙ (found T.members i).1

  pub noticed_named : (q : ℕ) → named (rectified n q T).members n ≡ rectify_in T.members q (named T.members n)
  noticed_named q = placed (rectify_in T.members q (named T.members n)) (noticed_id q)

  -- it changes no list
  pub noticed_list : (q x : ℕ) → SameList (named (rectified n q T).members x) (named T.members x)
  noticed_list q = at_place (rectify_in T.members q (named T.members n)) (noticed_id q) (λ x m. SameList m (named T.members x))
      (rectify_list T.members q (named T.members n)) (λ x d. record { list = refl; is_pending_law = refl })

  pub acted_notice : (q : ℕ) → q < space_of T → Acted q T (rectified n q T)
  acted_notice q hq =
      let ms = T.members in
      let v = rectify_in ms q (named ms n) in
      record {
        lasts = record {
          kept = rectified_kept T k n q hq (in_live ms i);
          same_r = refl;
          same_space = refl;
          same_ids = replaced_ids v ms;
          principals_stay = changed_principal T v (replaced v ms) (rectify_fresh T k (named ms n) (found ms i).0 q hq) (replaced_changed v ms);
        };
        others = λ x d. noticed_list q x;
        predecessors = at_place v (noticed_id q) (λ x m. Predecessor ms q x (named ms x).predecessor m.predecessor) (rectify_predecessor ms q n (named ms n) (found ms i).1) (λ x d. stays refl);
      }

-- A turn

module _ (n : ℕ) where
  -- a notice delivered, or lost
  pub acted_delivered : (h : ℕ) (T : Table) → Kept T → In n (ids T.members) → Acted n T (delivered n h T)
  unfolding delivered
  acted_delivered h T k i = go (live T.members h) refl
    where
      go : (b : Bool) → live T.members h ≡ b → Acted n T (if b then rectified h n T else T)
      go true e = acted_notice T k h (live_in T.members h e) n (small T k.formed n i)
      go false e = acted_none n T k

  -- it changes no list
  pub delivered_list : (h : ℕ) (T : Table) → Kept T → (x : ℕ) → SameList (named (delivered n h T).members x) (named T.members x)
  unfolding delivered
  delivered_list h T k x = go (live T.members h) refl
    where
      go : (b : Bool) → live T.members h ≡ b → SameList (named (if b then rectified h n T else T).members x) (named T.members x)
      go true e = noticed_list T k h (live_in T.members h e) n x
      go false e = record { list = refl; is_pending_law = refl }

  -- n is a member still
  pub stays_in : {T T' : Table} → Acted n T T' → In n (ids T.members) → In n (ids T'.members)
  stays_in a i = rw a.lasts.same_ids i

  pub acted_last : (T : Table) → Kept T → In n (ids T.members) → Acted n T (last_step n T)
  unfolding last_step
  acted_last T k i = let a = acted_step T k n i in acted_trans a (acted_delivered _ (stabilized n T) a.lasts.kept (stays_in a i))

  pub acted_finished : (T : Table) → Kept T → In n (ids T.members) → Acted n T (finished n T)
  unfolding finished
  acted_finished T k i = go (is_pending (named T.members n))
    where
      go : (b : Bool) → Acted n T (if b then last_step n T else T)
      go true = acted_last T k i
      go false = acted_none n T k

  pub acted_until : (f : ℕ) (T : Table) → Kept T → In n (ids T.members) → Acted n T (until_done f n T)
  acted_until zero T k i = acted_none n T k
  acted_until (suc f) T k i = go (is_done n T) (acted_until f (stabilized n T))
    where
      go : (b : Bool) → (Kept (stabilized n T) → In n (ids (stabilized n T).members) → Acted n (stabilized n T) (until_done f n (stabilized n T)))
          → Acted n T (if b then last_step n T else until_done f n (stabilized n T))
      go true ih = acted_last T k i
      go false ih = let a = acted_step T k n i in acted_trans a (ih a.lasts.kept (stays_in a i))

  pub acted_turn : (T : Table) → Kept T → In n (ids T.members) → Acted n T (after_turn n T)
  unfolding after_turn
  acted_turn T k i = let a = acted_finished T k i in acted_trans a (acted_until (suc T.r) (finished n T) a.lasts.kept (stays_in a i))

-- Turns and rounds

pub turns_last : (ns : List ℕ) (T : Table) → Kept T → ((n : ℕ) → In n ns → In n (ids T.members)) → Lasts T (after_turns ns T)
turns_last [] T k f = lasts_none T k
turns_last (n ∷ ns) T k f = let a = (acted_turn n T k (f n (here refl))).lasts in lasts_trans a (turns_last ns (after_turn n T) a.kept (λ m i. rw a.same_ids (f m (there i))))

pub round_lasts : (T : Table) → Kept T → Lasts T (after_round T)
unfolding after_round
round_lasts T k = turns_last (ids T.members) T k (λ n i. i)

pub rounds_last : (j : ℕ) (T : Table) → Kept T → Lasts T (after_rounds j T)
rounds_last zero T k = lasts_none T k
rounds_last (suc j) T k = let a = round_lasts T k in lasts_trans a (rounds_last j (after_round T) a.kept)
