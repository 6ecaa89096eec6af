-- The proof of what Alike states of a no: a difference in predecessors, one of which is a member, is told by a loss and a notice.
use Rattle.std.specs.Prelude.{◌≡◌, refl, Bool, true, false, not, ◌||◌, List, [], ◌∷◌, ℕ, zero, suc, eqb, get_or, if◌then◌else◌}
use Rattle.std.proofs.Common.{sym, ap, subst, ◌∙◌, arith, eqb-true}
use Rattle.std.proofs.lemmas.Bool.{eqb-false, not-true}
use Rattle.model.specs.Lists.{contains, bit}
use Rattle.model.specs.Identifier.{between}
use Rattle.model.specs.Table.{Member, Table, table_of, members_in, ids, well_formed}
use Rattle.model.specs.Ring.{live, named}
use Rattle.model.specs.Answer.{Answer, accepted, afterwards}
use Rattle.model.specs.Steps.{renews, is_named, staying, without}
use Rattle.model.specs.Refusals.{member_refusal}
use Rattle.model.specs.Calls.{written_freed, rectify_answer, fail_words}
use Rattle.model.specs.Run.{Fail, Rectify, call_answer, call_words}
use Rattle.model.specs.Service.{Called, service_answer, service_words, answers}
use Rattle.laws.specs.Order.{start_outside, round_inside}
use Rattle.laws.specs.Lists.{true_or, found, live_in, in_live, not_contains, select_in, rising_nodup}
use Rattle.laws.specs.Accepted.{member_accepted, member_accepts}
use Rattle.laws.specs.Tables.{well_formed_facts}
use Rattle.laws.specs.Removed.{staying_named, without_keeps}
use Rattle.theory.specs.Alike.{PredecessorsTold}
use Rattle.theory.specs.Forms.{without_leaves}

-- A notice of p to n

module _ (ws : List ℕ) (w : well_formed ws ≡ true) (n : ℕ) (l : live (members_in ws) n ≡ true) (m : Member) (e : named (members_in ws) n ≡ m) (p : ℕ) where
  is_n : m.id ≡ n
  is_n = ap (λ (k : Member). k.id) (sym e) ∙ (found (members_in ws) (live_in (members_in ws) n l)).1

  told : (b : Bool) → (between m.predecessor p n || not (live (members_in ws) m.predecessor)) ≡ b → rectify_answer ws n p ≡ accepted (bit b ∷ [])
  unfolding rectify_answer renews
  told b h = rw (member_accepts ws n w l, e, is_n, h)

  told_same : m.predecessor ≡ p → live (members_in ws) p ≡ true → rectify_answer ws n p ≡ accepted (0 ∷ [])
  told_same q a = told false (rw (q, start_outside p n, a))

  told_own : m.predecessor ≡ n → (p ≡ n → ⊥) → rectify_answer ws n p ≡ accepted (1 ∷ [])
  told_own q d = told true (rw (q, round_inside p n d))

  told_dead : live (members_in ws) m.predecessor ≡ false → rectify_answer ws n p ≡ accepted (1 ∷ [])
  told_dead a = told true (rw a (true_or (between m.predecessor p n) refl))

-- The loss of q

-- us is ws after it: q is no member, accepted or not, and all others are as they were
record Lost (ws us : List ℕ) (q : ℕ) : Type 0 where
  formed : well_formed us ≡ true
  dead : live (members_in us) q ≡ false
  others : (x : ℕ) → (x ≡ q → ⊥) → live (members_in ws) x ≡ true → (live (members_in us) x ≡ true) × (named (members_in us) x ≡ named (members_in ws) x)

gone : (q : ℕ) (ms : List Member) → live (staying (is_named q) ms) q ≡ false
gone q ms = not_contains q (ids (staying (is_named q) ms)) (λ i. let f = found (staying (is_named q) ms) i in eqb-false _ q (not-true _ (select_in (λ m. not (is_named q m)) ms f.0).1) f.1)

lost : (ws : List ℕ) → well_formed ws ≡ true → (q : ℕ) → Lost ws (fail_words ws q) q
unfolding fail_words
lost ws w q = go (member_refusal ws q) refl
  where
    ms : List Member
    ms = members_in ws

    go : (k : ℕ) → member_refusal ws q ≡ k → Lost ws (afterwards k (written_freed (without q (table_of ws)) ws) ws) q
    go zero e =
        let a = without_leaves ws q w (member_accepted ws q e) in
        let t : members_in (written_freed (without q (table_of ws)) ws) ≡ staying (is_named q) ms = ap (λ (T : Table). T.members) a.table in
        record {
          formed = a.is_well_formed;
          dead = ap (λ (ns : List Member). live ns q) t ∙ gone q ms;
          others = λ x d l.
              let i = without_keeps q x ms (live_in ms x l) d in (
                ap (λ (ns : List Member). live ns x) t ∙ in_live (staying (is_named q) ms) i,
                ap (λ (ns : List Member). named ns x) t ∙ staying_named (is_named q) x ms (rising_nodup (ids ms) (well_formed_facts ws w).table.ids_rising) i,
              );
        }
    go (suc k) e = record { formed = w; dead = none (live ms q) refl; others = λ x d l. (l, refl) }
      where
        none : (b : Bool) → live ms q ≡ b → live ms q ≡ false
        none true l = absurd (omega (arith, e, member_accepts ws q w l))
        none false l = l

-- Both

-- the first value of an answer, and of a list's answer k
abbrev first : Answer → ℕ
first a = get_or a.values 0 0

abbrev value : ℕ → List Answer → ℕ
value k l = first (get_or l k (accepted []))

apart : (k : ℕ) (l m : List Answer) → value k l ≡ 0 → value k m ≡ 1 → l ≡ m → ⊥
apart k l m h j e = omega (arith, ap (value k) e)

pub predecessors_told : PredecessorsTold
unfolding answers service_answer service_words call_answer call_words
predecessors_told us vs w x same n l d a = go (eqb q n) refl
  where
    p : ℕ
    p = (named (members_in us) n).predecessor

    q : ℕ
    q = (named (members_in vs) n).predecessor

    both : live (members_in vs) n ≡ true
    both = subst (λ (xs : List ℕ). contains xs n ≡ true) same l

    go : (b : Bool) → eqb q n ≡ b → answers (if b then Called (Rectify n p) ∷ [] else Called (Fail q) ∷ Called (Rectify n p) ∷ []) us
        ≡ answers (if b then Called (Rectify n p) ∷ [] else Called (Fail q) ∷ Called (Rectify n p) ∷ []) vs → ⊥
    go true e t =
        let own = eqb-true q n e in
        let c = told_same us w n l (named (members_in us) n) refl p refl a in
        let f = told_own vs x n both (named (members_in vs) n) refl p own (λ r. d (r ∙ sym own)) in
        apart 0 _ _ (ap first c) (ap first f) t
    go false e t =
        let other = eqb-false q n e in
        let u = lost us w q in
        let v = lost vs x q in
        let un = u.others n (λ r. other (sym r)) l in
        let vn = v.others n (λ r. other (sym r)) both in
        let c = told_same (fail_words us q) u.formed n un.0 (named (members_in us) n) un.1 p refl (u.others p d a).0 in
        let f = told_dead (fail_words vs q) v.formed n vn.0 (named (members_in vs) n) vn.1 p v.dead in
        apart 1 _ _ (ap first c) (ap first f) t
