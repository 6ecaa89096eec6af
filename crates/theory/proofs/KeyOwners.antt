-- The theorems of which KeyOwners in specs/ has the definitions, with their proofs.
use Rattle.std.specs.Prelude.{◌≡◌, true, List, ℕ, zero, suc}
use Rattle.std.proofs.Common.{sym, inl, inr, arith}
use Rattle.model.specs.Table.{table_of, members_in, ids, well_formed}
use Rattle.model.specs.Ring.{live, on_ring, sound}
use Rattle.model.specs.Calls.{lookup_answer}
use Rattle.laws.specs.Order.{Outside, below, beyond, rest, true_inside, inside_outside, inner_from, Before, upper, lower, across, earlier, together, later, Placed, placed, before_start}
use Rattle.laws.specs.Accepted.{member_accepts}
use Rattle.laws.specs.Lists.{In, live_in}
use Rattle.laws.specs.Iterate.{iterate}
use Rattle.laws.specs.Tables.{Formed, Sound, well_formed_facts, sound_facts}
use Rattle.theory.proofs.Static.{best, best_is, closed, ring_clear, best_on_ring, moved_iterate}
use Rattle.theory.specs.Lookup.{Owned, Answered}
use Rattle.theory.proofs.Lookup.{lookup_answer_answers}
use Rattle.theory.specs.KeyOwners.{AllGiveOne, Owns}

-- Of two moves that own the key and pass none of each other's ends, the ends are one

at_start : {k z b : ℕ} → Before k z b → Outside k z b → z ≡ k
at_start (upper a c) (below d e) = omega arith
at_start (upper a c) (beyond d e) = omega arith
at_start (upper a c) (rest d e) = omega arith
at_start (lower a c) (below d e) = omega arith
at_start (lower a c) (beyond d e) = omega arith
at_start (lower a c) (rest d e) = omega arith
at_start (across a c) (below d e) = omega arith
at_start (across a c) (beyond d e) = omega arith
at_start (across a c) (rest d e) = omega arith

-- nothing outside the move comes before its end on the way from the key
none_before : (q k b z : ℕ) → Owns q k b → Outside q z b → Before k z b → ⊥
none_before q k b z (inl e) o f = before_start (rw e at f)
none_before q k b z (inr t) o f =
    let i = true_inside q k b t in
    let e = at_start f (inner_from i o) in
    inside_outside i (rw e at o)

one_end : (q b p c k : ℕ) → Owns q k b → Owns p k c → Outside q c b → Outside p b c → b ≡ c
one_end q b p c k u v o r = go (placed k b c)
  where
    go : Placed k b c → b ≡ c
    go (earlier f) = absurd (none_before p k c b v r f)
    go (together e) = e
    go (later f) = absurd (none_before q k b c u o f)

module _ (ws : List ℕ) (wf : well_formed ws ≡ true) (s : sound (table_of ws) ≡ true) where
  fo : Formed (table_of ws)
  fo = (well_formed_facts ws wf).table

  so : Sound (table_of ws)
  so = sound_facts (table_of ws) s

  -- find is answered with an owner from every member
  pub owned : (n k : ℕ) → live (members_in ws) n ≡ true → Owned (members_in ws) n k (lookup_answer ws n k)
  owned n k l = go (lookup_answer_answers ws n k (member_accepts ws n wf l))
    where
      go : Answered (members_in ws) n k (lookup_answer ws n k) → Owned (members_in ws) n k (lookup_answer ws n k)
      go (inl o) = o
      go (inr c) = let q : ◌≡◌ {A = ℕ} 0 1 = cc (c.no_move, best_is (table_of ws) fo so (live_in (members_in ws) c.q c.place_live)) in absurd (omega arith)

  -- moves from a ring member stay on the ring
  stays : (i x : ℕ) → In x (ids (members_in ws)) → on_ring (members_in ws) x ≡ true → on_ring (members_in ws) (iterate (best (members_in ws)) i x) ≡ true
  stays zero x j o = o
  stays (suc i) x j o = stays i (best (members_in ws) x) (closed (table_of ws) fo so x j) (best_on_ring (table_of ws) fo so x j o)

  -- where a find from a ring member ends: a ring member, its move, and the key's owner
  record FindEnds (k b : ℕ) : Type 0 where
    q : ℕ
    member : In q (ids (members_in ws))
    on : on_ring (members_in ws) q ≡ true
    to : best (members_in ws) q ≡ b
    owns : Owns q k b

  find_ends : (n k : ℕ) → live (members_in ws) n ≡ true → on_ring (members_in ws) n ≡ true → (o : Owned (members_in ws) n k (lookup_answer ws n k)) → FindEnds k o.b
  find_ends n k l on o =
      let i = live_in (members_in ws) n l in
      let j = live_in (members_in ws) o.q o.place_live in
      let e : iterate (best (members_in ws)) o.moves n ≡ o.q = cc (moved_iterate (table_of ws) fo so o.moves n i, o.leads) in
      let t : best (members_in ws) o.q ≡ o.b = cc (best_is (table_of ws) fo so j, o.move) in
      record { q = o.q; member = j; on = rw e at (stays o.moves n i on); to = t; owns = o.owns }

  end_on : {k b : ℕ} → FindEnds k b → on_ring (members_in ws) b ≡ true
  end_on e = rw e.to at (best_on_ring (table_of ws) fo so e.q e.member e.on)

  -- its move passes no ring member
  clear : {k b : ℕ} → (e : FindEnds k b) (z : ℕ) → live (members_in ws) z ≡ true → on_ring (members_in ws) z ≡ true → Outside e.q z b
  clear e z l o = rw e.to at (ring_clear (table_of ws) fo so e.q z e.member e.on (live_in (members_in ws) z l) o)

  -- all ring members give one owner
  pub one_owner : AllGiveOne ws
  one_owner n m k ln on lm om =
      let a = owned n k ln in
      let b = owned m k lm in
      let c = find_ends n k ln on a in
      let d = find_ends m k lm om b in
      let same : b.b ≡ a.b = sym (one_end c.q a.b d.q b.b k c.owns d.owns (clear c b.b b.owner_live (end_on d)) (clear d a.b a.owner_live (end_on c))) in
      record {
        owner = a.b;
        on = end_on c;
        from_n = record { place = a.q; moves = a.moves; passed = a.passed; answer = a.answer };
        from_m = record { place = b.q; moves = b.moves; passed = b.passed; answer = rw same at b.answer };
      }
