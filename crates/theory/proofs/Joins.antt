-- The theorems of which Joins in specs/ has the definitions, with their proofs.
use Rattle.std.specs.Prelude.{ℕ, zero, suc, ◌≡◌, refl, ◌⊎◌, Bool, true, false, List, [], ◌∷◌, get_or}
use Rattle.std.proofs.Common.{sym, ap, subst, ◌∙◌, inl, inr, true≢false, arith}
use Rattle.std.proofs.Math.Option.{some}
use Rattle.model.specs.Identifier.{between}
use Rattle.model.specs.Table.{Member, table_of, members_in, well_formed}
use Rattle.model.specs.Ring.{live, named, successor, Search, searched, best_successor, ideal}
use Rattle.model.specs.Held.{holder}
use Rattle.model.specs.Answer.{Answer, accepted, answer}
use Rattle.model.specs.Refusals.{join_refusal, member_refusal}
use Rattle.model.specs.Calls.{join_answer, lookup_answer}
use Rattle.model.specs.Steps.{lookup}
use Rattle.laws.specs.Lists.{found, live_in}
use Rattle.laws.specs.Accepted.{answer_number, member_table}
use Rattle.laws.specs.Searches.{found_first}
use Rattle.laws.specs.Tables.{well_formed_facts}
use Rattle.theory.specs.Lookup.{Answered}
use Rattle.theory.proofs.Lookup.{lookup_answer_answers}
use Rattle.theory.specs.KeyOwners.{Finds}
use Rattle.theory.proofs.Held.{ideal_found, finds_holder}
use Rattle.theory.proofs.Passed.{search_tells}
use Rattle.theory.specs.Joins.{live_first, found_join, Admits, FoundJoins}

-- find of j, which is no member, stands at p
record StandsAt (ws : List ℕ) (j p : ℕ) : Type 0 where
  table : well_formed ws ≡ true
  by : live (members_in ws) p ≡ true
  b : ℕ
  move : best_successor (members_in ws) p ≡ some b
  inside : between p j b ≡ true

find_accepted : (ws : List ℕ) (n j owner : ℕ) → Finds ws n j owner → member_refusal ws n ≡ 0
unfolding lookup_answer
find_accepted ws n j owner f = go (member_refusal ws n) f.answer
  where
    go : (c : ℕ) → answer c (lookup (members_in ws) n j) ≡ accepted (owner ∷ f.place ∷ f.moves ∷ f.passed ∷ []) → c ≡ 0
    go zero e = refl
    go (suc c) e = ap (λ (a : Answer). a.number) e

stands_at : (ws : List ℕ) (n j owner : ℕ) → live (members_in ws) j ≡ false → (f : Finds ws n j owner) → StandsAt ws j f.place
stands_at ws n j owner d f = go (lookup_answer_answers ws n j h)
  where
    h : member_refusal ws n ≡ 0
    h = find_accepted ws n j owner f

    inside : (b q : ℕ) → live (members_in ws) b ≡ true → (j ≡ b) ⊎ (between q j b ≡ true) → between q j b ≡ true
    inside b q l (inl e) = absurd (true≢false (sym l ∙ (ap (live (members_in ws)) (sym e) ∙ d)))
    inside b q l (inr t) = t

    go : Answered (members_in ws) n j (lookup_answer ws n j) → StandsAt ws j f.place
    go (inl o) =
        subst (StandsAt ws j) (ap (λ (a : Answer). get_or a.values 1 0) (sym o.answer ∙ f.answer))
        (record { table = member_table ws n h; by = o.place_live; b = o.b; move = o.move; inside = inside o.b o.q o.owner_live o.owns })
    go (inr c) = absurd (omega (arith, ap (λ (a : Answer). a.number) (sym f.answer ∙ c.answer)))

-- so it does on every table, wherever find replies and j is no member
pub found_joins : FoundJoins
unfolding join_answer join_refusal found_join
found_joins ws n j owner d f = answer_number (join_refusal ws j p) _ ∙ go (live_first ws p) refl (between p j first) refl
  where
    p : ℕ
    p = f.place

    first : ℕ
    first = successor (named (members_in ws) p)

    s : StandsAt ws j p
    s = stands_at ws n j owner d f

    -- a live first entry is the one that find went by
    went_by : live_first ws p ≡ true → first ≡ s.b
    went_by l =
        let fo = (well_formed_facts ws s.table).table in
        let i = found (members_in ws) (live_in (members_in ws) p s.by) in
        let e = found_first (members_in ws) (named (members_in ws) p).successors (omega (arith, (fo.each _ i.0).list_length, fo.r_low)) l in
        let g : some first ≡ some s.b = sym (ap (λ (x : Search). x.entry) e) ∙ s.move in
        cc g

    go : (l : Bool) → live_first ws p ≡ l → (t : Bool) → between p j first ≡ t → join_refusal ws j p ≡ found_join ws j p
    go true l true t = rw (s.table, d, s.by, t, l)
    go true l false t = absurd (true≢false (sym s.inside ∙ (ap (between p j) (sym (went_by l)) ∙ t)))
    go false l true t = rw (s.table, d, s.by, t, l)
    go false l false t = rw (s.table, d, s.by, t, l)

pub ideal_joins : (ws : List ℕ) → well_formed ws ≡ true → ideal (table_of ws) ≡ true → (n j : ℕ) → live (members_in ws) n ≡ true → live (members_in ws) j ≡ false → Admits ws n j
unfolding found_join
ideal_joins ws wf h n j l d =
    let f = finds_holder ws wf h n j l in
    let s = stands_at ws n j (holder (members_in ws) j) d f in
    let i = found (members_in ws) (live_in (members_in ws) f.place s.by) in
    let e = first_lives (named (members_in ws) f.place) (ideal_found (table_of ws) (well_formed_facts ws wf).table h i.0) in
    record { owner = holder (members_in ws) j; finds = f; joins = found_joins ws n j (holder (members_in ws) j) d f ∙ rw e }
  where
    first_lives : (m : Member) {y : ℕ} → searched (members_in ws) m.successors ≡ record { entry = some y; passed = 0 } → live (members_in ws) (successor m) ≡ true
    first_lives m {y} e =
        let w = (search_tells (members_in ws) m.successors).next y (ap (λ (x : Search). x.entry) e) in
        let g : get_or m.successors 0 0 ≡ y = subst (λ (k : ℕ). get_or m.successors k 0 ≡ y) (ap (λ (x : Search). x.passed) e) w.1 in
        rw g w.2
