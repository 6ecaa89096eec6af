-- The theorems of which Pairs in specs/ has the definitions, with their proofs.
use Rattle.std.specs.Prelude.{ℕ, ◌*◌, ◌≡◌, refl, Bool, true, false, ◌||◌, List, [], ◌∷◌, ◌++◌, length}
use Rattle.std.proofs.Common.{sym, ap, ◌∙◌, inl, inr, arith, length-append}
use Rattle.std.proofs.lemmas.Bool.{false≢true, not-true, not-false}
use Rattle.model.specs.Lists.{any}
use Rattle.model.specs.Table.{Member, table_of, members_in, well_formed}
use Rattle.model.specs.Ring.{live, principal}
use Rattle.model.specs.Pairs.{Pair, pairs, skipped_by, taken}
use Rattle.model.specs.Calls.{principal_answer}
use Rattle.laws.specs.Lists.{or-false}
use Rattle.laws.specs.Tables.{well_formed_facts, formed_lists}
use Rattle.laws.specs.Pairs.{table_pairs, no_pair, taken_tells}
use Rattle.laws.specs.Accepted.{member_accepts}
use Rattle.theory.specs.Pairs.{EndedByPair, OnlyLast, pairs_taken, ToTheEnd, PrincipalTest}

-- The proof

module _ (x : ℕ) where
  taken_whole : (ps : List Pair) → any (skipped_by x) ps ≡ false → taken x ps ≡ ps
  taken_whole [] h = refl
  taken_whole (p ∷ ps) h = let w = or-false (skipped_by x p) (any (skipped_by x) ps) h in rw (w.0, taken_whole ps w.1)

  -- the pairs up to the first that skips x
  taken_to : (before : List Pair) (last : Pair) (after : List Pair) → skipped_by x last ≡ true → any (skipped_by x) before ≡ false → taken x (before ++ (last ∷ after)) ≡ before ++ (last ∷ [])
  taken_to [] last after s h = rw s
  taken_to (p ∷ before) last after s h = let w = or-false (skipped_by x p) (any (skipped_by x) before) h in rw (w.0, taken_to before last after s w.1)

  ended_by_pair : (ps : List Pair) → any (skipped_by x) ps ≡ true → EndedByPair x ps
  ended_by_pair [] h = absurd (false≢true h)
  ended_by_pair (p ∷ ps) h = go (ended_by_pair ps) (skipped_by x p) refl h
    where
      go : (any (skipped_by x) ps ≡ true → EndedByPair x ps) → (b : Bool) → skipped_by x p ≡ b → (b || any (skipped_by x) ps) ≡ true → EndedByPair x (p ∷ ps)
      go ih true e k = record { before = []; last = p; after = ps; in_order = refl; are_taken = rw e; skips = e; none_earlier = refl }
      go ih false e k =
          let w = ih k in
          record {
            before = p ∷ w.before;
            last = w.last;
            after = w.after;
            in_order = ap (λ (l : List Pair). p ∷ l) w.in_order;
            are_taken = rw e (ap (λ (l : List Pair). p ∷ l) w.are_taken);
            skips = w.skips;
            none_earlier = rw (e, w.none_earlier);
          }

  -- no pair is left after the last one taken
  only_last : (ps : List Pair) → length (taken x ps) ≡ length ps → EndedByPair x ps → OnlyLast x ps
  only_last ps h w = go w.after w.in_order
    where
      go : (after : List Pair) → ps ≡ w.before ++ (w.last ∷ after) → OnlyLast x ps
      go [] e = record { others = w.before; last = w.last; in_order = e; skips = w.skips; none_else = w.none_earlier }
      go (q ∷ after) e = absurd (omega (arith, ap length e, ap length w.are_taken, length-append w.before (w.last ∷ q ∷ after), length-append w.before (w.last ∷ [])))

module _ (ws : List ℕ) (n : ℕ) (f : well_formed ws ≡ true) where
  abbrev ms : List Member
  ms = members_in ws

  -- members × r
  all_pairs : length (pairs ms) ≡ length ms * (table_of ws).r
  all_pairs = table_pairs (table_of ws).r ms (formed_lists (table_of ws) (well_formed_facts ws f).table)

  to_the_end : ToTheEnd ws n → pairs_taken ws n ≡ length ms * (table_of ws).r
  to_the_end (inl p) = ap length (taken_whole n (pairs ms) (not-true _ (no_pair n ms ∙ p))) ∙ all_pairs
  to_the_end (inr o) = ap (λ (l : List Pair). length (taken n l)) o.in_order
      ∙ (ap length (taken_to n o.others o.last [] o.skips o.none_else) ∙ (sym (ap length o.in_order) ∙ all_pairs))

  -- some pair skips a member that is no principal
  some_pair : principal ms n ≡ false → any (skipped_by n) (pairs ms) ≡ true
  some_pair h = not-false _ (no_pair n ms ∙ h)

  only_there : pairs_taken ws n ≡ length ms * (table_of ws).r → ToTheEnd ws n
  only_there h = go (principal ms n) refl
    where
      go : (b : Bool) → principal ms n ≡ b → ToTheEnd ws n
      go true e = inl e
      go false e = inr (only_last n (pairs ms) (h ∙ sym all_pairs) (ended_by_pair n (pairs ms) (some_pair e)))

  -- every member of every well-formed table is tested so
  pub principal_tested : live ms n ≡ true → PrincipalTest ws n
  unfolding principal_answer
  principal_tested l =
      record {
        answers = rw (member_accepts ws n f l, taken_tells n (pairs ms), no_pair n ms);
        ends = λ h. ended_by_pair n (pairs ms) (some_pair h);
        all_taken = to_the_end;
        only_then = only_there;
      }
