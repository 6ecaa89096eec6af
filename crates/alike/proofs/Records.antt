-- Two records side by side, four words at a time, and two runs of records: one iteration of the loop that compares them. Assumes nothing.
use Prim.Native.Nat.{ℕ, zero, suc, ◌+◌, ◌-◌, ◌*◌, ◌≤◌, ◌<◌}
use mathlib.Core.Path.{◌≡◌, refl, sym, ap, ap₂, ◌∙◌}
use mathlib.Core.List.{List, [], ◌∷◌, ◌++◌}
use mathlib.Core.Bool.{Bool, true, false, ◌&&◌, and-false, true≢false}
use native.Mathlib.Omega.{arith}
use borrow.Author.Tests.{eq-eqb}
use lib.Dec.{eqb}
use lib.ListN.{length, get_or, take, drop}
use Rattle.std.proofs.Common.{suc-mul, zero-mul, length-append, length-drop, length-take}
use Rattle.std.proofs.lemmas.List.{drop_at}
use lib.Seq.{length-take-le, take-suc, take-add, take-take, take_at}
use Rattle.model.specs.Lists.{same, same_by}
use Rattle.model.specs.Table.{Member, header_size, record_size, member_of, members_of, table_of}
use Rattle.model.specs.Alike.{alike_member, alike}
use Rattle.laws.specs.Lists.{same_eq, same_refl}
use Rattle.laws.specs.Parts.{part_of_part, drop_take}
use Rattle.laws.specs.Words.{record_written, record_list, member_part}

-- four tests and one more, joined from the left and from the right
and_right : (a b c d e : Bool) → (a && b && c && d && e) ≡ (a && (b && (c && (d && e))))
and_right true true true true e = refl
and_right true true true false e = refl
and_right true true false d e = refl
and_right true false c d e = refl
and_right false b c d e = refl

and_four : (a b c d : Bool) → (a && b && c && d) ≡ (a && (b && (c && (d && true))))
and_four a b c d = sym (last (a && b && c && d)) ∙ and_right a b c d true
  where
    last : (x : Bool) → (x && true) ≡ x
    last true = refl
    last false = refl

-- the first four words are equal, word by word
pub four_words : (us vs : List ℕ) → 4 ≤ length us → 4 ≤ length vs
    → (eqb (get_or us 0 0) (get_or vs 0 0) && eqb (get_or us 1 0) (get_or vs 1 0) && eqb (get_or us 2 0) (get_or vs 2 0) && eqb (get_or us 3 0) (get_or vs 3 0)) ≡ same (take 4 us) (take 4 vs)
four_words us vs h k = rw (four us h, four vs k) (and_four (eqb (get_or us 0 0) (get_or vs 0 0)) (eqb (get_or us 1 0) (get_or vs 1 0)) (eqb (get_or us 2 0) (get_or vs 2 0)) (eqb (get_or us 3 0) (get_or vs 3 0)))
  where
    four : (ws : List ℕ) → 4 ≤ length ws → take 4 ws ≡ get_or ws 0 0 ∷ get_or ws 1 0 ∷ get_or ws 2 0 ∷ get_or ws 3 0 ∷ []
    four ws h = rw (take-suc ws 3 0 (omega arith), take-suc ws 2 0 (omega arith), take-suc ws 1 0 (omega arith), take-suc ws 0 0 (omega arith))

-- the words of a record that are compared: all but its step count
abbrev shown : Member → List ℕ
shown m = m.id ∷ m.predecessor ∷ m.pending ∷ m.candidate ∷ m.successors

alike_shown : (m n : Member) → alike_member m n ≡ same (shown m) (shown n)
unfolding alike_member
alike_shown m n = and_right (eqb m.id n.id) (eqb m.predecessor n.predecessor) (eqb m.pending n.pending) (eqb m.candidate n.candidate) (same m.successors n.successors)

-- they are its first
shown_words : (r : ℕ) (ws : List ℕ) → record_size r ≤ length ws → shown (member_of r ws) ≡ take (r + 4) ws
shown_words r ws h =
    let m = member_of r ws in
    let e : length (shown m) ≡ r + 4 = omega (arith, record_list r ws h) in
    sym (take_at (shown m) (m.steps ∷ []) (r + 4) e) ∙ ap (take (r + 4)) (record_written r ws h) ∙ take-take (r + 4) (record_size r) ws (omega arith)

-- equal words in front of both do not matter
same_front : (l k m : List ℕ) → same (l ++ k) (l ++ m) ≡ same k m
same_front [] k m = refl
same_front (x ∷ l) k m = rw (eq-eqb x x refl) (same_front l k m)

module _ (r : ℕ) (us vs : List ℕ) (hu : record_size r ≤ length us) (hv : record_size r ≤ length vs) where
  -- the records are alike as the words before their counts are equal
  by_words : alike_member (member_of r us) (member_of r vs) ≡ same (take (r + 4) us) (take (r + 4) vs)
  by_words = alike_shown (member_of r us) (member_of r vs) ∙ ap₂ same (shown_words r us hu) (shown_words r vs hv)

  -- four words among them that differ
  pub four_differ : (k : ℕ) → k ≤ r → same (take 4 (drop k us)) (take 4 (drop k vs)) ≡ false → false ≡ alike_member (member_of r us) (member_of r vs)
  four_differ k h d = go (same (take (r + 4) us) (take (r + 4) vs)) refl ∙ sym by_words
    where
      part : (ws : List ℕ) → take 4 (drop k (take (r + 4) ws)) ≡ take 4 (drop k ws)
      part ws = part_of_part k 4 (r + 4) ws (omega arith)

      go : (b : Bool) → same (take (r + 4) us) (take (r + 4) vs) ≡ b → false ≡ b
      go true e =
          let q : take 4 (drop k us) ≡ take 4 (drop k vs) = sym (part us) ∙ ap (λ (l : List ℕ). take 4 (drop k l)) (same_eq _ _ e) ∙ part vs in
          absurd (true≢false (sym (same_refl (take 4 (drop k vs))) ∙ ap (λ (l : List ℕ). same l (take 4 (drop k vs))) (sym q) ∙ d))
      go false e = refl

  -- where the first r are equal, the last four decide
  pub last_decide : take r us ≡ take r vs → same (take 4 (drop r us)) (take 4 (drop r vs)) ≡ alike_member (member_of r us) (member_of r vs)
  last_decide e = sym (by_words ∙ ap₂ same (take-add r 4 us) (take-add r 4 vs ∙ ap (λ (l : List ℕ). l ++ take 4 (drop r vs)) (sym e)) ∙ same_front (take r us) _ _)

-- the first r are equal if the first four are, and with more than four entries the next four
module _ (r : ℕ) (us vs : List ℕ) (first : same (take 4 us) (take 4 vs) ≡ true) where
  pub few_same : r ≤ 4 → take r us ≡ take r vs
  few_same h = sym (take-take r 4 us h) ∙ ap (take r) (same_eq _ _ first) ∙ take-take r 4 vs h

  pub more_same : r ≤ 8 → same (take 4 (drop 4 us)) (take 4 (drop 4 vs)) ≡ true → take r us ≡ take r vs
  more_same h next = sym (take-take r 8 us h) ∙ ap (take r) (take-add 4 4 us ∙ ap₂ (λ (l k : List ℕ). l ++ k) (same_eq (take 4 us) (take 4 vs) first) (same_eq (take 4 (drop 4 us)) (take 4 (drop 4 vs)) next) ∙ sym (take-add 4 4 vs)) ∙ take-take r 8 vs h

-- the records at the front are those of the words that they take
pub front : (r n : ℕ) (ws : List ℕ) → n * record_size r ≤ length ws → members_of r n (take (n * record_size r) ws) ≡ members_of r n ws
front r zero ws h = refl
front r (suc n) ws h =
    let w = record_size r in
    let s = suc-mul n w in
    let cut = take (suc n * w) ws in
    let a : take w cut ≡ take w ws = take-take w (suc n * w) ws (omega arith) in
    let m : member_of r cut ≡ member_of r ws =
    sym (member_part r w cut refl (simp length-take (omega arith))) ∙ ap (member_of r) a ∙ member_part r w ws refl (omega arith) in
    let z : suc n * w - w ≡ n * w = omega arith in
    rw (m, drop_take w (suc n * w) ws, z, front r n (drop w ws) (simp length-drop (omega arith)))

-- of n records the first, p, and the others
pub one_record : (r w n size : ℕ) (ws p rest : List ℕ) → w ≡ record_size r → (ws ≡ p ++ rest) × (length p ≡ size) → size ≡ w → length ws ≡ n * w
    → (members_of r n ws ≡ member_of r p ∷ members_of r (n - 1) rest) × (length rest ≡ (n - 1) * w)
one_record r w zero size ws p rest e q k h = let z = zero-mul w in let l = ap length q.0 ∙ length-append p rest in absurd (omega arith)
one_record r w (suc n) size ws p rest e q k h =
    let s = suc-mul n w in
    let l = ap length q.0 ∙ length-append p rest in
    let j : suc n - 1 ≡ n = omega arith in
    let a : record_size r ≤ length (p ++ rest) = rw (← q.0) (omega arith) in
    let d : drop (record_size r) (p ++ rest) ≡ rest = drop_at p rest (record_size r) (omega arith) in
    let m : member_of r (p ++ rest) ≡ member_of r p = sym (member_part r (record_size r) (p ++ rest) refl a) ∙ ap (member_of r) (take_at p rest (record_size r) (omega arith)) in
    (rw (j, q.0, m, d), rw j (omega arith))

-- the part that the n records at the front are
pub cut : (r w n : ℕ) (ws : List ℕ) → w ≡ record_size r → n * record_size r ≤ length ws
    → (length (take (n * w) ws) ≡ n * w) × (members_of r n (take (n * w) ws) ≡ members_of r n ws)
cut r w n ws e h = rw e (length-take-le (n * record_size r) ws h, front r n ws h)

-- of two runs of n records the first two, and the others
pub one_pair : (r w n : ℕ) (us vs u v ps qs : List ℕ) → w ≡ record_size r → us ≡ u ++ ps → vs ≡ v ++ qs → length u ≡ w → length v ≡ w → length us ≡ n * w → length vs ≡ n * w
    → (length ps ≡ (n - 1) * w) × (length qs ≡ (n - 1) * w)
    × (same_by alike_member (members_of r n us) (members_of r n vs) ≡ (alike_member (member_of r u) (member_of r v) && same_by alike_member (members_of r (n - 1) ps) (members_of r (n - 1) qs)))
one_pair r w n us vs u v ps qs e p q lu lv hu hv =
    let a = one_record r w n w us u ps e (p, lu) refl hu in
    let b = one_record r w n w vs v qs e (q, lv) refl hv in
    (a.1, b.1, rw (a.0, b.0))

-- and where none is left, all were alike
pub none_left : (r w n : ℕ) (ws us vs : List ℕ) → w ≡ record_size r → length ws < w → length ws ≡ n * w → true ≡ same_by alike_member (members_of r n us) (members_of r n vs)
none_left r w zero ws us vs e h k = refl
none_left r w (suc n) ws us vs e h k = absurd (omega (arith, suc-mul n w))

-- members of different numbers are not alike
pub counts_differ : (ms ns : List Member) → (length ms ≡ length ns → ⊥) → same_by alike_member ms ns ≡ false
counts_differ [] [] d = absurd (d refl)
counts_differ [] (n ∷ ns) d = refl
counts_differ (m ∷ ms) [] d = refl
counts_differ (m ∷ ms) (n ∷ ns) d = rw (counts_differ ms ns (λ e. d (ap suc e)), and-false)

-- two tables of equal r and member count are alike as their records are
pub records_decide : (us vs : List ℕ) (b : Bool) → get_or us 0 0 ≡ get_or vs 0 0 → get_or us 1 0 ≡ get_or vs 1 0
    → b ≡ same_by alike_member (members_of (get_or us 0 0) (get_or us 1 0) (drop header_size us)) (members_of (get_or us 0 0) (get_or us 1 0) (drop header_size vs))
    → b ≡ alike (table_of us) (table_of vs)
unfolding alike
records_decide us vs b er en t = rw (← er, ← en, eq-eqb _ _ refl) t
