-- The parts of a line, and the numbers kept of them. Assumes nothing.
use Rattle.std.proofs.Common.{◌≡◌, ℕ, zero, suc, ◌+◌, ◌<◌, ◌≤◌, Bool, true, false, if◌then◌else◌, List, [], ◌∷◌, ◌++◌, map, length, take, drop, get_or, eqb, Some, None, refl, sym, ap, ◌∙◌, inl, inr, arith}
use Rattle.std.proofs.Math.Option.{Option, some, none}
use Rattle.std.proofs.Math.Seq.{take_all, length-take-le}
use Rattle.std.proofs.lemmas.Bool.{cases_lt, le-leb, ne_eqb}
use Rattle.std.proofs.lemmas.Grind.{common_steps}
use Rattle.std.proofs.lemmas.List.{take_more, map-append}
use Rattle.std.proofs.lemmas.Option.{cond_some}
use Rattle.model.specs.Lists.{every}
use Rattle.script.specs.Lines.{Unreadable, Asks, on_first, parts, value, is_number, numbers_of, takes, word_of, asks, meaning}
use Rattle.script.specs.declared.Word.{Word}
use Rattle.script.specs.declared.Word.TheVariants.{New, Join, Stab, Rect, Out, Drop, Find, Audit}
use Rattle.part.specs.Part.{reach, maybe_word, number_of}
use Rattle.line.specs.Reading.{following, firsts, cut}

-- the first part, and those after it
pub first_part : (l : List ℕ) → parts l ≡ take (reach 32 l) l ∷ following (drop (reach 32 l) l)
first_part [] = refl
first_part (b ∷ l) = go (eqb b 32) (first_part l)
  where
    go : (t : Bool) → parts l ≡ take (reach 32 l) l ∷ following (drop (reach 32 l) l)
        → (if t then [] ∷ parts l else on_first b (parts l))
        ≡ take (if t then 0 else suc (reach 32 l)) (b ∷ l) ∷ following (drop (if t then 0 else suc (reach 32 l)) (b ∷ l))
    go true e = refl
    go false e = ap (on_first b) e

-- the first n of a list are not changed by leaving out, early, what stands after them
pub take_early : {A : Type 0} (n : ℕ) (a b : List A) → take n (take n a ++ b) ≡ take n (a ++ b)
take_early zero a b = refl
take_early (suc n) [] b = refl
take_early (suc n) (x ∷ a) b = ap (λ (l : List _). x ∷ l) (take_early n a b)

-- the numbers of the first j parts are kept
pub record Kept (qs : List (List ℕ)) (j n : ℕ) (xs : List ℕ) : Type 0 where
  pub within : n ≤ 258
  pub size : length xs ≡ 258
  pub numbers : every is_number (take j qs) ≡ true
  pub kept : take n xs ≡ firsts (map value (take j qs))

-- the word takes as many numbers, where only the first 258 are kept
takes_many : (w : Word) (n : ℕ) → 258 < n → takes w 258 ≡ takes w n
takes_many New n h = rw (le-leb 1 n (omega arith))
takes_many Join n h = rw (ne_eqb n 2 (omega arith))
takes_many Stab n h = rw (ne_eqb n 1 (omega arith))
takes_many Rect n h = rw (ne_eqb n 2 (omega arith))
takes_many Out n h = rw (ne_eqb n 1 (omega arith))
takes_many Drop n h = rw (ne_eqb n 1 (omega arith))
takes_many Find n h = rw (ne_eqb n 2 (omega arith))
takes_many Audit n h = rw (ne_eqb n 0 (omega arith))

pub takes_firsts : (w : Word) (ns : List ℕ) → takes w (length (firsts ns)) ≡ takes w (length ns)
takes_firsts w ns =
    elim (cases_lt 258 (length ns)) [
      | inl h ↦ rw (length-take-le 258 ns (omega arith)) (takes_many w (length ns) h)
      | inr h ↦ rw (take_all 258 ns h)
    ]

-- a part is a number or none
number_some : (q : List ℕ) (v : ℕ) → Some v ≡ number_of q → (is_number q ≡ true) × (value q ≡ v)
unfolding number_of
number_some q v e = cond_some (is_number q) (value q) v (sym e)

number_none : (q : List ℕ) → None ≡ number_of q → is_number q ≡ false
unfolding number_of
number_none q e = grind (arith, common_steps)

word_some : (o : Option Word) (w : Word) → Some w ≡ maybe_word o → o ≡ some w
word_some none w e = (cc)
word_some (some v) w e = (cc)

word_none : (o : Option Word) → None ≡ maybe_word o → o ≡ none
word_none none e = refl
word_none (some v) e = (cc)

every_push : (ps : List (List ℕ)) (q : List ℕ) → every is_number ps ≡ true → every is_number (ps ++ (q ∷ [])) ≡ is_number q
every_push [] q h = grind (arith, common_steps)
every_push (p ∷ ps) q h = grind (arith, common_steps, every_push ps q)

some_none : (qs : List (List ℕ)) (j : ℕ) (q : List ℕ) → j < length qs → q ≡ get_or qs j q → is_number q ≡ false → every is_number qs ≡ false
some_none [] j q h e n = absurd (omega arith)
some_none (p ∷ qs) zero q h e n = grind (arith, common_steps)
some_none (p ∷ qs) (suc j) q h e n = grind (arith, common_steps, some_none qs j q (omega arith) e n)

-- a number more
pub one_more : (qs : List (List ℕ)) (j n m v : ℕ) (xs ys q : List ℕ) → Kept qs j n xs → (j < length qs) × (q ≡ get_or qs j q) → Some v ≡ number_of q
    → m ≤ 258 → length ys ≡ length xs → take m ys ≡ firsts (take n xs ++ (v ∷ [])) → Kept qs (j + 1) m ys
one_more qs j n m v xs ys q k t e h s f =
    let p = number_some q v e in
    let g : take (j + 1) qs ≡ take j qs ++ (q ∷ []) = rw (take_more qs j q t.0, ← t.1) in
    record {
      within = h;
      size = s ∙ k.size;
      numbers = rw g (every_push (take j qs) q k.numbers ∙ p.0);
      kept = f ∙ rw (k.kept, g, map-append value (take j qs) (q ∷ []), p.1) (take_early 258 (map value (take j qs)) (v ∷ []));
    }

-- all are kept
all_kept : (qs : List (List ℕ)) (n : ℕ) (xs : List ℕ) → Kept qs (length qs) n xs
    → (numbers_of qs ≡ some (map value qs)) × (take n xs ≡ firsts (map value qs)) × ((w : Word) → takes w n ≡ takes w (length (map value qs)))
unfolding numbers_of
all_kept qs n xs k =
    let all : take (length qs) qs ≡ qs = take_all (length qs) qs (omega arith) in
    let e : take n xs ≡ firsts (map value qs) = rw all at k.kept in
    let m : n ≡ length (firsts (map value qs)) = sym (length-take-le n xs (omega (arith, k.within, k.size))) ∙ ap length e in
    (rw (rw all at k.numbers), e, λ w. ap (takes w) m ∙ takes_firsts w (map value qs))

unasked : (o : Option Word) → Unreadable ≡ cut (asks o none)
unasked none = refl
unasked (some w) = refl

-- what a line asks, by its first part and the others
module _ (l q : List ℕ) (first : parts l ≡ q ∷ drop 1 (parts l)) where
  pub no_word : None ≡ maybe_word (word_of q) → Unreadable ≡ cut (meaning l)
  unfolding meaning
  no_word e = rw (first, word_none (word_of q) e)

  pub no_number : (j : ℕ) (p : List ℕ) → (j < length (drop 1 (parts l))) × (p ≡ get_or (drop 1 (parts l)) j p) → None ≡ number_of p → Unreadable ≡ cut (meaning l)
  unfolding meaning numbers_of
  no_number j p h e = rw (first, some_none (drop 1 (parts l)) j p h.0 h.1 (number_none p e)) (unasked (word_of q))

  module _ (w : Word) (n : ℕ) (xs : List ℕ) (word : Some w ≡ maybe_word (word_of q)) (k : Kept (drop 1 (parts l)) (length (drop 1 (parts l))) n xs) where
    pub asked : takes w n ≡ true → Asks w (take n xs) ≡ cut (meaning l)
    unfolding meaning
    asked t =
        let a = all_kept (drop 1 (parts l)) n xs k in
        rw (first, word_some (word_of q) w word, a.0, ← a.2 w, t, a.1)

    pub misasked : takes w n ≡ false → Unreadable ≡ cut (meaning l)
    unfolding meaning
    misasked t =
        let a = all_kept (drop 1 (parts l)) n xs k in
        rw (first, word_some (word_of q) w word, a.0, ← a.2 w, t)
