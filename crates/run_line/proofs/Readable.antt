-- A readable line: its numbers are the word's own, and it has five bytes at least. The first 258 numbers decide its answer. Assumes nothing.
use Prim.Native.Nat.{ℕ, suc, ◌+◌, ◌≤◌, ◌<◌}
use mathlib.Core.Path.{◌≡◌, refl, sym, ap, ◌∙◌}
use mathlib.Core.Logic.{◌⊎◌, inl, inr}
use mathlib.Core.Bool.{Bool, true, false, ◌&&◌, and-false, false≢true}
use mathlib.Core.List.{List, [], ◌∷◌, map}
use mathlib.Core.Option.{Option, some, none}
use native.Mathlib.Omega.{arith}
use lib.Dec.{eqb}
use lib.ListN.{length, take, drop, take-append-drop, length-append}
use lib.Seq.{take_all, get_or-take, length-take-le}
use borrow.Author.Tests.{eqb-true, leb-true, lt-leb}
use Rattle.std.specs.Prelude.{if◌then◌else◌}
use Rattle.model.specs.Lists.{every, same}
use Rattle.model.specs.Answer.{declined}
use Rattle.model.specs.Refusals.{no_new_table, new_refusal}
use Rattle.model.specs.Calls.{new_answer, new_words}
use Rattle.laws.specs.Lists.{and-true}
use Rattle.laws.specs.Order.{less?}
use Rattle.script.specs.declared.Word.{Word}
use Rattle.script.specs.declared.Word.TheVariants.{New, Join, Stab, Rect, Out, Drop, Find, Audit}
use Rattle.script.specs.Lines.{Meaning, Unreadable, Asks, letters, word_among, word_of, takes, asks, value, is_number, numbers_of, meaning}
use Rattle.script.specs.Text.{answered, unread}
use Rattle.script.specs.Session.{word_answer, word_words, line_text, line_words}
use Rattle.part.specs.Part.{reach}
use Rattle.line.specs.Reading.{following, firsts, cut}
use Rattle.line.proofs.Parts.{first_part, takes_firsts}

-- a word has its own length
same_length : (a b : List ℕ) → same a b ≡ true → length a ≡ length b
same_length [] [] e = refl
same_length [] (y ∷ b) e = absurd (false≢true e)
same_length (x ∷ a) [] e = absurd (false≢true e)
same_length (x ∷ a) (y ∷ b) e = ap suc (same_length a b (and-true (eqb x y) _ e).1)

among_length : (ws : List Word) (p : List ℕ) (w : Word) → word_among ws p ≡ some w → length p ≡ length (letters w)
among_length [] p w e = (cc)
among_length (v ∷ ws) p w e = go (same p (letters v)) refl e (among_length ws p w)
  where
    go : (b : Bool) → same p (letters v) ≡ b → (if b then some v else word_among ws p) ≡ some w → (word_among ws p ≡ some w → length p ≡ length (letters w)) → length p ≡ length (letters w)
    go true s f ih = let g : v ≡ w = cc in same_length p (letters v) s ∙ ap (λ (u : Word). length (letters u)) g
    go false s f ih = ih f

word_length : (p : List ℕ) (w : Word) → word_of p ≡ some w → length p ≡ length (letters w)
unfolding word_of
word_length p w e = among_length (New ∷ Join ∷ Stab ∷ Rect ∷ Out ∷ Drop ∷ Find ∷ Audit ∷ []) p w e

-- a word without numbers has five letters, any other three
letters_least : (w : Word) (n : ℕ) → takes w n ≡ true → (5 ≤ length (letters w)) ⊎ ((3 ≤ length (letters w)) × (1 ≤ n))
letters_least New n e = inr (omega arith, leb-true 1 n e)
letters_least Join n e = inr (omega arith, omega (arith, eqb-true n 2 e))
letters_least Stab n e = inr (omega arith, omega (arith, eqb-true n 1 e))
letters_least Rect n e = inr (omega arith, omega (arith, eqb-true n 2 e))
letters_least Out n e = inr (omega arith, omega (arith, eqb-true n 1 e))
letters_least Drop n e = inr (omega arith, omega (arith, eqb-true n 1 e))
letters_least Find n e = inr (omega arith, omega (arith, eqb-true n 2 e))
letters_least Audit n e = inl (omega arith)

-- what a readable line is made of
asks_made : (o : Option Word) (m : Option (List ℕ)) (w : Word) (ns : List ℕ) → asks o m ≡ Asks w ns → (o ≡ some w) × (m ≡ some ns) × (takes w (length ns) ≡ true)
asks_made none m w ns e = (cc)
asks_made (some v) none w ns e = (cc)
asks_made (some v) (some ms) w ns e = go (takes v (length ms)) refl e
  where
    go : (b : Bool) → takes v (length ms) ≡ b → (if b then Asks v ms else Unreadable) ≡ Asks w ns → (some v ≡ some w) × (some ms ≡ some ns) × (takes w (length ns) ≡ true)
    go true t f = let g : v ≡ w = cc in let h : ms ≡ ns = cc in (ap some g, ap some h, rw (← g, ← h, t))
    go false t f = (cc)

number_least : (q : List ℕ) → is_number q ≡ true → 1 ≤ length q
unfolding is_number
number_least q e = leb-true 1 (length q) (and-true _ _ (and-true _ _ (and-true _ _ e).0).0).0

some_part : (ps : List (List ℕ)) (ns : List ℕ) → numbers_of ps ≡ some ns → 1 ≤ length ns → (q : List ℕ) × (qs : List (List ℕ)) × (ps ≡ q ∷ qs) × (1 ≤ length q)
unfolding numbers_of
some_part [] ns e h = let z : [] ≡ ns = cc in absurd (omega (arith, ap length z))
some_part (q ∷ qs) ns e h = go (is_number q) refl e
  where
    go : (b : Bool) → is_number q ≡ b → (if b && every is_number qs then some (map value (q ∷ qs)) else none) ≡ some ns → (p : List ℕ) × (ps : List (List ℕ)) × (q ∷ qs ≡ p ∷ ps) × (1 ≤ length p)
    go true t f = (q, qs, refl, number_least q t)
    go false t f = (cc)

split_length : (k : ℕ) (l : List ℕ) → length (take k l) + length (drop k l) ≡ length l
split_length k l = sym (length-append (take k l) (drop k l)) ∙ ap length (take-append-drop k l)

part_long : (p q : List ℕ) (qs : List (List ℕ)) → following p ≡ q ∷ qs → suc (length q) ≤ length p
part_long [] q qs e = (cc)
part_long (b ∷ l) q qs e =
    let f : take (reach 32 l) l ≡ q = cc (first_part l) in
    omega (arith, split_length (reach 32 l) l, ap length f)

pub readable : (l : List ℕ) (w : Word) (ns : List ℕ) → meaning l ≡ Asks w ns → (takes w (length ns) ≡ true) × (5 ≤ length l)
unfolding meaning
readable l w ns e =
    let k = reach 32 l in
    let m = asks_made (word_of (take k l)) (numbers_of (following (drop k l))) w ns (rw first_part at e) in
    (m.2, go k (word_length (take k l) w m.0) m.1 (letters_least w (length ns) m.2))
  where
    go : (k : ℕ) → length (take k l) ≡ length (letters w) → numbers_of (following (drop k l)) ≡ some ns → (5 ≤ length (letters w)) ⊎ ((3 ≤ length (letters w)) × (1 ≤ length ns)) → 5 ≤ length l
    go k s f (inl h) = omega (arith, split_length k l)
    go k s f (inr h) =
        let q = some_part (following (drop k l)) ns f h.1 in
        omega (arith, split_length k l, part_long (drop k l) q.0 q.1 q.2, q.3, h.0)

-- more than 256 identifiers are 11 whatever they are
many : (n r : ℕ) (xs : List ℕ) → 256 < length xs → new_refusal n r xs ≡ 11
unfolding new_refusal no_new_table
many n r xs h = simp (lt-leb (length xs) 256 h, and-false)

new_many : (ws : List ℕ) (r : ℕ) (xs : List ℕ) → 256 < length xs → (new_answer ws r xs ≡ declined 11) × (new_words ws r xs ≡ ws)
unfolding new_answer new_words
new_many ws r xs h = (rw (many (length ws) r xs h), rw (many (length ws) r xs h))

new_firsts : (ws : List ℕ) (r : ℕ) (xs : List ℕ) → (new_answer ws r (take 257 xs) ≡ new_answer ws r xs) × (new_words ws r (take 257 xs) ≡ new_words ws r xs)
new_firsts ws r xs = go (less? 257 (length xs))
  where
    go : (257 < length xs) ⊎ (length xs ≤ 257) → (new_answer ws r (take 257 xs) ≡ new_answer ws r xs) × (new_words ws r (take 257 xs) ≡ new_words ws r xs)
    go (inl h) =
        let s = length-take-le 257 xs (omega arith) in
        let a = new_many ws r (take 257 xs) (omega arith) in
        let b = new_many ws r xs (omega arith) in
        (a.0 ∙ sym b.0, a.1 ∙ sym b.1)
    go (inr h) = let e = take_all 257 xs h in (ap (new_answer ws r) e, ap (new_words ws r) e)

-- so the first 258 numbers decide
word_firsts : (ws : List ℕ) (w : Word) (ns : List ℕ) → (word_answer ws w (firsts ns) ≡ word_answer ws w ns) × (word_words ws w (firsts ns) ≡ word_words ws w ns)
unfolding word_answer word_words
word_firsts ws New [] = (refl, refl)
word_firsts ws New (r ∷ xs) = new_firsts ws r xs
word_firsts ws Join ns = rw (get_or-take 258 ns 0 0 (omega arith), get_or-take 258 ns 1 0 (omega arith)) (refl, refl)
word_firsts ws Stab ns = rw (get_or-take 258 ns 0 0 (omega arith)) (refl, refl)
word_firsts ws Rect ns = rw (get_or-take 258 ns 0 0 (omega arith), get_or-take 258 ns 1 0 (omega arith)) (refl, refl)
word_firsts ws Out ns = rw (get_or-take 258 ns 0 0 (omega arith)) (refl, refl)
word_firsts ws Drop ns = rw (get_or-take 258 ns 0 0 (omega arith)) (refl, refl)
word_firsts ws Find ns = rw (get_or-take 258 ns 0 0 (omega arith), get_or-take 258 ns 1 0 (omega arith)) (refl, refl)
word_firsts ws Audit ns = (refl, refl)

-- what a line is answered that asks w, with the numbers ys kept
pub record Asked (n : ℕ) (ws l : List ℕ) (w : Word) (ys : List ℕ) : Type 0 where
  pub text : answered n w (word_answer ws w ys) ≡ line_text n ws (meaning l)
  pub words : word_words ws w ys ≡ line_words ws (meaning l)
  pub own : takes w (length ys) ≡ true
  pub long : 5 ≤ length l

asked_firsts : (n : ℕ) (ws l : List ℕ) (w : Word) (ns : List ℕ) → meaning l ≡ Asks w ns → Asked n ws l w (firsts ns)
unfolding line_text line_words
asked_firsts n ws l w ns e =
    let r = readable l w ns e in
    let f = word_firsts ws w ns in
    record { text = rw (e, f.0); words = rw (e, f.1); own = takes_firsts w ns ∙ r.0; long = r.1 }

pub asked_line : (n : ℕ) (ws l : List ℕ) (w : Word) (ys : List ℕ) → Asks w ys ≡ cut (meaning l) → Asked n ws l w ys
asked_line n ws l w ys e = go (meaning l) refl e
  where
    go : (m : Meaning) → meaning l ≡ m → Asks w ys ≡ cut m → Asked n ws l w ys
    go Unreadable i f = (cc)
    go (Asks v ns) i f = let g : v ≡ w = cc in let h : ys ≡ firsts ns = cc in rw h (asked_firsts n ws l w ns (i ∙ ap (λ (u : Word). Asks u ns) g))

-- an unreadable line
pub unread_line : (n : ℕ) (ws l : List ℕ) → Unreadable ≡ cut (meaning l) → (unread n ≡ line_text n ws (meaning l)) × (ws ≡ line_words ws (meaning l))
unfolding line_text line_words
unread_line n ws l e = go (meaning l) refl e
  where
    go : (m : Meaning) → meaning l ≡ m → Unreadable ≡ cut m → (unread n ≡ line_text n ws (meaning l)) × (ws ≡ line_words ws (meaning l))
    go Unreadable i f = rw i (refl, refl)
    go (Asks v ns) i f = (cc)
