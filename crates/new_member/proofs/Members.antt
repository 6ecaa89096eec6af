-- The record of one identifier of the new table: its words stored one by one, and its entries, the next ones up. Assumes nothing.
use Prim.Native.Nat.{ℕ, zero, suc, ◌+◌, ◌-◌, ◌≤◌, ◌<◌}
use mathlib.Core.Path.{◌≡◌, refl, sym, ap, ◌∙◌}
use mathlib.Core.Bool.{true}
use mathlib.Core.List.{List, [], ◌∷◌, ◌++◌, append_assoc, append-nil}
use native.Mathlib.Nat.{zero-add}
use native.Mathlib.Omega.{arith}
use lib.ListN.{length, get_or, take, drop, set, length-append, length-drop}
use Rattle.std.proofs.lemmas.List.{take_more_set}
use lib.Seq.{take_all, length-take-le, take_at, drop_at, drop-drop, drop-append_seam, take-append-le, set_split, drop-set-lt, sets, sets-eq}
use Rattle.model.specs.Lists.{rising, overlay}
use Rattle.model.specs.Table.{record_size, record_of}
use Rattle.model.specs.Ring.{next_up, next_down, next_ups}
use Rattle.model.specs.New.{new_member}
use Rattle.laws.specs.Lists.{rising_true}
use Rattle.laws.specs.Places.{next_ups_length, next_ups_place}
use Rattle.laws.specs.Parts.{part_from, tail_back}
use Rattle.laws.specs.Words.{record_length}

-- words stored one by one from the front
pub stored : (vs l : List ℕ) → length vs ≤ length l → sets l 0 vs ≡ overlay vs l
stored vs l h = rw zero-add at (sets-eq vs l 0 (rw zero-add h))

-- and one more after them
sets_more : (l : List ℕ) (i : ℕ) (vs : List ℕ) (v : ℕ) → set (sets l i vs) (i + length vs) v ≡ sets l i (vs ++ (v ∷ []))
sets_more l i [] v = let q : i + 0 ≡ i = omega arith in rw q
sets_more l i (a ∷ vs) v = let q : i + suc (length vs) ≡ suc i + length vs = omega arith in rw q (sets_more (set l i a) (suc i) vs v)

-- the words with those from at on replaced by y
abbrev pub replaced : List ℕ → List ℕ → ℕ → List ℕ
replaced t y at = take at t ++ (y ++ drop (length t - at) (drop at t))

-- more words written after those that were, to the part from at on
pub overlay_more : (t t₀ y p q : List ℕ) (at : ℕ) → t ≡ overlay p t₀ → length p ≡ at → y ≡ overlay q (take (length t - at) (drop at t)) → replaced t y at ≡ overlay (p ++ q) t₀
overlay_more t t₀ y p q at e lp f =
    let n : length (p ++ q) ≡ at + length q = rw (length-append p q) (omega arith) in
    let d : drop at t ≡ drop at t₀ = rw (e, drop_at p _ at lp, lp) in
    let c : take at t ≡ p = rw (e, take_at p _ at lp) in
    tail_back at t y ∙ rw (f, part_from at t, d, c, n, drop-drop, append_assoc)

-- a list that begins with p is p over itself
pub over_itself : (p q t : List ℕ) → t ≡ p ++ q → t ≡ overlay p t
over_itself p q t e = rw (e, drop-append_seam p)

-- what lies after the new words is the old
pub behind : (p t : List ℕ) (n : ℕ) → length p ≤ n → drop n (overlay p t) ≡ drop n t
behind p t n h =
    let q : length p + (n - length p) ≡ n = omega arith in
    rw (← q, ← drop-drop (n - length p) (length p) (overlay p t), drop-append_seam p, drop-drop)

-- the first of the next n up
pub take_ups : (r n : ℕ) (xs : List ℕ) (x : ℕ) → r ≤ n → take r (next_ups n xs x) ≡ next_ups r xs x
take_ups zero n xs x h = refl
take_ups (suc r) zero xs x h = absurd (omega arith)
take_ups (suc r) (suc n) xs x h = ap (λ (l : List ℕ). next_up xs x ∷ l) (take_ups r n xs (next_up xs x) (omega arith))

-- the list's part of a record has so many entries
pub list_length : (m : List ℕ) (r : ℕ) → record_size r ≤ length m → length (take (4 + r - 4) (drop 4 m)) ≡ r
list_length m r h = length-take-le (4 + r - 4) (drop 4 m) (simp length-drop (omega arith)) ∙ omega arith

module _ (xs : List ℕ) where
  -- `write_round`: an entry more is written, and then all are
  pub ups_on : (l : List ℕ) (r k x v : ℕ) (whole : List ℕ) → k < r → k < length l → v ≡ next_up xs x → take k l ++ next_ups (r - k) xs x ≡ whole
      → take (k + 1) (set l k v) ++ next_ups (r - (k + 1)) xs v ≡ whole
  ups_on l r k x v whole h i u e =
      let d : r - k ≡ suc (r - (k + 1)) = omega arith in
      rw (take_more_set l k v i, append_assoc, u) (rw d at e)

  pub ups_done : (l : List ℕ) (r k x : ℕ) (whole : List ℕ) → r ≤ k → length l ≡ r → take k l ++ next_ups (r - k) xs x ≡ whole → l ≡ whole
  ups_done l r k x whole h n e =
      let d : r - k ≡ 0 = omega arith in
      sym (take_all k l (omega arith)) ∙ sym (append-nil (take k l)) ∙ rw d at e

  -- what stands before the list
  abbrev front : ℕ → List ℕ
  front x = x ∷ next_down xs x ∷ 0 ∷ 0 ∷ []

  pub front_stored : (l : List ℕ) (x p : ℕ) → p ≡ next_down xs x → 4 ≤ length l → set (set (set (set l 0 x) 1 p) 2 0) 3 0 ≡ overlay (front x) l
  front_stored l x p e h = rw e (stored (front x) l h)

  -- and the entries y after them, and the step count
  pub record_stored : (l m y : List ℕ) (r x : ℕ) → m ≡ overlay (front x) l → y ≡ next_ups r xs x → record_size r ≤ length l
      → set (take 4 m ++ (y ++ drop (4 + r - 4) (drop 4 m))) (4 + r) 0 ≡ overlay (record_of (new_member r xs x)) l
  record_stored l m y r x e f h =
      let g : m ≡ sets l 0 (front x) = e ∙ sym (stored (front x) l (omega arith)) in
      let ups : List ℕ = next_ups r xs x in
      let n : length ups ≡ r = next_ups_length r xs x in
      let z : 4 + r - 4 ≡ r = omega arith in
      let long : length m ≡ length l = rw e (omega (arith, length-drop 4 l)) in
      let s : take 4 m ++ (ups ++ drop (4 + r - 4) (drop 4 m)) ≡ sets m 4 ups = rw (z, drop-drop, sets-eq ups m 4 (omega arith), n, append_assoc) in
      rw f (ap (λ (k : List ℕ). set k (4 + r) 0) s) ∙ ap (λ (k : ℕ). set (sets m 4 ups) (4 + k) 0) (sym n) ∙ sets_more m 4 ups 0
      ∙ ap (λ (k : List ℕ). sets k 4 (ups ++ (0 ∷ []))) g
      ∙ stored (record_of (new_member r xs x)) l (omega (arith, record_length r (new_member r xs x) n))

  -- `write_ahead`: eight entries y over the list of m, where none goes round the end
  pub eight_ahead : (l m y : List ℕ) (i : ℕ) → rising xs ≡ true → i + 8 < length xs → m ≡ overlay (front (get_or xs i 0)) l
      → y ≡ overlay (take 8 (take (length xs - (i + 1)) (drop (i + 1) xs))) (take (length m - 4) (drop 4 m))
      → replaced m y 4 ≡ overlay (front (get_or xs i 0) ++ next_ups 8 xs (get_or xs i 0)) l
  eight_ahead l m y i a h e f =
      let x : ℕ = get_or xs i 0 in
      let q : i + 1 ≡ suc i = omega arith in
      let s : take 8 (take (length xs - (i + 1)) (drop (i + 1) xs)) ≡ next_ups 8 xs x =
      rw (part_from (i + 1) xs, q) (sym (next_ups_place xs (rising_true xs a) 8 i (omega arith) (omega arith)
      ∙ take-append-le 8 (drop (suc i) xs) xs (simp length-drop (omega arith)))) in
      overlay_more m l y (front x) (next_ups 8 xs x) 4 e refl (f ∙ ap (λ (z : List ℕ). overlay z (take (length m - 4) (drop 4 m))) s)

  -- and the step count stored after the first r of them
  module _ (t l : List ℕ) (r x : ℕ) (h : r ≤ 8) (e : t ≡ overlay (front x ++ next_ups 8 xs x) l) where
    -- the record with these stands in front
    pub ahead_record : record_size 8 ≤ length l → set t (4 + r) 0 ≡ overlay (record_of (new_member r xs x)) (set t (4 + r) 0)
    ahead_record long =
        let all : List ℕ = front x ++ next_ups 8 xs x in
        let most : length t ≡ length all + length (drop (length all) l) = rw e (length-append all (drop (length all) l)) in
        let q : 4 + r ≡ suc (suc (suc (suc r))) = omega arith in
        let first : take (4 + r) t ≡ front x ++ next_ups r xs x =
        ap (take (4 + r)) e ∙ take-append-le (4 + r) all (drop (length all) l) (omega arith) ∙ rw q (ap (λ (k : List ℕ). front x ++ k) (take_ups r 8 xs x h)) in
        over_itself (record_of (new_member r xs x)) (drop (suc (4 + r)) t) (set t (4 + r) 0)
        (set_split t (4 + r) 0 (omega (arith, length-drop (length all) l)) ∙ ap (λ (k : List ℕ). k ++ (0 ∷ drop (suc (4 + r)) t)) first
        ∙ sym (append_assoc (front x ++ next_ups r xs x) (0 ∷ []) (drop (suc (4 + r)) t)))

    pub ahead_behind : drop (record_size 8) (set t (4 + r) 0) ≡ drop (record_size 8) l
    ahead_behind = drop-set-lt (record_size 8) t (4 + r) 0 (omega arith) ∙ ap (drop (record_size 8)) e ∙ behind (front x ++ next_ups 8 xs x) l (record_size 8) (omega arith)
