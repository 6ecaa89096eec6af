-- The words of a new table, record after record: what the loops of `write_table` have written. Assumes nothing.
use Prim.Native.Nat.{ℕ, suc, ◌+◌, ◌*◌, ◌-◌, ◌≤◌, ◌<◌}
use mathlib.Core.Path.{◌≡◌, sym, ap, ◌∙◌}
use mathlib.Core.Logic.{⊎_elim}
use mathlib.Core.List.{List, [], ◌∷◌, ◌++◌, map, append-nil, append_assoc}
use native.Mathlib.Nat.{suc-mul, mul-le-mul_right}
use native.Mathlib.Omega.{arith}
use lib.ListN.{length, get_or, take, drop, set, length-map}
use lib.Seq.{take-suc, take_at, drop_at, drop-drop, take_all, length-take-le}
use Rattle.model.specs.Lists.{overlay}
use Rattle.model.specs.Table.{Member, header_size, header_of, record_size, record_of, records_of, size, words_of}
use Rattle.laws.specs.Places.{next_ups_length}
use Rattle.laws.specs.Lists.{in_nil, in_cons}
use Rattle.laws.specs.Parts.{part_from, tail_back}
use Rattle.laws.specs.Words.{Lengths, records_length, words_length}
use Rattle.model.specs.New.{new_member, new_table}
use Rattle.new_member.proofs.Members.{stored, replaced, overlay_more, over_itself, behind}

pub new_size : (r : ℕ) (xs : List ℕ) → size (new_table r xs) ≡ header_size + length xs * record_size r
new_size r xs = rw (length-map xs (new_member r xs))

module _ (r : ℕ) (xs : List ℕ) where
  -- the record of index i is within the table's words
  pub record_fits : (i : ℕ) → i < length xs → header_size + i * record_size r + record_size r ≤ size (new_table r xs)
  record_fits i h = omega (arith, new_size r xs, suc-mul i (record_size r), mul-le-mul_right {m = suc i} {n = length xs} (record_size r) (omega arith))

  -- and with eight entries, where eight records come after it
  pub eight_fit : (i : ℕ) → i + 8 < length xs → header_size + i * record_size r + record_size 8 ≤ size (new_table r xs)
  eight_fit i h = omega (arith, suc-mul i (record_size r), suc-mul (suc i) (record_size r), record_fits (suc (suc i)) (omega arith))

-- the header, and the records of the first i identifiers
abbrev pub begun : ℕ → List ℕ → ℕ → List ℕ
begun r xs i = header_of (new_table r xs) ++ records_of (map (new_member r xs) (take i xs))

-- the records of a list with one more at its end
records_snoc : (f : ℕ → Member) (l : List ℕ) (x : ℕ) → records_of (map f (l ++ (x ∷ []))) ≡ records_of (map f l) ++ record_of (f x)
records_snoc f [] x = append-nil (record_of (f x))
records_snoc f (y ∷ l) x = rw (records_snoc f l x) (sym (append_assoc (record_of (f y)) (records_of (map f l)) (record_of (f x))))

module _ (r : ℕ) (xs : List ℕ) where
  begun_more : (i : ℕ) → i < length xs → begun r xs (i + 1) ≡ begun r xs i ++ record_of (new_member r xs (get_or xs i 0))
  begun_more i h =
      let q : i + 1 ≡ suc i = omega arith in
      rw (q, take-suc xs i 0 h, records_snoc)

  new_lengths : (l : List ℕ) → Lengths r (map (new_member r xs) l)
  new_lengths [] m i = absurd (in_nil i)
  new_lengths (x ∷ l) m i = ⊎_elim (λ e. rw e (next_ups_length r xs x)) (new_lengths l m) (in_cons i)

  begun_length : (i : ℕ) → i ≤ length xs → length (begun r xs i) ≡ header_size + i * record_size r
  begun_length i h = rw (records_length r (map (new_member r xs) (take i xs)) (new_lengths (take i xs)), length-map, length-take-le i xs h) (omega arith)

  begun_all : (i : ℕ) → i ≡ length xs → begun r xs i ≡ words_of (new_table r xs)
  begun_all i e = rw (take_all i xs (omega arith))

-- what lies after b words of the part from a on
behind_part : (a b n : ℕ) (s t y : List ℕ) → drop a s ≡ y → drop b y ≡ drop b (drop a t) → a + b ≤ n → drop n s ≡ drop n t
behind_part a b n s t y e f h =
    let k = n - (a + b) in
    let q : a + (b + k) ≡ n = omega arith in
    let parts : (l : List ℕ) → drop k (drop b (drop a l)) ≡ drop n l = λ l. drop-drop k b (drop a l) ∙ drop-drop (b + k) a l ∙ ap (λ (j : ℕ). drop j l) q in
    sym (parts s) ∙ ap (drop k) (ap (drop b) e ∙ f) ∙ parts t

-- the header, stored word by word
abbrev pub headed : ℕ → List ℕ → List ℕ → List ℕ
headed r xs t = set (set (set t 0 r) 1 (length xs)) 2 0

module _ (r : ℕ) (xs : List ℕ) where
  header_stored : (t : List ℕ) → header_size ≤ length t → headed r xs t ≡ overlay (begun r xs 0) t
  header_stored t h = ap (λ (n : ℕ). set (set (set t 0 r) 1 n) 2 0) (sym (length-map xs (new_member r xs))) ∙ stored (header_of (new_table r xs)) t h

  pub begins : (t : List ℕ) → header_size ≤ length t → headed r xs t ≡ overlay (begun r xs 0) (headed r xs t)
  begins t h = over_itself (begun r xs 0) _ (headed r xs t) (header_stored t h)

  -- an iteration: the words y come back for the part from at on
  module _ (t y : List ℕ) (i at : ℕ) (h : i < length xs) (o : at ≡ header_size + i * record_size r) where
    abbrev added : List ℕ
    added = record_of (new_member r xs (get_or xs i 0))

    begun_at : length (begun r xs i) ≡ at
    begun_at = begun_length r xs i (omega arith) ∙ sym o

    -- the record of i over it
    pub begun_on : (t₀ : List ℕ) → y ≡ overlay added (take (length t - at) (drop at t)) → t ≡ overlay (begun r xs i) t₀ → replaced t y at ≡ overlay (begun r xs (i + 1)) t₀
    begun_on t₀ f e = overlay_more t t₀ y (begun r xs i) added at e begun_at f ∙ ap (λ (l : List ℕ). overlay l t₀) (sym (begun_more r xs i h))

    module _ (e : t ≡ overlay (begun r xs i) t) where
      apart : replaced t y at ≡ begun r xs i ++ y
      apart = tail_back at t y ∙ ap (λ (l : List ℕ). l ++ y) (ap (take at) e ∙ take_at (begun r xs i) _ at begun_at)

      -- the record of i in front of it
      pub ahead_on : y ≡ overlay added y → replaced t y at ≡ overlay (begun r xs (i + 1)) (replaced t y at)
      ahead_on f =
          over_itself (begun r xs (i + 1)) (drop (length added) y) (replaced t y at)
          (apart ∙ ap (λ (l : List ℕ). begun r xs i ++ l) f ∙ sym (append_assoc (begun r xs i) added _) ∙ ap (λ (l : List ℕ). l ++ drop (length added) y) (sym (begun_more r xs i h)))

      -- the words after w of it stay
      pub ahead_behind : (w n : ℕ) → drop w y ≡ drop w (take (length t - at) (drop at t)) → header_size + i * record_size r + w ≤ n → drop n (replaced t y at) ≡ drop n t
      ahead_behind w n f le = behind_part at w n (replaced t y at) t y (ap (drop at) apart ∙ drop_at (begun r xs i) y at begun_at) (f ∙ ap (drop w) (part_from at t)) (omega arith)

  -- all records are written, and the words after the table are the old ones
  pub begun_whole : (t₁ t : List ℕ) (i : ℕ) → i ≡ length xs → header_size ≤ length t
      → drop (size (new_table r xs)) t₁ ≡ drop (size (new_table r xs)) (headed r xs t) → overlay (begun r xs i) t₁ ≡ overlay (words_of (new_table r xs)) t
  begun_whole t₁ t i e h f =
      let n = words_length (new_table r xs) (new_lengths r xs xs) in
      let s = f ∙ ap (drop (size (new_table r xs))) (header_stored t h) ∙ behind (begun r xs 0) t (size (new_table r xs)) (omega arith) in
      ap (λ (l : List ℕ). overlay l t₁) (begun_all r xs i e) ∙ ap (λ (l : List ℕ). words_of (new_table r xs) ++ l) (ap (λ (m : ℕ). drop m t₁) n ∙ s ∙ ap (λ (m : ℕ). drop m t) (sym n))
