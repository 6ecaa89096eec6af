-- Members against words: the records of n members are n members, and a run of members is a run of words. Assumes nothing.
use Prim.Native.Nat.{ℕ, zero, suc, ◌+◌, ◌*◌, ◌-◌, ◌≤◌, ◌<◌}
use mathlib.Core.Path.{◌≡◌, refl, sym, ap, ◌∙◌}
use mathlib.Core.List.{List, [], ◌∷◌, ◌++◌, append_assoc}
use native.Mathlib.Nat.{mul-le-mul_right, suc-mul, zero-mul, add-mul, sub-zero, suc-sub-suc, le_of_suc-le-suc}
use native.Mathlib.Omega.{arith}
use lib.ListN.{length, get_or, take, drop}
use lib.Seq.{drop-drop, get_or-drop}
use Rattle.model.specs.Table.{Member, header_size, record_size, size, table_of, member_of, record_of, members_of, members_in, records_of, ids}
use Rattle.model.specs.Ring.{nobody}
use Rattle.laws.specs.Lists.{length_ids}
use Rattle.laws.specs.Words.{members_length}
use Rattle.table.specs.FormedWords.{FormedWords}

-- Sizes

-- of n things of w words, the first k and the others
pub span : (k n w : ℕ) → k ≤ n → n * w ≡ k * w + (n - k) * w
span k n w h = let e : k + (n - k) ≡ n = omega arith in (rw e at (add-mul k (n - k) w))

-- Members of n records

pub members_take : (r k n : ℕ) (ws : List ℕ) → k ≤ n → take k (members_of r n ws) ≡ members_of r k ws
members_take r zero n ws h = refl
members_take r (suc k) zero ws h = absurd (omega arith)
members_take r (suc k) (suc n) ws h = ap (λ (x : List Member). member_of r ws ∷ x) (members_take r k n (drop (record_size r) ws) (le_of_suc-le-suc h))

-- the words before the record of index k + 1
next_offset : (k w : ℕ) → suc k * w ≡ w + k * w
next_offset k w = rw (suc-mul k w) (omega arith)

pub members_drop : (r k n : ℕ) (ws : List ℕ) → k ≤ n → drop k (members_of r n ws) ≡ members_of r (n - k) (drop (k * record_size r) ws)
members_drop r zero n ws h = rw (zero-mul (record_size r), sub-zero)
members_drop r (suc k) zero ws h = absurd (omega arith)
members_drop r (suc k) (suc n) ws h = members_drop r k n (drop (record_size r) ws) (le_of_suc-le-suc h) ∙ rw (drop-drop, ← next_offset k (record_size r), suc-sub-suc)

-- an identifier is that of the member at its place
pub id_of : (ms : List Member) (k : ℕ) → get_or (ids ms) k 0 ≡ (get_or ms k nobody).id
id_of [] k = refl
id_of (m ∷ ms) zero = refl
id_of (m ∷ ms) (suc k) = id_of ms k

-- the identifier of index k is the first word of its record
pub id_word : (r n k : ℕ) (ws : List ℕ) → k < n → get_or ws (k * record_size r) 0 ≡ get_or (ids (members_of r n ws)) k 0
id_word r zero k ws h = absurd (omega arith)
id_word r (suc n) zero ws h = rw (zero-mul (record_size r))
id_word r (suc n) (suc k) ws h = rw (next_offset k (record_size r), ← get_or-drop (record_size r) ws (k * record_size r) 0) (id_word r n k (drop (record_size r) ws) (omega arith))

-- the member of index k is what its record says
member_there : (r n k : ℕ) (ws : List ℕ) → k < n → member_of r (drop (k * record_size r) ws) ≡ get_or (members_of r n ws) k nobody
member_there r zero k ws h = absurd (omega arith)
member_there r (suc n) zero ws h = rw (zero-mul (record_size r))
member_there r (suc n) (suc k) ws h = rw (next_offset k (record_size r), ← drop-drop (k * record_size r) (record_size r) ws) (member_there r n k (drop (record_size r) ws) (omega arith))

-- the words of a record before its list
first_words : (r i : ℕ) (ws : List ℕ) → i < 4 → get_or ws i 0 ≡ get_or (record_of (member_of r ws)) i 0
first_words r zero ws h = refl
first_words r (suc zero) ws h = refl
first_words r (suc (suc zero)) ws h = refl
first_words r (suc (suc (suc zero))) ws h = refl
first_words r (suc (suc (suc (suc i)))) ws h = absurd (omega arith)

-- Records of members

pub records_append : (a b : List Member) → records_of (a ++ b) ≡ records_of a ++ records_of b
records_append [] b = refl
records_append (m ∷ a) b = ap (λ (x : List ℕ). record_of m ++ x) (records_append a b) ∙ sym (append_assoc (record_of m) (records_of a) (records_of b))

-- In the words of a whole table

module _ (ws : List ℕ) where
  pub size_words : size (table_of ws) ≡ header_size + get_or ws 1 0 * record_size (get_or ws 0 0)
  size_words = rw (members_length (get_or ws 0 0) (get_or ws 1 0) (drop header_size ws))

  pub ids_count : length (ids (members_in ws)) ≡ get_or ws 1 0
  ids_count = length_ids (members_in ws) ∙ members_length (get_or ws 0 0) (get_or ws 1 0) (drop header_size ws)

  module _ (k at : ℕ) (h : k < get_or ws 1 0) (e : at ≡ header_size + k * record_size (get_or ws 0 0)) where
    pub id_at_law : get_or ws at 0 ≡ get_or (ids (members_in ws)) k 0
    id_at_law = rw (e, ← get_or-drop header_size ws (k * record_size (get_or ws 0 0)) 0) (id_word (get_or ws 0 0) (get_or ws 1 0) k (drop header_size ws) h)

    pub record_fits : FormedWords ws → at + record_size (get_or ws 0 0) ≤ length ws
    record_fits f =
        let m : suc k * record_size (get_or ws 0 0) ≤ get_or ws 1 0 * record_size (get_or ws 0 0) = mul-le-mul_right (record_size (get_or ws 0 0)) h in
        let s = suc-mul k (record_size (get_or ws 0 0)) in
        omega arith

    pub whole : member_of (get_or ws 0 0) (drop at ws) ≡ get_or (members_in ws) k nobody
    whole = let r : ℕ = get_or ws 0 0 in rw (e, ← drop-drop (k * record_size r) header_size ws) (member_there r (get_or ws 1 0) k (drop header_size ws) h)

    -- its words before the list
    pub word_there : (i : ℕ) → i < 4 → get_or ws (at + i) 0 ≡ get_or (record_of (get_or (members_in ws) k nobody)) i 0
    word_there i l = sym (get_or-drop at ws i 0) ∙ first_words (get_or ws 0 0) i (drop at ws) l ∙ ap (λ (m : Member). get_or (record_of m) i 0) whole

    -- its list, as the part of the table after its four other words
    pub list_at : take (at + 4 + get_or ws 0 0 - (at + 4)) (drop (at + 4) ws) ≡ (get_or (members_in ws) k nobody).successors
    list_at =
        let r : ℕ = get_or ws 0 0 in
        let z : at + 4 + r - (at + 4) ≡ r = omega arith in
        rw (← whole, z, drop-drop 4 at ws)
