-- A table and its words: what is written is read back, and as many words as the table's size.
use Rattle.std.specs.Prelude.{◌≡◌, refl, List, [], ◌∷◌, ◌++◌, ℕ, zero, suc, ◌+◌, ◌*◌, ◌≤◌, length, get_or, take, drop, set, replicate}
use Rattle.std.proofs.Common.{sym, ap, ap₂, ◌∙◌, ⊎_elim, append_assoc, append-nil, arith, take-append-drop, length-append, length-take, length-drop, length-take-le, take_at, drop_at, take-add, take-suc, get_or-take}
use Rattle.std.proofs.lemmas.List.{length-replicate, get_or_at}
use Rattle.model.specs.Lists.{overlay}
use Rattle.model.specs.Table.{Member, Table, header_size, header_of, record_size, size, member_of, record_of, members_of, records_of, table_of, words_of}
use Rattle.model.specs.Steps.{with_members}
use Rattle.model.specs.Calls.{written, written_freed}
use Rattle.laws.specs.Lists.{In, here, there, in_cons, in_left, in_right}

-- each member's list has r entries
abbrev pub Lengths : ℕ → List Member → Type 0
Lengths r ms = (m : Member) → In m ms → length m.successors ≡ r

-- Reading what was written

pub record_length : (r : ℕ) (m : Member) → length m.successors ≡ r → length (record_of m) ≡ record_size r
record_length r m e = omega (arith, length-append m.successors (m.steps ∷ []))

pub record_read : (r : ℕ) (m : Member) (rest : List ℕ) → length m.successors ≡ r → member_of r (record_of m ++ rest) ≡ m
record_read r m rest e =
    let apart : (m.successors ++ (m.steps ∷ [])) ++ rest ≡ m.successors ++ (m.steps ∷ rest) = append_assoc m.successors (m.steps ∷ []) rest in
    let list : take r ((m.successors ++ (m.steps ∷ [])) ++ rest) ≡ m.successors = ap (take r) apart ∙ take_at m.successors (m.steps ∷ rest) r e in
    let count : get_or ((m.successors ++ (m.steps ∷ [])) ++ rest) r 0 ≡ m.steps = ap (λ (l : List ℕ). get_or l r 0) apart ∙ get_or_at m.successors m.steps rest 0 r e in
    λ i. record { id = m.id; predecessor = m.predecessor; pending = m.pending; candidate = m.candidate; successors = list i; steps = count i }

-- what a slice's first words say is a member with r entries
pub record_list : (r : ℕ) (ws : List ℕ) → record_size r ≤ length ws → length (member_of r ws).successors ≡ r
record_list r ws h = simp (length-take, length-drop) (omega arith)

-- the identifiers of a member are words of its record
pub record_has : {x : ℕ} (m : Member) → In x (m.id ∷ m.predecessor ∷ m.candidate ∷ m.successors) → In x (record_of m)
record_has m i = ⊎_elim here (λ j. there (⊎_elim here (λ k. there (there (⊎_elim here (λ n. there (in_left (m.steps ∷ []) n)) (in_cons k)))) (in_cons j))) (in_cons i)

-- and so is its step count
pub record_steps : (m : Member) → In m.steps (record_of m)
record_steps m = there (there (there (there (in_right m.successors (here refl)))))

pub records_read : (r : ℕ) (ms : List Member) (rest : List ℕ) → Lengths r ms → members_of r (length ms) (records_of ms ++ rest) ≡ ms
records_read r [] rest h = refl
records_read r (m ∷ ms) rest h =
    let first : length m.successors ≡ r = h m (here refl) in
    let apart : (record_of m ++ records_of ms) ++ rest ≡ record_of m ++ (records_of ms ++ rest) = append_assoc (record_of m) (records_of ms) rest in
    let later : drop (record_size r) (record_of m ++ (records_of ms ++ rest)) ≡ records_of ms ++ rest = drop_at (record_of m) (records_of ms ++ rest) (record_size r) (record_length r m first) in
    let one : member_of r ((record_of m ++ records_of ms) ++ rest) ≡ m = ap (member_of r) apart ∙ record_read r m (records_of ms ++ rest) first in
    let others : members_of r (length ms) (drop (record_size r) ((record_of m ++ records_of ms) ++ rest)) ≡ ms =
    ap (λ (k : List ℕ). members_of r (length ms) (drop (record_size r) k)) apart ∙ ap (members_of r (length ms)) later
    ∙ records_read r ms rest (λ k i. h k (there i)) in
    ap₂ (λ (a : Member) (k : List Member). a ∷ k) one others

pub words_read : (T : Table) (rest : List ℕ) → Lengths T.r T.members → table_of (words_of T ++ rest) ≡ T
words_read T rest h = λ i. record { r = T.r; members = records_read T.r T.members rest h i }

-- Sizes

pub members_length : (r n : ℕ) (ws : List ℕ) → length (members_of r n ws) ≡ n
members_length r zero ws = refl
members_length r (suc n) ws = ap suc (members_length r n (drop (record_size r) ws))

pub records_length : (r : ℕ) (ms : List Member) → Lengths r ms → length (records_of ms) ≡ length ms * record_size r
records_length r [] h = omega arith
records_length r (m ∷ ms) h = rw (length-append (record_of m) (records_of ms)) (omega (arith, record_length r m (h m (here refl)), records_length r ms (λ k i. h k (there i))))

pub words_length : (T : Table) → Lengths T.r T.members → length (words_of T) ≡ size T
words_length T h = omega (arith, records_length T.r T.members h)

-- A slice with a table written into it

pub written_table : (T : Table) (ws : List ℕ) → Lengths T.r T.members → table_of (written T ws) ≡ T
written_table T ws h = words_read T (drop (length (words_of T)) ws) h

pub written_freed_table : (T : Table) (ws : List ℕ) → Lengths T.r T.members → table_of (written_freed T ws) ≡ T
written_freed_table T ws h = ap table_of (append_assoc (words_of T) freed _) ∙ words_read T (freed ++ drop (length (words_of T ++ freed)) ws) h
  where
    freed : List ℕ
    freed = replicate (record_size T.r) 0

-- the words after it stay as they were
pub written_rest : (T : Table) (ws : List ℕ) (n : ℕ) → Lengths T.r T.members → size T ≡ n → drop n (written T ws) ≡ drop n ws
written_rest T ws n h e = let q : length (words_of T) ≡ n = words_length T h ∙ e in drop_at (words_of T) (drop (length (words_of T)) ws) n q ∙ ap (λ (k : ℕ). drop k ws) q

overlay_length : (new old : List ℕ) → length new ≤ length old → length (overlay new old) ≡ length old
overlay_length new old h = simp (length-append, length-drop) (omega arith)

pub written_length : (T : Table) (ws : List ℕ) → Lengths T.r T.members → size T ≤ length ws → length (written T ws) ≡ length ws
written_length T ws h le = overlay_length (words_of T) ws (omega (arith, words_length T h))

pub written_freed_length : (T : Table) (ws : List ℕ) → Lengths T.r T.members → size T + record_size T.r ≤ length ws → length (written_freed T ws) ≡ length ws
written_freed_length T ws h le = overlay_length (words_of T ++ replicate (record_size T.r) 0) ws (simp (length-append, length-replicate) (omega (arith, words_length T h)))

-- Writing what was read

pub record_written : (r : ℕ) (ws : List ℕ) → record_size r ≤ length ws → record_of (member_of r ws) ≡ take (record_size r) ws
record_written r [] h = absurd (omega arith)
record_written r (a ∷ []) h = absurd (omega arith)
record_written r (a ∷ b ∷ []) h = absurd (omega arith)
record_written r (a ∷ b ∷ c ∷ []) h = absurd (omega arith)
record_written r (a ∷ b ∷ c ∷ d ∷ l) h = let q : record_size r ≡ suc (suc (suc (suc (suc r)))) = omega arith in rw q (ap (λ (k : List ℕ). a ∷ b ∷ c ∷ d ∷ k) (sym (take-suc l r 0 (omega arith))))

-- so the part of a record's words says the same member
pub member_part : (r w : ℕ) (ws : List ℕ) → w ≡ record_size r → w ≤ length ws → member_of r (take w ws) ≡ member_of r ws
member_part r w ws e h =
    let m = member_of r ws in
    let n : record_size r ≤ length ws = omega arith in
    ap (λ (k : ℕ). member_of r (take k ws)) e ∙ ap (member_of r) (sym (record_written r ws n) ∙ sym (append-nil (record_of m))) ∙ record_read r m [] (record_list r ws n)

pub records_written : (r n : ℕ) (ws : List ℕ) → n * record_size r ≤ length ws → records_of (members_of r n ws) ≡ take (n * record_size r) ws
records_written r zero ws h = let q : 0 * record_size r ≡ 0 = omega arith in rw q
records_written r (suc n) ws h =
    let q : suc n * record_size r ≡ record_size r + n * record_size r = omega arith in
    ap₂ (λ (a b : List ℕ). a ++ b) (record_written r ws (omega arith)) (records_written r n (drop (record_size r) ws) (rw length-drop (omega arith)))
    ∙ rw q (sym (take-add (record_size r) (n * record_size r) ws))

-- the first words of a slice are its table's header
abbrev pub OwnHeader : List ℕ → Type 0
OwnHeader ws = header_of (table_of ws) ≡ take header_size ws

-- so they are where the step count is 0
pub header_written : (ws : List ℕ) → header_size ≤ length ws → get_or ws 2 0 ≡ 0 → OwnHeader ws
header_written [] h z = absurd (omega arith)
header_written (a ∷ []) h z = absurd (omega arith)
header_written (a ∷ b ∷ []) h z = absurd (omega arith)
header_written (a ∷ b ∷ c ∷ l) h z = ap₂ (λ (n s : ℕ). a ∷ n ∷ s ∷ []) (members_length a b l) (sym z)

-- and nowhere else
pub header_steps : (ws : List ℕ) → OwnHeader ws → get_or ws 2 0 ≡ 0
header_steps ws e = sym (get_or-take header_size ws 2 0 (omega arith)) ∙ sym (ap (λ (l : List ℕ). get_or l 2 0) e)

-- then the first words, up to any after the header, are the header and the first words of the records
pub header_take : (ws : List ℕ) (n : ℕ) → OwnHeader ws → take (header_size + n) ws ≡ header_of (table_of ws) ++ take n (drop header_size ws)
header_take ws n h = take-add header_size n ws ∙ ap (λ (k : List ℕ). k ++ take n (drop header_size ws)) (sym h)

-- the header of a table with other members: the count alone is another
pub header_counted : (T : Table) (ms : List Member) (n : ℕ) (rest : List ℕ) → n ≡ length ms → set (header_of T ++ rest) 1 n ≡ header_of (with_members ms T) ++ rest
header_counted T ms n rest e = rw e

pub header_same : (T : Table) (ms : List Member) → length ms ≡ length T.members → header_of T ≡ header_of (with_members ms T)
header_same T ms e = rw e

-- a slice that is no shorter than its table: the words of its table are its first, and writing them changes nothing
pub words_written : (ws : List ℕ) → OwnHeader ws → size (table_of ws) ≤ length ws → words_of (table_of ws) ≡ take (size (table_of ws)) ws
words_written ws h le =
    let r : ℕ = get_or ws 0 0 in
    let n : ℕ = get_or ws 1 0 in
    let e = members_length r n (drop header_size ws) in
    let fits : n * record_size r ≤ length (drop header_size ws) = rw length-drop (omega (arith, ap (λ (k : ℕ). k * record_size r) e)) in
    ap₂ (λ (a b : List ℕ). a ++ b) h (records_written r n (drop header_size ws) fits) ∙ rw e (sym (take-add header_size (n * record_size r) ws))

overlay_take : (n : ℕ) (ws : List ℕ) → n ≤ length ws → overlay (take n ws) ws ≡ ws
overlay_take n ws h = rw (length-take-le n ws h, take-append-drop)

pub written_same : (ws : List ℕ) → OwnHeader ws → size (table_of ws) ≤ length ws → written (table_of ws) ws ≡ ws
written_same ws h le = ap (λ (k : List ℕ). overlay k ws) (words_written ws h le) ∙ overlay_take (size (table_of ws)) ws le

-- A table written over another of its size leaves nothing of it

overlay_over : (new between old : List ℕ) → length new ≡ length between → overlay new (overlay between old) ≡ overlay new old
overlay_over new between old e = rw (e, drop_at between (drop (length between) old) (length between) refl)

pub written_over : (T U : Table) (ws : List ℕ) → Lengths T.r T.members → Lengths U.r U.members → size T ≡ size U → written T (written U ws) ≡ written T ws
written_over T U ws h k e = overlay_over (words_of T) (words_of U) ws (omega (arith, words_length T h, words_length U k))
