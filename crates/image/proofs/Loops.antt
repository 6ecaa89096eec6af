-- The loops over fields: what is left, placed after what was placed, is the whole. Assumes nothing.
use Rattle.std.proofs.Common.{◌≡◌, ℕ, zero, suc, ◌+◌, ◌*◌, ◌-◌, ◌≤◌, ◌<◌, List, ◌∷◌, ◌++◌, length, take, drop, refl, sym, ap, ◌∙◌, arith, suc-mul, zero-mul, length-append, length-drop, length-take, take-take}
use Rattle.std.proofs.lemmas.List.{take_at, drop_at}
use Rattle.model.specs.Table.{Member, record_size, member_of, record_of, members_of, records_of}
use Rattle.model.specs.Image.{field_head, member_field, member_fields, field_member, field_members}
use Rattle.laws.specs.Bytes.{field_size, field_length, field_part, in_lists}
use Rattle.laws.specs.Lists.{here}
use Rattle.laws.specs.Parts.{drop_take, one_of}
use Rattle.laws.specs.Words.{record_length, record_list, member_part}
use Rattle.octets.specs.Placed.{placed}
use Rattle.octets.proofs.Placed.{placed_then}

-- the records at the front are those of the words that they take
pub front : (r n : ℕ) (ws : List ℕ) → n * record_size r ≤ length ws → members_of r n (take (n * record_size r) ws) ≡ members_of r n ws
front r zero ws h = refl
front r (suc n) ws h =
    let w = record_size r in
    let s = suc-mul n w in
    let cut = take (suc n * w) ws in
    let a : take w cut ≡ take w ws = take-take w (suc n * w) ws (omega arith) in
    let m : member_of r cut ≡ member_of r ws =
    sym (member_part r w cut refl (simp length-take (omega arith))) ∙ ap (member_of r) a ∙ member_part r w ws refl (omega arith) in
    let z : suc n * w - w ≡ n * w = omega arith in
    rw (m, drop_take w (suc n * w) ws, z, front r n (drop w ws) (simp length-drop (omega arith)))

-- of n records the first, p, and the others
pub one_record : (r w n size : ℕ) (ws p rest : List ℕ) → w ≡ record_size r → (ws ≡ p ++ rest) × (length p ≡ size) → size ≡ w → length ws ≡ n * w
    → (members_of r n ws ≡ member_of r p ∷ members_of r (n - 1) rest) × (length rest ≡ (n - 1) * w)
one_record r w zero size ws p rest e q k h = let z = zero-mul w in let l = ap length q.0 ∙ length-append p rest in absurd (omega arith)
one_record r w (suc n) size ws p rest e q k h =
    let s = suc-mul n w in
    let l = ap length q.0 ∙ length-append p rest in
    let j : suc n - 1 ≡ n = omega arith in
    let a : record_size r ≤ length (p ++ rest) = rw (← q.0) (omega arith) in
    let d : drop (record_size r) (p ++ rest) ≡ rest = drop_at p rest (record_size r) (omega arith) in
    let m : member_of r (p ++ rest) ≡ member_of r p = sym (member_part r (record_size r) (p ++ rest) refl a) ∙ ap (member_of r) (take_at p rest (record_size r) (omega arith)) in
    (rw (j, q.0, m, d), rw j (omega arith))

-- the first of n fields, and the others
first_field : (r n : ℕ) (f : List ℕ) → 0 < n → field_members r n f ≡ field_member r (drop field_head f) ∷ field_members r (n - 1) (drop (field_size r) f)
first_field r zero f h = absurd (omega arith)
first_field r (suc n) f h = let e : suc n - 1 ≡ n = omega arith in rw e

-- in an iteration, one of n things of w: the part, and the others
one_left : (n w : ℕ) (ws part left : List ℕ) → ws ≡ part ++ left → length part ≡ w → length ws ≡ n * w → 0 < w → 0 < n
one_left zero w ws part left e l h some = let t = ap length e ∙ length-append part left in let z = zero-mul w in absurd (omega arith)
one_left (suc n) w ws part left e l h some = omega arith

pub still_fit : (n w : ℕ) (ws part left : List ℕ) → ws ≡ part ++ left → length part ≡ w → length ws ≡ n * w → 0 < w → (at b m : ℕ) → at + n * b ≤ m → at + b + (n - 1) * b ≤ m
still_fit n w ws part left e l h some at b m f = omega (arith, one_of n b (one_left n w ws part left e l h some))

-- `write_fields`: one more field
pub one_more_field : (at r n w : ℕ) (ws part left out out' : List ℕ) → w ≡ record_size r → ws ≡ part ++ left → length part ≡ w → length ws ≡ n * w → at ≤ length out
    → out' ≡ placed at (member_field (member_of r part)) out
    → (length left ≡ (n - 1) * w) × (placed (at + field_size r) (member_fields (members_of r (n - 1) left)) out' ≡ placed at (member_fields (members_of r n ws)) out)
one_more_field at r n w ws part left out out' words e l h lo one =
    let o = one_record r w n w ws part left words (e, l) refl h in
    (o.1, rw o.0 (placed_then at (field_size r) (member_field (member_of r part)) (member_fields (members_of r (n - 1) left)) out out' _ lo (field_length r (member_of r part) (record_list r part (omega arith))) one refl))

-- `read_fields`: one more record
pub one_more_record : (at r n : ℕ) (f part left t t' : List ℕ) → f ≡ part ++ left → length part ≡ field_size r → length f ≡ n * field_size r → at ≤ length t
    → t' ≡ placed at (record_of (field_member r (drop field_head part))) t
    → (length left ≡ (n - 1) * field_size r) × (placed (at + record_size r) (records_of (field_members r (n - 1) left)) t' ≡ placed at (records_of (field_members r n f)) t)
one_more_record at r n f part left t t' e l h lo one =
    let some = one_left n (field_size r) f part left e l h (omega arith) in
    let m : length (field_member r (drop field_head f)).successors ≡ r = in_lists r 1 f (field_member r (drop field_head f)) (here refl) in
    let p : take (field_size r) f ≡ part = rw e (take_at part left (field_size r) l) in
    let d : drop (field_size r) f ≡ left = rw e (drop_at part left (field_size r) l) in
    let same : field_member r (drop field_head part) ≡ field_member r (drop field_head f) = ap (λ (k : List ℕ). field_member r (drop field_head k)) (sym p) ∙ field_part r f in
    let k = ap length e ∙ length-append part left in (
      omega (arith, one_of n (field_size r) some),
      rw (first_field r n f some, d) (placed_then at (record_size r) (record_of (field_member r (drop field_head f)))
          (records_of (field_members r (n - 1) left)) t t' _ lo (record_length r (field_member r (drop field_head f)) m) (one ∙ ap (λ (k : Member). placed at (record_of k) t) same) refl),
    )

-- and the fields that are cut off behind do not matter
pub fields_front : (r n : ℕ) (f : List ℕ) → n * field_size r ≤ length f → field_members r n (take (n * field_size r) f) ≡ field_members r n f
fields_front r zero f h = refl
fields_front r (suc n) f h =
    let b = field_size r in
    let s = suc-mul n b in
    let cut = take (suc n * b) f in
    let a : take b cut ≡ take b f = take-take b (suc n * b) f (omega arith) in
    let m : field_member r (drop field_head cut) ≡ field_member r (drop field_head f) = sym (field_part r cut) ∙ ap (λ (k : List ℕ). field_member r (drop field_head k)) a ∙ field_part r f in
    let z : suc n * b - b ≡ n * b = omega arith in
    rw (m, drop_take b (suc n * b) f, z, fields_front r n (drop b f) (simp length-drop (omega arith)))

-- what is too short for one is none
pub nothing_left : (n w : ℕ) (ws : List ℕ) → length ws < w → length ws ≡ n * w → n ≡ 0
nothing_left zero w ws h k = refl
nothing_left (suc n) w ws h k = absurd (omega (arith, suc-mul n w))
