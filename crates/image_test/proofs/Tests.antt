-- What `fields_ok` goes over, one field at a time. Assumes nothing.
use Rattle.std.proofs.Common.{◌≡◌, ℕ, zero, suc, ◌+◌, ◌-◌, ◌*◌, ◌<◌, ◌&&◌, List, [], ◌∷◌, ◌++◌, length, take, drop, sym, ap, refl, ◌∙◌, arith, append_assoc, length-append, suc-mul, get_or-take}
use Rattle.std.proofs.lemmas.List.{take_at, drop_at}
use Rattle.model.specs.Table.{Member}
use Rattle.laws.specs.Bytes.{field_size, number_part, field_part}
use Rattle.fields.specs.Fields.{head_is, id_in}
use Rattle.image_test.specs.Tests.{field_right, fields_right}

-- the test looks at the field's own bytes
id_part : (r : ℕ) (f : List ℕ) → id_in (take (field_size r) f) ≡ id_in f
id_part r f = ap (λ (x : Member). x.id) (field_part r f)

pub right_part : (r lo : ℕ) (f : List ℕ) → field_right r lo (take (field_size r) f) ≡ field_right r lo f
unfolding field_right
right_part r lo f =
    let m = field_part r f in
    rw (
      get_or-take (field_size r) f 0 0 (omega arith),
      number_part 1 2 (field_size r) f (omega arith),
      ap (λ (x : Member). x.id) m,
      ap (λ (x : Member). x.pending) m,
      ap (λ (x : Member). x.candidate) m,
    )

-- `fields_ok`: a part with a field is the first of n, and the n - 1 others are left
module _ (r lo : ℕ) (rest part left last : List ℕ) (e : rest ≡ part ++ left) (l : length part ≡ field_size r) where
  pub one_field : (n : ℕ) → length rest ≡ n * field_size r
      → (length left ≡ (n - 1) * field_size r) × (fields_right r lo n (rest ++ last) ≡ (field_right r lo part && fields_right r (id_in part + 1) (n - 1) (left ++ last)))
  one_field zero h = let t : length rest ≡ length part + length left = rw e (length-append part left) in absurd (omega arith)
  one_field (suc n) h =
      let t : length rest ≡ length part + length left = rw e (length-append part left) in
      let k : suc n - 1 ≡ n = omega arith in
      let f : rest ++ last ≡ part ++ (left ++ last) = rw e (append_assoc part left last) in
      let p : take (field_size r) (part ++ (left ++ last)) ≡ part = take_at part (left ++ last) (field_size r) l in
      let d : drop (field_size r) (part ++ (left ++ last)) ≡ left ++ last = drop_at part (left ++ last) (field_size r) l in
      let i : id_in (part ++ (left ++ last)) ≡ id_in part = sym (id_part r (part ++ (left ++ last))) ∙ ap id_in p in
      let q : field_right r lo (part ++ (left ++ last)) ≡ field_right r lo part = sym (right_part r lo (part ++ (left ++ last))) ∙ ap (field_right r lo) p in
      (rw k (omega (arith, suc-mul n (field_size r))), rw (k, f, d, i, q))

-- and where none is left, the last follows
pub last_field : (r lo n : ℕ) (rest last : List ℕ) → length rest < field_size r → length rest ≡ n * field_size r → head_is last 3 0 ≡ fields_right r lo n (rest ++ last)
last_field r lo zero [] last h k = refl
last_field r lo zero (x ∷ rest) last h k = absurd (omega arith)
last_field r lo (suc n) rest last h k = absurd (omega (arith, suc-mul n (field_size r)))
