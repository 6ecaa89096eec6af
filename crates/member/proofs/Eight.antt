-- An array of 8 entries of which the first r are in use: what its shifts by one place make of those r. Assumes nothing.
use Prim.Native.Nat.{ℕ, zero, suc, ◌-◌, ◌≤◌}
use mathlib.Core.Path.{◌≡◌, refl, ap, ◌∙◌}
use mathlib.Core.List.{List, [], ◌∷◌, ◌++◌, append_assoc}
use native.Mathlib.Omega.{arith}
use lib.ListN.{length, get_or, take, drop, set, length-take, length-append}
use lib.Seq.{take-suc, take-append-le, take-take, take-suc-set, get_or-take}
use Rattle.model.specs.Lists.{without_last, last_of}

-- the first n entries of l, read one by one, and then t
abbrev pub entries : ℕ → List ℕ → List ℕ → List ℕ
entries zero l t = t
entries (suc n) l t = entries n l (get_or l n 0 ∷ t)

entries_take : (l : List ℕ) (n : ℕ) (t : List ℕ) → n ≤ length l → entries n l t ≡ take n l ++ t
entries_take l zero t h = refl
entries_take l (suc n) t h = entries_take l n (get_or l n 0 ∷ t) (omega arith) ∙ simp (take-suc l n 0 h, append_assoc)

-- `adopt`: x, and then the first 7 of l
pub adopted : (x r : ℕ) (l : List ℕ) → length l ≡ 8 → 1 ≤ r → r ≤ 8 → take r (x ∷ entries 7 l []) ≡ x ∷ without_last (take r l)
adopted x zero l e lo hi = absurd (omega arith)
adopted x (suc s) l e lo hi =
    let f : entries 7 l [] ≡ take 7 l ++ [] = entries_take l 7 [] (omega arith) in
    let n : length (take (suc s) l) - 1 ≡ s = simp length-take (omega arith) in
    ap (λ (k : List ℕ). x ∷ k) (rw (f, n, take-append-le s (take 7 l) [] (simp length-take (omega arith)), take-take s 7 l (omega arith), take-take s (suc s) l (omega arith)))

-- `drop_head`: the 7 entries after the first, a 0, and v stored at the last place in use
pub dropped : (v r : ℕ) (l : List ℕ) → length l ≡ 8 → 1 ≤ r → r ≤ 8
    → take r (set (get_or l 1 0 ∷ get_or l 2 0 ∷ get_or l 3 0 ∷ get_or l 4 0 ∷ get_or l 5 0 ∷ get_or l 6 0 ∷ get_or l 7 0 ∷ 0 ∷ []) (r - 1) v) ≡ drop 1 (take r l) ++ (v ∷ [])
dropped v zero l e lo hi = absurd (omega arith)
dropped v (suc s) [] e lo hi = absurd (omega arith)
dropped v (suc s) (x ∷ l) e lo hi =
    let f : entries 7 l (0 ∷ []) ≡ take 7 l ++ (0 ∷ []) = entries_take l 7 (0 ∷ []) (omega arith) in
    let n : suc s - 1 ≡ s = omega arith in
    rw (
      n,
      f,
      take-suc-set (take 7 l ++ (0 ∷ [])) s v (simp (length-append, length-take) (omega arith)),
      take-append-le s (take 7 l) (0 ∷ []) (simp length-take (omega arith)),
      take-take s 7 l (omega arith),
    )

-- the last entry in use
pub last_in_use : (r : ℕ) (l : List ℕ) → length l ≡ 8 → 1 ≤ r → r ≤ 8 → last_of (take r l) ≡ get_or l (r - 1) 0
last_in_use r l e lo hi =
    let n : length (take r l) ≡ r = simp length-take (omega arith) in
    rw (n, get_or-take r l (r - 1) 0 (omega arith))
