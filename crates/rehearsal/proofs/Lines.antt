-- The lines of the input one after the other, and the bytes that count. Assumes nothing.
use Prim.Native.Nat.{ℕ, suc, ◌+◌, ◌≤◌, ◌<◌, min}
use Rattle.std.proofs.lemmas.List.{take_min, drop-drop}
use mathlib.Core.Path.{◌≡◌, refl, sym, ap, ◌∙◌}
use mathlib.Core.Bool.{Bool, true, false}
use mathlib.Core.List.{List, [], ◌∷◌}
use native.Mathlib.Omega.{arith}
use mathlib.Core.Logic.{◌⊎◌, inl, inr}
use lib.Dec.{eqb}
use denote.Ref.{Bor}
use Rattle.std.specs.Prelude.{Option as Answer, Some, None, MatchOption, unwrap_or}
use Rattle.std.specs.Str.{bytes_eq}
use Rattle.std.proofs.lemmas.Bool.{eqb-true, true≢false}
use lib.ListN.{length, take, drop}
use lib.Seq.{length-take-le}
use Rattle.std.specs.Prelude.{if◌then◌else◌}
use Rattle.script.specs.Lines.{on_first, counted, lines}
use Rattle.part.specs.Part.{reach}

-- the first line, and those after its line feed
pub first_line : (p : List ℕ) → 0 < length p → lines p ≡ take (reach 10 p) p ∷ lines (drop (suc (reach 10 p)) p)
first_line [] h = absurd (omega arith)
first_line (b ∷ []) h = go (eqb b 10)
  where
    go : (t : Bool) → (if t then [] ∷ [] else (b ∷ []) ∷ []) ≡ take (if t then 0 else 1) (b ∷ []) ∷ lines (drop (suc (if t then 0 else 1)) (b ∷ []))
    go true = refl
    go false = refl
first_line (b ∷ x ∷ l) h = go (eqb b 10) (first_line (x ∷ l) (omega arith))
  where
    go : (t : Bool) → lines (x ∷ l) ≡ take (reach 10 (x ∷ l)) (x ∷ l) ∷ lines (drop (suc (reach 10 (x ∷ l))) (x ∷ l))
        → (if t then [] ∷ lines (x ∷ l) else on_first b (lines (x ∷ l)))
        ≡ take (if t then 0 else suc (reach 10 (x ∷ l))) (b ∷ x ∷ l) ∷ lines (drop (suc (if t then 0 else suc (reach 10 (x ∷ l)))) (b ∷ x ∷ l))
    go true e = refl
    go false e = ap (on_first b) e

-- a line feed stands there, or nothing
at_feed : (p : List ℕ) → (drop (reach 10 p) p ≡ []) ⊎ (take 1 (drop (reach 10 p) p) ≡ 10 ∷ [])
at_feed [] = inl refl
at_feed (b ∷ l) = go (eqb b 10) refl (at_feed l)
  where
    go : (t : Bool) → eqb b 10 ≡ t → (drop (reach 10 l) l ≡ []) ⊎ (take 1 (drop (reach 10 l) l) ≡ 10 ∷ [])
        → (drop (if t then 0 else suc (reach 10 l)) (b ∷ l) ≡ []) ⊎ (take 1 (drop (if t then 0 else suc (reach 10 l)) (b ∷ l)) ≡ 10 ∷ [])
    go true e h = inr (ap (λ (x : ℕ). x ∷ []) (eqb-true b 10 e))
    go false e h = h

-- what is left of the rest r of p without the line feed
pub without_feed : (p : List ℕ) (k : ℕ) (r : Bor (List ℕ)) (o : Answer (Bor (List ℕ))) → k ≡ reach 10 p → r.now ≡ drop k p
    → MatchOption o (bytes_eq (take 1 r.now) (10 ∷ []) ≡ false) (λ x. (bytes_eq (take 1 r.now) (10 ∷ []) ≡ true) × (x.now ≡ drop 1 r.now) × (length x.now + 1 ≡ length r.now))
    → (unwrap_or o r).now ≡ drop (k + 1) p
without_feed p k r None e f h =
    let d : drop k p ≡ drop (reach 10 p) p = ap (λ (i : ℕ). drop i p) e in
    elim (at_feed p) [
      | inl z ↦ (let g : drop k p ≡ [] = d ∙ z in f ∙ g ∙ sym (ap (drop 1) g) ∙ drop-drop 1 k p)
      | inr z ↦ (let g : take 1 r.now ≡ 10 ∷ [] = rw (f, d) z in let t : true ≡ false = rw g at h in absurd (true≢false t))
    ]
without_feed p k r (Some x) e f h = h.1 ∙ ap (drop 1) f ∙ drop-drop 1 k p

-- the bytes that count
pub counts : (s : List ℕ) (k : ℕ) → k ≡ min (length s) 65536 → (k ≤ length s) × (k ≤ 65536) × (k ≡ length (take k s)) × (take k s ≡ counted s)
counts s k e =
    let f : k ≡ min 65536 (length s) = omega arith in
    let w : k ≤ length s = omega arith in
    (w, omega arith, sym (length-take-le k s w), rw f (take_min 65536 s))
