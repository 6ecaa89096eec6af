-- The parts of a line, as the iterator that `split` makes gives them. Assumes nothing.
use denote.Param.Members.{Mut}
use denote.Ref.{Bor}
use Rattle.std.proofs.Common.{◌≡◌, ℕ, ◌<◌, Bool, false, List, [], ◌∷◌, length, drop, get_or, eqb, Option as Answer, Some, None, refl, sym, ap}
use Rattle.std.specs.Fn.{CalledAt}
use Rattle.std.specs.Iterator.{Yields}
use Rattle.std.specs.List.{slice_split, onto_first}
use Rattle.std.specs.Slice.Iter.{split_rest, split_done, split_callee, split_steps}
use Rattle.std.specs.declared.slice.Split.{Split}
use Rattle.std.proofs.lemmas.Iterator.{YieldsList}
use Rattle.std.proofs.lemmas.Iterator.Consumers.{YieldsList-at, YieldsList-turn, YieldsList-end}
use Rattle.std.proofs.lemmas.Iterator.Splits.{YieldsList-from_slice_split}
use Rattle.script.specs.Lines.{on_first, parts}

onto : (b : ℕ) (ps : List (List ℕ)) → onto_first b ps ≡ on_first b ps
onto b [] = refl
onto b (p ∷ ps) = refl

parts_split : (l : List ℕ) → slice_split (λ b. eqb b 32) l ≡ parts l
parts_split [] = refl
parts_split (b ∷ l) = rw (parts_split l, onto b (parts l))

-- after a call of `next`
yields_next : {S A B : Type 0} {steps : S → Answer A → S → Type 0} {v : A → B} {s t : S} {x : A} {ys : List B}
    → YieldsList steps v s ys → steps s (Some x) t → (ys ≡ v x ∷ drop 1 ys) × YieldsList steps v t (drop 1 ys)
yields_next {x = x} {ys = []} e h = absurd (e.runs x _ h)
yields_next {x = x} {ys = y ∷ ys} e h = let p = e.runs.1 x _ h in (ap (λ (z : _). z ∷ ys) (sym p.0), record { runs = p.1 })

-- the first part of l is q, and t gives the others
pub record Parted {F : Type 0} (g : Mut F (Bor ℕ × Unit {0}) Bool) (l : List ℕ) (q : Bor (List ℕ)) (t : Split ℕ F) : Type 0 where
  pub first : parts l ≡ q.now ∷ drop 1 (parts l)
  pub others : YieldsList (split_steps g) (λ (y : Bor (List ℕ)). y.now) t (drop 1 (parts l))

-- after the first call of `next`
pub parted : {F : Type 0} (g : Mut F (Bor ℕ × Unit {0}) Bool) (f : F) (l : List ℕ) (s t : Split ℕ F) (r : Answer (Bor (List ℕ))) (q : Bor (List ℕ))
    → split_steps g s r t → r ≡ Some q → split_rest s ≡ l → split_done s ≡ false → split_callee s ≡ f
    → ((y : ℕ) (b : Bool) (h : F) → CalledAt g f y b h → (h ≡ f) × (b ≡ eqb y 32)) → Parted g l q t
parted g f l s t r q step is rest done callee test =
    let y = yields_next {s = s} {t = t} {x = q} (YieldsList-from_slice_split {s = s} g (λ b. eqb b 32) l rest done callee test) (rw is at step) in
    record { first = rw (← parts_split l) y.0; others = rw (← parts_split l) y.1 }

-- a loop over the other parts, after those in ps
module _ {F : Type 0} {g : Mut F (Bor ℕ × Unit {0}) Bool} {l : List ℕ} {q : Bor (List ℕ)} {t : Split ℕ F} (p : Parted g l q t) (u v w : Split ℕ F) (ps : List (Bor (List ℕ))) (o : Answer (Bor (List ℕ)))
    (starts : u ≡ t) (yielded : Yields (split_steps g) u ps v) (next : split_steps g v o w) where
  pub part_next : (x : Bor (List ℕ)) → o ≡ Some x → (length ps < length (drop 1 (parts l))) × (x.now ≡ get_or (drop 1 (parts l)) (length ps) x.now)
  part_next x e = YieldsList-turn (YieldsList-at starts p.others) ps v yielded o w x e next

  pub part_last : o ≡ None → length ps ≡ length (drop 1 (parts l))
  part_last e = (YieldsList-end (YieldsList-at starts p.others) ps v yielded o w e next).1
