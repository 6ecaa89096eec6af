-- The candidate of the record at the front, and one iteration of the loop over candidates. Assumes nothing.
use Prim.Native.Nat.{ℕ, zero, suc, ◌+◌, ◌-◌, ◌*◌, ◌≤◌, ◌<◌}
use mathlib.Core.Path.{◌≡◌, refl, sym, ap, ◌∙◌}
use mathlib.Core.List.{List, ◌++◌}
use mathlib.Core.Bool.{Bool, true, false, ◌&&◌}
use native.Mathlib.Omega.{arith}
use lib.ListN.{length, get_or, drop}
use borrow.Author.Tests.{eq-eqb, ne_eqb}
use Rattle.std.proofs.lemmas.List.{take_at, drop_at, length-append}
use Rattle.model.specs.Identifier.{between}
use Rattle.model.specs.Lists.{every}
use Rattle.model.specs.Table.{record_size, member_of, members_of}
use Rattle.model.specs.Ring.{successor, candidate_inside}
use Rattle.laws.specs.Parts.{first_member, one_fits, rest_fits}
use Rattle.laws.specs.Words.{member_part}

-- a pending candidate, with its test b: its member has the successor u
pub pending_inside : (ws : List ℕ) (b : Bool) (u : ℕ) → get_or ws 2 0 ≡ 1 → b ≡ between (get_or ws 0 0) (get_or ws 3 0) u → (r : ℕ) → successor (member_of r ws) ≡ u → b ≡ candidate_inside (member_of r ws)
unfolding candidate_inside
pending_inside ws b u e t r s = rw (eq-eqb _ _ e, s) t

pub none_inside : (ws : List ℕ) → (get_or ws 2 0 ≡ 1 → ⊥) → (r : ℕ) → 1 ≤ r → true ≡ candidate_inside (member_of r ws)
unfolding candidate_inside
none_inside ws n r h = rw (ne_eqb _ _ n)

-- the records p, left of them: the part of the first, with its test b, and the rest
module _ (r left more : ℕ) (p part rest : List ℕ) (front : p ≡ part ++ rest) (whole : length part ≡ record_size r) (one : more + 1 ≡ left) (b : Bool) (t : b ≡ candidate_inside (member_of r part)) where
  abbrev w : ℕ
  w = record_size r

  after : drop w p ≡ rest
  after = rw front (drop_at part rest w whole)

  others : left - 1 ≡ more
  others = omega arith

  first : member_of r part ≡ member_of r p
  first = ap (member_of r) (sym (take_at part rest w whole)) ∙ member_part r w (part ++ rest) refl (omega (arith, length-append part rest)) ∙ ap (member_of r) (sym front)

  told : every candidate_inside (members_of r left p) ≡ (b && every candidate_inside (members_of r more rest))
  told = rw (first_member r left p (omega arith), t, first, others, after)

  pub others_fit : left * w ≤ length p → more * w ≤ length rest
  others_fit h = rw (others, after) at (rest_fits r left p (omega arith) h)

  pub inside_here : b ≡ false → false ≡ every candidate_inside (members_of r left p)
  inside_here e = sym (told ∙ rw e)

  pub inside_on : b ≡ true → every candidate_inside (members_of r more rest) ≡ every candidate_inside (members_of r left p)
  inside_on e = sym (told ∙ rw e)

-- too few words for a record are left only where no record is
pub inside_end : (r left : ℕ) (p : List ℕ) → left * record_size r ≤ length p → (0 < left → length p < record_size r) → true ≡ every candidate_inside (members_of r left p)
inside_end r zero p h e = refl
inside_end r (suc left) p h e = absurd (omega (arith, e (omega arith), one_fits r (suc left) p (omega arith) h))
