-- Laws of lists of calls, of any kind and on any state: what each call keeps, the list keeps; and what each tells of two states, the list tells.
use Rattle.std.specs.Prelude.{◌≡◌, refl, Bool, true, ◌&&◌, List, [], ◌∷◌}
use Rattle.std.proofs.Common.{ap₂}
use Rattle.model.specs.Lists.{every}
use Rattle.model.specs.Fold.{after_all, each_tells, each_meets}
use Rattle.laws.specs.Lists.{and-true, true_and}

module _ {S C : Type 0} (next : S → C → S) where
  -- what every call keeps that meets the test at its moment
  pub all_keep : (P : S → Type 0) (test : S → C → Bool) → ((c : C) (s : S) → test s c ≡ true → P s → P (next s c)) →
      (cs : List C) (s : S) → each_meets next test cs s ≡ true → P s → P (after_all next cs s)
  all_keep P test keeps [] s h p = p
  all_keep P test keeps (c ∷ cs) s h p = let b = and-true (test s c) _ h in all_keep P test keeps cs (next s c) b.1 (keeps c s b.0 p)

  -- a test of the calls alone, besides one at their moment
  pub all_meet : (f : C → Bool) (test : S → C → Bool) (cs : List C) (s : S) → every f cs ≡ true → each_meets next test cs s ≡ true → each_meets next (λ u c. f c && test u c) cs s ≡ true
  all_meet f test [] s h k = refl
  all_meet f test (c ∷ cs) s h k =
      let a = and-true (f c) _ h in
      let b = and-true (test s c) _ k in
      true_and (true_and a.0 b.0) (all_meet f test cs (next s c) a.1 b.1)

  -- two states of which every call that passes the test tells the same, and which it leaves so
  pub both_tell : {A : Type 0} (tell : S → C → A) (P : S → S → Type 0) (test : C → Bool)
      → ((c : C) (s t : S) → test c ≡ true → P s t → (tell s c ≡ tell t c) × P (next s c) (next t c))
      → (cs : List C) (s t : S) → every test cs ≡ true → P s t → (each_tells next tell cs s ≡ each_tells next tell cs t) × P (after_all next cs s) (after_all next cs t)
  both_tell tell P test one [] s t h p = (refl, p)
  both_tell {A} tell P test one (c ∷ cs) s t h p =
      let b = and-true (test c) _ h in
      let a = one c s t b.0 p in
      let r = both_tell tell P test one cs (next s c) (next t c) b.1 a.1 in
      (ap₂ (λ (x : A) (l : List A). x ∷ l) a.0 r.0, r.1)
