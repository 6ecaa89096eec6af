-- Sound or not, and the verdict, one case at a time. Assumes nothing.
use Rattle.std.specs.Prelude.{ℕ, ◌+◌, ◌≤◌, ◌<◌, ◌≡◌, refl, Bool, true, false, if◌then◌else◌}
use Rattle.std.proofs.Common.{sym, arith}
use Rattle.std.proofs.Math.Bool.{and-false}
use borrow.Author.Tests.{le-leb, lt-leb}
use Rattle.model.specs.Lists.{every}
use Rattle.model.specs.Table.{Table}
use Rattle.model.specs.Ring.{has_live, principals, candidate_inside, sound, ideal, verdict}

module _ (T : Table) where
  pub sound_inside : every (has_live T.members) T.members ≡ true → T.r < principals T.members → every candidate_inside T.members ≡ sound T
  unfolding sound
  sound_inside live many = rw (live, le-leb (T.r + 1) (principals T.members) (omega arith))

  pub sound_few : principals T.members ≤ T.r → false ≡ sound T
  unfolding sound
  sound_few h = rw (lt-leb (T.r + 1) (principals T.members) (omega arith), and-false)

  pub sound_cut_off : every (has_live T.members) T.members ≡ false → false ≡ sound T
  unfolding sound
  sound_cut_off e = rw e

  -- the verdict on a sound table, and on any other
  module _ (s : sound T ≡ true) where
    pub verdict_ideal : ideal T ≡ true → 2 ≡ verdict T
    unfolding verdict
    verdict_ideal e = rw (s, e)

    pub verdict_sound : ideal T ≡ false → 1 ≡ verdict T
    unfolding verdict
    verdict_sound e = rw (s, e)

  pub verdict_unsound : sound T ≡ false → 0 ≡ verdict T
  unfolding verdict
  verdict_unsound s = rw s

  pub verdict_few : principals T.members ≤ T.r → 0 ≡ verdict T
  verdict_few h = verdict_unsound (sym (sound_few h))

  pub verdict_cut_off : every (has_live T.members) T.members ≡ false → 0 ≡ verdict T
  verdict_cut_off e = verdict_unsound (sym (sound_cut_off e))

-- and what verdict 2 says
pub verdict_facts : (T : Table) → verdict T ≡ 2 → (sound T ≡ true) × (ideal T ≡ true)
unfolding verdict
verdict_facts T h = go (sound T) (ideal T) h
  where
    go : (a b : Bool) → ◌≡◌ {A = ℕ} (if a then if b then 2 else 1 else 0) 2 → (a ≡ true) × (b ≡ true)
    go true true e = (refl, refl)
    go true false e = absurd (omega arith)
    go false b e = absurd (omega arith)
