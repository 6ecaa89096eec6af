-- A window by distances from its start that go round: it holds the minutes that are nearer than its end. Assumes nothing.
use Rattle.std.proofs.Common.{◌≡◌, ℕ, ◌+◌, ◌-◌, ◌%◌, ◌^◌, ◌<◌, ltb, ◌⊎◌, sym, ◌∙◌, inl, inr, arith, le-ltb, lt-ltb}
use Rattle.model.specs.Windows.{window, in_window}
use Rattle.laws.specs.Windows.{Within, inside, late, early, Shut, before, behind, amid, within_open, shut_closed, within?}

-- a is the distance of the minute from the start, b that of the end
pub by_distance : (m s e a b : ℕ) → m < 2 ^ 32 → s < 2 ^ 32 → e < 2 ^ 32 → a < 2 ^ 32 → b < 2 ^ 32 → (a + s) % 4294967296 ≡ m → (b + s) % 4294967296 ≡ e → ltb a b ≡ in_window m (window s e)
by_distance m s e a b hm hs he ha hb p q = go (within? m (window s e))
  where
    go : Within m s e ⊎ Shut m s e → ltb a b ≡ in_window m (window s e)
    go (inl (inside x y z)) = lt-ltb a b (omega arith) ∙ sym (within_open m (window s e) (inside x y z))
    go (inl (late x y)) = lt-ltb a b (omega arith) ∙ sym (within_open m (window s e) (late x y))
    go (inl (early x y)) = lt-ltb a b (omega arith) ∙ sym (within_open m (window s e) (early x y))
    go (inr (before x y)) = le-ltb a b (omega arith) ∙ sym (shut_closed m (window s e) (before x y))
    go (inr (behind x y)) = le-ltb a b (omega arith) ∙ sym (shut_closed m (window s e) (behind x y))
    go (inr (amid x y z)) = le-ltb a b (omega arith) ∙ sym (shut_closed m (window s e) (amid x y z))

pub told_by_distance : (m s e : ℕ) → m < 2 ^ 32 → s < 2 ^ 32 → e < 2 ^ 32 → ltb ((m + (4294967296 - s)) % 4294967296) ((e + (4294967296 - s)) % 4294967296) ≡ in_window m (window s e)
told_by_distance m s e hm hs he = by_distance m s e _ _ hm hs he (omega arith) (omega arith) (omega arith) (omega arith)
