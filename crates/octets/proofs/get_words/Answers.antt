-- `get_words` meets its contract: a run of eight, and one after it. Assumes nothing.
use Prim.Native.Nat.{ℕ, ◌-◌}
use mathlib.Core.List.{List}
use mathlib.Core.Path.{refl, ap, ◌∙◌}
use native.Mathlib.Omega.{arith}
use lib.ListN.{drop}
use Rattle.model.specs.Image.{numbers_at}
use Rattle.laws.specs.Parts.{part_from}
use Rattle.octets.proofs.Placed.{placed_then, numbers_more}
use Rattle.octets.specs.Placed.{placed}
use Rattle.octets.proofs.get_words.Goals as goal

pub returns-then-n-ge8 : goal.returns-then-n-ge8
returns-then-n-ge8 c =
    let a = c.args in
    let eight = numbers_at 8 a.bs.now in
    let more = numbers_at (a.n - 8) (drop 32 a.bs.now) in
    placed_then a.at 8 eight more a.t.now c.get_run.new.t _ (omega arith) refl c.get_run.ensures
    (rw part_from at c.get_run-then-n-ge8.ensures) ∙ ap (λ (l : List ℕ). placed a.at l a.t.now)
    (numbers_more 8 (a.n - 8) a.n a.bs.now (omega arith))
