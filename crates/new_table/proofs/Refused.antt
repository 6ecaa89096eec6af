-- What holds where a new table may be made. Assumes nothing.
use Prim.Native.Nat.{ℕ, ◌+◌, ◌≤◌}
use mathlib.Core.Path.{◌≡◌}
use mathlib.Core.Bool.{◌&&◌, true}
use mathlib.Core.List.{List}
use lib.ListN.{length}
use lib.Dec.{ltb, leb}
use borrow.Author.Tests.{ltb-false, leb-true, not-false}
use Rattle.model.specs.Lists.{rising}
use Rattle.model.specs.Table.{size}
use Rattle.model.specs.New.{new_table}
use Rattle.model.specs.Refusals.{no_new_table, new_refusal}
use Rattle.laws.specs.Lists.{and-true}
use Rattle.laws.specs.Accepted.{none_applies}

-- what holds where there is no cause
pub record MayBeMade (n r : ℕ) (xs : List ℕ) : Type 0 where
  pub in_order : rising xs ≡ true
  pub list_high : r ≤ 8
  pub count_high : length xs ≤ 256
  pub room : size (new_table r xs) ≤ n

pub new_accepted : (n r : ℕ) (xs : List ℕ) → new_refusal n r xs ≡ 0 → MayBeMade n r xs
unfolding new_refusal no_new_table
new_accepted n r xs h =
    let a = none_applies 10 (no_new_table r xs) _ h in
    let b = none_applies 9 (ltb n (size (new_table r xs))) 0 a.1 in
    let m : (leb 1 r && leb r 8 && rising xs && leb (r + 1) (length xs) && leb (length xs) 256) ≡ true = not-false _ a.0 in
    let c = and-true _ (leb (length xs) 256) m in
    let d = and-true _ _ c.0 in
    let e = and-true _ _ d.0 in
    let f = and-true (leb 1 r) (leb r 8) e.0 in
    record { in_order = e.1; list_high = leb-true r 8 f.1; count_high = leb-true (length xs) 256 c.1; room = ltb-false n (size (new_table r xs)) b.0 }
