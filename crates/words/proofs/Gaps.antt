-- Words that move down in a list, and the words freed after them. Assumes nothing.
use Rattle.std.proofs.Common.{◌≡◌, ◌∙◌, ℕ, ◌+◌, ◌-◌, ◌≤◌, List, ◌++◌, length, take, drop, replicate, arith, length-take, length-drop, zero-add}
use Rattle.std.proofs.Math.Seq.{take_at, drop_at, drop-drop}
use Rattle.std.specs.List.{copy_within}
use borrow.Rule.Slice.PartMut.{put_mid}
use Rattle.laws.specs.Parts.{drop_take}

-- `close_gap`: w words are closed over, and the w words freed become 0
pub gap_closed : (t l z : List ℕ) (used w k : ℕ) → w ≤ used → used ≤ length t → l ≡ copy_within t w used 0 → z ≡ replicate w 0 → k ≡ w
    → put_mid (used - w) k l z ≡ drop w (take used t) ++ (replicate w 0 ++ drop used t)
gap_closed t l z used w k h f e q p =
    let n = used - w in
    let a : length (take n (drop w t)) ≡ n = simp (length-take, length-drop) (omega arith) in
    let b : n + w ≡ used = omega arith in
    let d : l ≡ take n (drop w t) ++ drop n t = e ∙ simp zero-add in
    rw (d, q, p, take_at (take n (drop w t)) (drop n t) n a, drop_at (take n (drop w t)) (drop n t) n a, drop-drop, b, drop_take w used t)
