-- The numbers kept of a line. Assumes nothing.
use Rattle.std.proofs.Common.{◌≡◌, ℕ, ◌+◌, ◌<◌, List, [], ◌∷◌, ◌++◌, length, take, set, arith, sym, ◌∙◌, add-one}
use Rattle.std.proofs.Math.ListN.{length-append}
use Rattle.std.proofs.Math.Seq.{take-suc-set, take_all, take-append-le, length-take-le}
use Rattle.line.specs.Reading.{firsts}

module _ (n v : ℕ) (xs : List ℕ) (room : length xs ≡ 258) where
  pub kept_more : n < 258 → take (n + 1) (set xs n v) ≡ firsts (take n xs ++ (v ∷ []))
  kept_more h =
      let s = length-take-le n xs (omega arith) in
      rw (add-one, take-suc-set xs n v (omega arith)) (sym (take_all 258 (take n xs ++ (v ∷ [])) (rw length-append (omega arith))))

  pub kept_full : n ≡ 258 → take n xs ≡ firsts (take n xs ++ (v ∷ []))
  kept_full z =
      let s = length-take-le 258 xs (omega arith) in
      rw z (sym (take-append-le 258 (take 258 xs) (v ∷ []) (omega arith) ∙ take_all 258 (take 258 xs) (omega arith)))
