-- `copy_table` meets its contract: the part before the end is copied, and the words after it stay. Assumes nothing.
use Prim.Native.Nat.{ℕ, ◌≤◌}
use mathlib.Core.Path.{◌≡◌, ap, ◌∙◌}
use mathlib.Core.List.{List, ◌++◌}
use native.Mathlib.Omega.{arith}
use lib.ListN.{length, length-append, length-drop, take}
use lib.Seq.{length-take-le, take-take}
use Rattle.std.proofs.lemmas.List.{take-append-le}
use Rattle.model.specs.Table.{size, table_of}
use Rattle.table.proofs.Members.{size_words}
use Rattle.depart.proofs.copy_table.Goals as goal

-- the first n words are those that were copied
copied : (n : ℕ) (x t rest : List ℕ) → x ≡ take n t → n ≤ length t → take n (x ++ rest) ≡ take n t
copied n x t rest e h =
    let k : length x ≡ n = ap length e ∙ length-take-le n t h in
    take-append-le n x rest (omega arith) ∙ (ap (take n) e ∙ take-take n n t (omega arith))

pub returns : goal.returns
returns c =
    let ws = c.args.t.now in
    let e : size (table_of ws) ≡ c.offset-end.result = omega (arith, size_words ws) in
    let f = c.requires.formed_words in
    let k : length c.copy_from_slice.new.self ≡ c.offset-end.result = ap length c.copy_from_slice.ensures.after ∙ length-take-le c.offset-end.result ws (omega arith) in
    let most = c.offset-end.ensures.1 in
    (rw e (copied _ _ ws _ c.copy_from_slice.ensures.after (omega arith)), simp (length-append, length-drop) (omega arith))
