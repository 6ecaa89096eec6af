-- The loop's invariant: the words from i on, placed after those before, give the whole. Assumes nothing.
use Prim.Native.Nat.{◌+◌, ◌*◌}
use mathlib.Core.Path.{◌≡◌}
use lib.ListN.{drop}
use Rattle.model.specs.Image.{words4}
use Rattle.octets.specs.Placed.{placed}
use Rattle.octets.proofs.put_words.Given as goal

abbrev pub invariant-loop-i : goal.invariant-loop-i
invariant-loop-i l = placed (l.at + 4 * l.i) (words4 (drop l.i l.ws)) l.out ≡ placed l.at (words4 l.ws) l.initial.out
