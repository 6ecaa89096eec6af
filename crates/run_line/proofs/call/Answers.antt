-- `call` meets its contract: one of the seven calls, or `new`. Assumes nothing.
use Prim.Native.Nat.{ℕ, ◌≤◌}
use mathlib.Core.Path.{◌≡◌}
use mathlib.Core.Bool.{true}
use mathlib.Core.List.{List}
use mathlib.Core.Option.{none}
use native.Mathlib.Omega.{arith}
use lib.ListN.{length}
use borrow.Author.Tests.{leb-true}
use Rattle.laws.specs.Parts.{part_from}
use Rattle.script.specs.declared.Word.{Word}
use Rattle.script.specs.declared.Word.TheVariants.{New, Join, Stab, Rect, Out, Drop, Find, Audit}
use Rattle.script.specs.Lines.{takes}
use Rattle.script.specs.Session.{call_named, word_answer, word_words}
use Rattle.run_line.proofs.call.Goals.{In_default}
use Rattle.run_line.proofs.call.Goals as goal

-- `new` has a number at least
new_some : (w : Word) (ns : List ℕ) → none ≡ call_named w ns → takes w (length ns) ≡ true → 1 ≤ length ns
new_some New ns e t = leb-true 1 (length ns) t
new_some Join ns e t = (cc)
new_some Stab ns e t = (cc)
new_some Rect ns e t = (cc)
new_some Out ns e t = (cc)
new_some Drop ns e t = (cc)
new_some Find ns e t = (cc)
new_some Audit ns e t = (cc)

some : (c : In_default) → 1 ≤ length c.args.xs.now
some c = new_some c.args.w c.args.xs.now c.in_default.ensures c.requires

pub bounds-xs-0 : goal.bounds-xs-0
bounds-xs-0 c = omega (arith, some (goal.at.bounds-xs-0 c).In_default)

pub slice_bounds-new-count : goal.slice_bounds-new-count
slice_bounds-new-count c = some (goal.at.slice_bounds-new-count c).In_default

pub slice_bounds-new-start : goal.slice_bounds-new-start
slice_bounds-new-start c = some (goal.at.slice_bounds-new-start c).In_default

pub returns-in_default : goal.returns-in_default
unfolding word_answer word_words
returns-in_default c = rw (← c.in_default.ensures, ← part_from 1 c.args.xs.now) (rw c.new.ensures.0 at c.numbers.ensures, c.new.ensures.1)

pub returns : goal.returns
unfolding word_answer word_words
returns c = rw (← c.in-Some.ensures) c.apply.ensures
