-- `field_here` meets its contract. Assumes nothing.
use Rattle.std.proofs.Common.{true, false, sym, ◌∙◌, arith}
use Rattle.std.proofs.lemmas.Bool.{lt-leb}
use Rattle.model.specs.Image.{field_stands}
use Rattle.due.proofs.Due.{stands}
use Rattle.due.proofs.field_here.Goals as goal

pub returns-then-image-next : goal.returns-then-image-next
unfolding field_stands
returns-then-image-next c = simp (lt-leb _ _ c.if-image-next.true)

pub returns-then-not-head_is : goal.returns-then-not-head_is
returns-then-not-head_is c = let a = c.args in rw (stands a.image.now a.at a.tag a.len false (omega arith) (sym c.head_is.ensures ∙ c.if-not-head_is.true))

pub returns : goal.returns
returns c = let a = c.args in rw (stands a.image.now a.at a.tag a.len true (omega arith) (sym c.head_is.ensures ∙ c.if-not-head_is.false)) (cc)
