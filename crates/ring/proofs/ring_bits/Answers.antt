-- `ring_bits` meets its contract. Assumes nothing.
use mathlib.Core.Path.{ap, ◌∙◌}
use native.Mathlib.Omega.{arith}
use Rattle.model.specs.Lists.{bit}
use Rattle.ring.proofs.Rings.{far_ring}
use Rattle.ring.proofs.ring_bits.Goals as goal

pub returns : goal.returns
returns c =
    record {
      size = omega (arith, c.requires.formed_words.few, c.marks.ensures.size);
      at = λ k h. c.marks.ensures.at k h ∙ ap bit (far_ring c.args.t.now c.requires.formed_words c.far_places-far.result c.far_places-far.ensures k h);
    }
