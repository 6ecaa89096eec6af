-- `count_of` meets its contract. Assumes nothing.
use Rattle.std.proofs.Common.{◌≡◌, ◌∙◌, eqb, take, arith, rules}
use Rattle.std.specs.List.{count_by}
use Rattle.std.proofs.lemmas.List.{length-take}
use Rattle.std.proofs.lemmas.List.Sums.{count_by-le-length}
use Rattle.places.proofs.Arrays.{count_is}
use Rattle.places.proofs.count_of.Goals as goal

pub returns : goal.returns
returns c =
    let a = c.args in
    let e : c.count.result ≡ count_by (eqb a.v) (take a.n a.a.now) = search rules in
    (e ∙ count_is (eqb a.v) (take a.n a.a.now), omega (arith, e, count_by-le-length (eqb a.v) (take a.n a.a.now), length-take a.n a.a.now))
