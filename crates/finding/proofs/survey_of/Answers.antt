-- `survey_of` meets its contract. Assumes nothing.
use mathlib.Core.Path.{◌≡◌, refl, ◌∙◌}
use native.Mathlib.Omega.{arith}
use Rattle.model.specs.Table.{members_in}
use Rattle.model.specs.Ring.{principals, ring_members}
use Rattle.best_successors.proofs.Laws.{member_count}
use Rattle.principal.proofs.Pairs.{counted_principals}
use Rattle.finding.proofs.Surveys.{counted_ring}
use Rattle.finding.proofs.survey_of.Goals as goal

pub verdict_of-requires : goal.verdict_of-requires
verdict_of-requires c =
    let counted : c.count_of-count.result ≡ principals (members_in c.args.t.now) = c.count_of-count.ensures.0 ∙ counted_principals c.args.t.now _ c.principal_bits-principal.ensures in
    record { formed_words = c.requires; best_places = c.best_places-best.ensures; count_value = counted }

pub returns : goal.returns
returns c =
    let ring : c.count_of-on.result ≡ ring_members (members_in c.args.t.now) = c.count_of-on.ensures.0 ∙ counted_ring c.args.t.now _ c.all_moves-moves.ensures in
    let counted : c.count_of-count.result ≡ principals (members_in c.args.t.now) = c.count_of-count.ensures.0 ∙ counted_principals c.args.t.now _ c.principal_bits-principal.ensures in
    let ws = c.args.t.now in (
      record { table = c.requires; most = omega arith; principals = c.principal_bits-principal.ensures; ways = c.all_moves-moves.ensures },
      refl,
      rw (counted, ring, c.verdict_of.ensures, member_count ws),
    )
