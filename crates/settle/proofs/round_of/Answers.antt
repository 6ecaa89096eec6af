-- `round_of` meets its contract: the round keeps the table sound, so the verdict after it needs no test of that. Assumes nothing.
use mathlib.Core.Path.{ap, ◌∙◌}
use Rattle.model.specs.Table.{table_of}
use Rattle.model.specs.Ring.{verdict}
use Rattle.model.specs.Settle.{after_round}
use Rattle.turns.proofs.Lasting.{Next, good_still}
use Rattle.settle.proofs.Laws.{round_next}
use Rattle.settle.proofs.round_of.Goals as goal

pub verdict_now-requires : goal.verdict_now-requires
verdict_now-requires c =
    let ran : let ws = c.args.t.now in Next ws (after_round (table_of ws)) c.run_round.new.t = round_next c.requires c.run_round.ensures in
    good_still c.requires ran.follows

pub returns : goal.returns
returns c =
    let ran : let ws = c.args.t.now in Next ws (after_round (table_of ws)) c.run_round.new.t = round_next c.requires c.run_round.ensures in
    (c.verdict_now.ensures ∙ ap verdict ran.has, c.run_round.ensures)
