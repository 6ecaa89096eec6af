-- `runs_at` meets its contract. Assumes nothing.
use mathlib.Core.Path.{ap, ◌∙◌}
use Rattle.model.specs.Held.{keys_to}
use Rattle.held.proofs.Laws.{two_runs, one_run}
use Rattle.held.proofs.runs_at.Goals as goal

pub returns-then-at-eq0 : goal.returns-then-at-eq0
returns-then-at-eq0 c =
    let ks = c.args.ks.now in
    two_runs c.args.t.now ks c.requires.formed_words c.args.at c.requires.at_bound _ _ c.if-at-eq0.true (c.keys_to.ensures ∙ ap (keys_to ks) c.id_at-then-at-eq0.ensures)
    (c.keys_to-own.ensures ∙ ap (keys_to ks) c.id_at.ensures)

pub returns : goal.returns
returns c =
    let ks = c.args.ks.now in
    one_run c.args.t.now ks c.requires.formed_words c.args.at c.requires.at_bound _ _ c.if-at-eq0.false (c.keys_to-before.ensures ∙ ap (keys_to ks) c.id_at-2.ensures)
    (c.keys_to-own.ensures ∙ ap (keys_to ks) c.id_at.ensures)
