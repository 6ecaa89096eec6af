-- `are_minutes` meets its contract. Assumes nothing.
use Rattle.std.proofs.Common.{sym, ◌∙◌, rules}
use Rattle.std.proofs.lemmas.Option.{MatchOption-at_none, MatchOption-at_some}
use Rattle.windows.proofs.Minutes.{last_decides, not_rising}
use Rattle.windows.proofs.are_minutes.Goals as goal

pub returns-then-is_rising : goal.returns-then-is_rising
returns-then-is_rising c =
    let m = c.is_none_or.ensures in
    last_decides _ _ _ (sym c.is_rising.ensures ∙ c.if-is_rising.true) c.last.ensures.item (λ e. MatchOption-at_none _ _ e m) (λ x e. let k = MatchOption-at_some _ _ x e m in search rules)

pub returns-else-is_rising : goal.returns-else-is_rising
returns-else-is_rising c = c.if-is_rising.false ∙ not_rising c.args.ts.now (sym c.is_rising.ensures ∙ c.if-is_rising.false)
