-- `rounds_of` meets its contract. Assumes nothing.
use Prim.Native.Nat.{ℕ, ◌+◌, ◌-◌}
use mathlib.Core.Path.{◌≡◌, sym, ap, ◌∙◌}
use mathlib.Core.List.{[], ◌∷◌}
use native.Mathlib.Omega.{arith}
use borrow.Author.Rules.{rules}
use Rattle.model.specs.Table.{table_of}
use Rattle.model.specs.Settle.{rounds_run}
use Rattle.answers.specs.Verdict.{number_of}
use Rattle.turns.proofs.Lasting.{good_still}
use Rattle.settle.proofs.Laws.{settling_starts, settling_ends, settling_on, none_left, goes_on, ideal_is_two, not_two}
use Rattle.settle.proofs.rounds_of.Goals as goal

pub loop-rounds-init : goal.loop-rounds-init
loop-rounds-init c =
    let q : c.args.limit - 0 ≡ c.args.limit = omega arith in
    settling_starts c.requires.good (rounds_run c.args.limit) (ap (λ (k : ℕ). rounds_run k (table_of c.args.t.now)) q) (search rules)

pub returns-then-eq : goal.returns-then-eq
returns-then-eq c =
    let u = c.loop-rounds.invariant in
    settling_ends c.requires.good (rounds_run c.args.limit) u c.requires.passed_value (none_left (c.args.limit - c.loop-rounds.rounds) _ (sym u.looked ∙ ideal_is_two _ _ c.eq.ensures c.if-eq.true))

pub round_of-verdict-requires : goal.round_of-verdict-requires
round_of-verdict-requires c = good_still c.requires.good c.loop-rounds.invariant.follows

pub loop-rounds-preserved : goal.loop-rounds-preserved
loop-rounds-preserved c =
    let u = c.loop-rounds.invariant in
    let limit = c.args.limit in
    settling_on c.requires.good (rounds_run limit) u (goes_on (limit - c.loop-rounds.rounds) (limit - (c.loop-rounds.rounds + 1)) _ (omega (arith, c.loop-rounds-test.true)) (λ z. not_two _ _ c.eq.ensures c.if-eq.false (u.looked ∙ z)))
    c.round_of-verdict.ensures.0 c.round_of-verdict.ensures.1

pub returns : goal.returns
returns c =
    let limit = c.args.limit in
    let z : limit - c.loop-rounds.rounds ≡ 0 = omega (arith, c.loop-rounds-test.false) in
    let all : limit ≡ c.loop-rounds.rounds = omega (arith, c.loop-rounds-test.false, c.loop-rounds.auto.rounds-end) in
    let e = settling_ends c.requires.good (rounds_run limit) c.loop-rounds.invariant c.requires.passed_value (ap (λ (k : ℕ). rounds_run k (table_of c.loop-rounds.t)) z) in
    (ap (λ (k : ℕ). k ∷ number_of c.loop-rounds.verdict ∷ c.args.passed ∷ []) all ∙ e.0, e.1)
