-- `candidates_inside` meets its contract. The invariant: the records left answer as all do. Assumes nothing.
use Rattle.std.proofs.Common.{◌≡◌, ◌+◌, ◌-◌, ◌++◌, sym, ◌∙◌, arith}
use Rattle.std.proofs.lemmas.List.{take-append-drop}
use Rattle.laws.specs.Parts.{one_fits}
use Rattle.verdict.proofs.Records.{others_fit, inside_here, inside_on}
use Rattle.verdict.proofs.candidates_inside.Goals as goal

pub split_at-requires : goal.split_at-requires
split_at-requires c =
    let k = c.loop in
    rw c.record_size-w.ensures (one_fits c.args.r (c.args.n - k.counter) k.left.now (omega arith) k.invariant.0)

pub returns-then-not-candidate_inside : goal.returns-then-not-candidate_inside
returns-then-not-candidate_inside c =
    let k = c.loop in
    let s = c.split_at.ensures in
    let front : k.left.now ≡ c.split_at.result.0.now ++ c.split_at.result.1.now = rw (s.front, s.back) (sym (take-append-drop c.record_size-w.result k.left.now)) in
    inside_here c.args.r (c.args.n - k.counter) (c.args.n - (k.counter + 1)) k.left.now _ _ front (s.front_len ∙ c.record_size-w.ensures) (omega arith) c.candidate_inside.result (c.candidate_inside.ensures c.args.r c.requires.0) c.if-not-candidate_inside.true ∙ k.invariant.1

pub loop-preserved : goal.loop-preserved
loop-preserved c =
    let k = c.loop in
    let s = c.split_at.ensures in
    let front : k.left.now ≡ c.split_at.result.0.now ++ c.split_at.result.1.now = rw (s.front, s.back) (sym (take-append-drop c.record_size-w.result k.left.now)) in
    let one : c.args.n - (k.counter + 1) + 1 ≡ c.args.n - k.counter = omega arith in (
      others_fit c.args.r (c.args.n - k.counter) (c.args.n - (k.counter + 1)) k.left.now _ _ front (s.front_len ∙ c.record_size-w.ensures) one c.candidate_inside.result (c.candidate_inside.ensures c.args.r c.requires.0) k.invariant.0,
      inside_on c.args.r (c.args.n - k.counter) (c.args.n - (k.counter + 1)) k.left.now _ _ front (s.front_len ∙ c.record_size-w.ensures) one c.candidate_inside.result (c.candidate_inside.ensures c.args.r c.requires.0) c.if-not-candidate_inside.false ∙ k.invariant.1,
    )
