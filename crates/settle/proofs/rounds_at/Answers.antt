-- `rounds_at` meets its contract. Assumes nothing.
use Prim.Native.Nat.{ℕ, ◌-◌}
use mathlib.Core.Path.{◌≡◌, refl, sym, ap, ◌∙◌}
use native.Mathlib.Omega.{arith}
use borrow.Author.Rules.{rules}
use mathlib.Core.Bool.{Bool, false}
use mathlib.Core.List.{List, ◌++◌}
use lib.ListN.{length, get_or, drop, replicate}
use Rattle.model.specs.Table.{table_of}
use Rattle.model.specs.Windows.{windows_in, is_open, of_week, rounds_at}
use Rattle.model.specs.Refusals.{bad_windows}
use Rattle.windows.proofs.Words.{few_words}
use Rattle.windows.proofs.Zeros.{padded_length, padding_opens}
use Rattle.turns.proofs.Lasting.{good_still}
use Rattle.settle.proofs.Laws.{settling_starts, settling_ends, settling_on, settling_past, none_left_at, list_ends, goes_on_at, passes_at, minutes_few, ideal_is_two, not_two}
use Rattle.settle.proofs.rounds_at.Goals as goal
use Rattle.settle.proofs.rounds_at.Goals.{then-is_due, else-is_due}

pub padded-w-requires : goal.padded-w-requires
padded-w-requires c = few_words c.args.ws.now c.requires.ws_value

pub loop-minute-init : goal.loop-minute-init
loop-minute-init c =
    let all = (rounds_at (windows_in c.args.ws.now) c.args.ts.now) in
    record { few = omega arith; runs = settling_starts c.requires.good all refl (search rules) }

pub returns-then-eq : goal.returns-then-eq
returns-then-eq c =
    let all = (rounds_at (windows_in c.args.ws.now) c.args.ts.now) in
    let u = c.loop-minute.invariant.runs in
    settling_ends c.requires.good all u c.requires.passed_value
    (none_left_at (windows_in c.args.ws.now) (drop c.loop-minute.minute-index c.args.ts.now) _ (sym u.looked ∙ ideal_is_two _ _ c.eq.ensures c.if-eq.true))

-- is the minute open, by the windows that were lent?
asked : (ws w : List ℕ) (m : ℕ) (b : Bool) → bad_windows ws ≡ false → b ≡ is_open (windows_in w) m → w ≡ ws ++ replicate (32 - length ws) 0 → b ≡ is_open (windows_in ws) m
asked ws w m b right e p = e ∙ (ap (λ (l : List ℕ). is_open (windows_in l) m) p ∙ padding_opens ws (32 - length ws) m right)

pub is_due-requires : goal.is_due-requires
is_due-requires c = ap length c.padded-w.ensures ∙ padded_length c.args.ws.now (few_words c.args.ws.now c.requires.ws_value)

pub round_of-told-requires : goal.round_of-told-requires
round_of-told-requires c = good_still c.requires.good c.loop-minute.invariant.runs.follows

pub overflow_add-rounds : goal.overflow_add-rounds
overflow_add-rounds c = omega (arith, minutes_few c.args.ts.now c.requires.ts_value, c.loop-minute.invariant.few, c.loop-minute-test.true)

pub loop-minute-preserved : goal.loop-minute-preserved
loop-minute-preserved c =
    let vs = (windows_in c.args.ws.now) in
    let ts = c.args.ts.now in
    let l = c.loop-minute in
    let all = (rounds_at vs ts) in
    let u = l.invariant.runs in
    let told = asked c.args.ws.now _ (of_week (get_or ts l.minute-index 0)) _ c.requires.ws_value c.is_due.ensures c.padded-w.ensures in
    elim c.if-is_due.branch [
      | then-is_due w ↦
          let goes = goes_on_at vs ts l.minute-index c.loop-minute-test.true (table_of l.t) (sym w.if-is_due.true ∙ told) (λ z. not_two _ _ c.eq.ensures c.if-eq.false (u.looked ∙ z)) in
          rw (w.rounds-is, w.told-is, w.t-is)
          (record { few = omega (arith, l.invariant.few); runs = settling_on c.requires.good all u goes w.round_of-told.ensures.0 w.round_of-told.ensures.1 })
      | else-is_due w ↦
          let past = passes_at vs ts l.minute-index c.loop-minute-test.true (table_of l.t) (sym w.if-is_due.false ∙ told) in
          rw (w.rounds-is, w.told-is, w.t-is) (record { few = omega (arith, l.invariant.few); runs = settling_past c.requires.good all u past })
    ]

pub returns : goal.returns
returns c =
    let all = (rounds_at (windows_in c.args.ws.now) c.args.ts.now) in
    settling_ends c.requires.good all c.loop-minute.invariant.runs c.requires.passed_value
    (list_ends (windows_in c.args.ws.now) c.args.ts.now c.loop-minute.minute-index c.loop-minute-test.false _)
