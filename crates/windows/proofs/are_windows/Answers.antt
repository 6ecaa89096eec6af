-- `are_windows` meets its contract: the words by pairs. Assumes nothing.
use Rattle.std.proofs.Common.{◌≡◌, ℕ, ◌/◌, List, length, get_or, sym, ◌∙◌, rules, true≢false, eqb-true, eq-eqb}
use Rattle.std.proofs.lemmas.Bool.{lt-leb}
use Rattle.std.proofs.lemmas.Iterator.{YieldsList-from_slice}
use Rattle.std.proofs.lemmas.Iterator.Search.{all_from_yields_List}
use Rattle.std.specs.Simd.{first_chunks}
use Rattle.model.specs.Windows.{window}
use Rattle.model.specs.Refusals.{right_window}
use Rattle.windows.proofs.Words.{right_pairs, many_wrong, odd_wrong}
use Rattle.windows.proofs.are_windows.Goals as goal
use Rattle.windows.proofs.are_windows.Goals.{then-ws-le-MOST_WORDS, else-ws-le-MOST_WORDS}

pub returns-then-is_empty : goal.returns-then-is_empty
returns-then-is_empty c =
    let ws = c.args.ws.now in
    let front : c.as_chunks.result.0.now ≡ first_chunks 2 (length ws / 2) ws = c.as_chunks.ensures.front in
    let run = all_from_yields_List (λ (p : List ℕ). right_window (window (get_or p 0 0) (get_or p 1 0))) _ _ _ c.all.ensures.ran (YieldsList-from_slice c.as_chunks.result.0.now cc) (λ x b q k. search rules) in
    elim c.if-ws-le-MOST_WORDS.branch [
      | then-ws-le-MOST_WORDS w ↦
          let even = sym c.as_chunks.ensures.back_len ∙ eqb-true _ _ (sym w.is_empty.ensures ∙ sym w.value-is ∙ c.if-is_empty.true) in
          rw front at run ∙ right_pairs ws w.if-ws-le-MOST_WORDS.true even
      | else-ws-le-MOST_WORDS w ↦ absurd (true≢false (sym c.if-is_empty.true ∙ w.value-is ∙ lt-leb _ _ w.if-ws-le-MOST_WORDS.false))
    ]

pub returns-else-is_empty : goal.returns-else-is_empty
returns-else-is_empty c =
    let ws = c.args.ws.now in
    c.if-is_empty.false ∙ elim c.if-ws-le-MOST_WORDS.branch [
      | then-ws-le-MOST_WORDS w ↦ odd_wrong ws (λ e. true≢false (sym (eq-eqb _ _ (c.as_chunks.ensures.back_len ∙ e)) ∙ sym w.is_empty.ensures ∙ sym w.value-is ∙ c.if-is_empty.false))
      | else-ws-le-MOST_WORDS w ↦ many_wrong ws w.if-ws-le-MOST_WORDS.false
    ]
