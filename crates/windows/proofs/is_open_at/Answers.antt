-- `is_open_at` meets its contract: the words by pairs. Assumes nothing.
use Rattle.std.proofs.Common.{◌≡◌, ℕ, ◌/◌, Bool, false, ◌||◌, List, length, get_or, ◌∙◌, rules}
use Rattle.std.proofs.lemmas.Iterator.{YieldsList-from_slice}
use Rattle.std.proofs.lemmas.Iterator.Consumers.{fold_from_yields_List}
use Rattle.std.specs.Simd.{first_chunks}
use Rattle.model.specs.Windows.{window, in_window}
use Rattle.windows.proofs.Words.{open_pairs}
use Rattle.windows.proofs.is_open_at.Goals as goal

pub returns : goal.returns
returns c =
    let w = c.args.w.now in
    let front : c.as_chunks.result.0.now ≡ first_chunks 2 (length w / 2) w = c.as_chunks.ensures.front in
    let run = fold_from_yields_List _ (λ (found : Bool) (p : List ℕ). found || in_window c.args.m (window (get_or p 0 0) (get_or p 1 0))) false _ c.fold.ensures.ran (YieldsList-from_slice c.as_chunks.result.0.now cc) (λ a x b q k. search rules) in
    rw front at run ∙ open_pairs w c.args.m false
