-- `step` meets its contract: a step that is not "done", or one that is, with its notice. Assumes nothing.
use Prim.Native.Nat.{ℕ}
use mathlib.Core.Path.{◌≡◌, sym, ap, ◌∙◌}
use mathlib.Core.Bool.{Bool, true, false}
use mathlib.Core.List.{List}
use Rattle.std.specs.Prelude.{if◌then◌else◌}
use Rattle.model.specs.Table.{table_of}
use Rattle.model.specs.Steps.{stabilized}
use Rattle.model.specs.Settle.{is_done, last_step}
use Rattle.model.specs.Calls.{written}
use Rattle.turns.proofs.Lasting.{good_formed, good_still}
use Rattle.std.proofs.Common.{rules}
use Rattle.turns.proofs.Steps.{not_done, is_done_law, done_true, step_words, stepped, noticed}
use Rattle.turns.proofs.step.Goals as goal

-- both cases of the answer
abbrev Told : List ℕ → ℕ → Bool → List ℕ → Type 0
Told ws n b us = (b ≡ is_done n (table_of ws)) × (us ≡ written (if is_done n (table_of ws) then last_step n (table_of ws) else stabilized n (table_of ws)) ws)

told : (ws : List ℕ) (n : ℕ) (b : Bool) (us : List ℕ) → is_done n (table_of ws) ≡ b → us ≡ written (if b then last_step n (table_of ws) else stabilized n (table_of ws)) ws → Told ws n b us
told ws n b us d e = (sym d, e ∙ ap (λ (c : Bool). written (if c then last_step n (table_of ws) else stabilized n (table_of ws)) ws) (sym d))

pub stabilize_at-requires : goal.stabilize_at-requires
stabilize_at-requires c = record { formed_words = good_formed c.requires.good; k_bound = c.requires.stands.within }

pub returns-in_default : goal.returns-in_default
returns-in_default c =
    let left : let a = c.args in c.stabilize_at.new.t ≡ written (stabilized a.n (table_of a.t.now)) a.t.now = step_words c.args.t.now (good_formed c.requires.good) c.args.k c.args.n c.requires.stands _ c.stabilize_at.ensures.1 in
    told c.args.t.now c.args.n false _ (not_done c.args.t.now (good_formed c.requires.good) c.args.k c.args.n c.requires.stands
    c.stabilize_at.result c.stabilize_at.ensures.0 (search rules)) left

pub deliver-requires : goal.deliver-requires
deliver-requires c =
    let left : let a = c.args in c.stabilize_at.new.t ≡ written (stabilized a.n (table_of a.t.now)) a.t.now = step_words c.args.t.now (good_formed c.requires.good) c.args.k c.args.n c.requires.stands _ c.stabilize_at.ensures.1 in
    good_formed (good_still c.requires.good (stepped c.requires.good c.requires.stands left).follows)

pub returns : goal.returns
returns c =
    let left : let a = c.args in c.stabilize_at.new.t ≡ written (stabilized a.n (table_of a.t.now)) a.t.now = step_words c.args.t.now (good_formed c.requires.good) c.args.k c.args.n c.requires.stands _ c.stabilize_at.ensures.1 in
    let r = is_done_law c.args.t.now (good_formed c.requires.good) c.args.k c.args.n c.requires.stands c.stabilize_at.result c.stabilize_at.ensures.0 c.in-Done.h c.in-Done.is in
    told c.args.t.now c.args.n true _ (done_true c.args.n c.in-Done.h (table_of c.args.t.now) r)
    (noticed c.requires.good c.requires.stands left c.in-Done.h r c.deliver.ensures)
