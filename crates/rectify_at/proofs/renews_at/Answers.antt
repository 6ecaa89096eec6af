-- `renews_at` meets its contract: the two words read are the predecessor and the identifier. Assumes nothing.
use Prim.Native.Nat.{ℕ}
use mathlib.Core.Path.{◌≡◌, sym, ap, ◌∙◌}
use mathlib.Core.Bool.{Bool}
use Rattle.model.specs.Identifier.{between}
use lib.ListN.{get_or}
use Rattle.model.specs.Table.{Member, members_in}
use Rattle.model.specs.Ring.{nobody}
use Rattle.model.specs.Steps.{renews}
use Rattle.rectify_at.proofs.renews_at.Goals as goal

-- the words asked about are the member's
inside : (m : Member) (old n q : ℕ) (b : Bool) → b ≡ between old q n → old ≡ m.predecessor → n ≡ m.id → b ≡ between m.predecessor q m.id
inside m old n q b e p i = e ∙ (ap (λ (x : ℕ). between x q n) p ∙ ap (between m.predecessor q) i)

pub returns-then-between : goal.returns-then-between
unfolding renews
returns-then-between c =
    let h = inside (get_or (members_in c.args.t.now) c.args.k nobody) _ _ _ _ c.between.ensures c.word_at-old.ensures c.word_at-n.ensures in
    c.if-between.true ∙ rw (sym h ∙ c.if-between.true)

pub returns-else-between : goal.returns-else-between
unfolding renews
returns-else-between c =
    let h = inside (get_or (members_in c.args.t.now) c.args.k nobody) _ _ _ _ c.between.ensures c.word_at-old.ensures c.word_at-n.ensures in
    rw (sym h ∙ c.if-between.false)
