-- `Member::drop_head` meets its contract. Assumes nothing.
use Prim.Native.Nat.{ℕ}
use mathlib.Core.Path.{◌≡◌, ap, sym, ◌∙◌}
use mathlib.Core.List.{List}
use lib.ListN.{length, take}
use Rattle.model.specs.Lists.{last_of}
use Rattle.model.specs.Identifier.{after}
use Rattle.model.specs.Table.{word_limit}
use Rattle.model.specs.Steps.{with_successors}
use Rattle.member.specs.View.{view}
use Rattle.member.proofs.Eight.{dropped, last_in_use}
use borrow.Author.Rules.{rules}
use Rattle.member.proofs.Member.drop_head.Goals as goal

pub returns : goal.returns
returns c =
    let a = c.args in
    let l = a.self.successors in
    let e : length l ≡ 8 = search rules in
    let v : c.after-next.result ≡ after word_limit (last_of (take a.r l)) = c.after-next.ensures ∙ ap (after word_limit) (sym (last_in_use a.r l e c.requires.0 c.requires.1)) in
    rw (← v) (ap (λ (x : List ℕ). with_successors x (view a.r a.self)) (dropped c.after-next.result a.r l e c.requires.0 c.requires.1))
