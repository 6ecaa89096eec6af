-- `Member::adopt` meets its contract. Assumes nothing.
use Prim.Native.Nat.{ℕ}
use mathlib.Core.Path.{ap}
use mathlib.Core.List.{List}
use Rattle.model.specs.Steps.{with_successors}
use Rattle.member.specs.View.{view}
use Rattle.member.proofs.Eight.{adopted}
use borrow.Author.Rules.{rules}
use Rattle.member.proofs.Member.adopt.Goals as goal

pub returns : goal.returns
returns c = λ r lo hi. let a = c.args in ap (λ (x : List ℕ). with_successors x (view r a.self)) (adopted a.x r a.l (search rules) lo hi)
