-- One step of a member, as the code hands it over: the record that it leaves, and what it replies.
use Rattle.std.specs.Prelude.{ℕ, ◌≡◌, List, get_or}
use Rattle.model.specs.Table.{space_of, table_of, members_in}
use Rattle.model.specs.Steps.{stabilize, stabilize_reply}
use Rattle.member.specs.declared.Member.{Member}
use Rattle.member.specs.View.{view}
use Rattle.answers.specs.Step.{values_of}
use Rattle.stabilize_at.specs.declared.TakenStep.{TakenStep}

-- o is the step of m in the table
pub record Taken (ws : List ℕ) (m : Member) (o : TakenStep) : Type 0 where
  pub leaves : view (get_or ws 0 0) o.member ≡ stabilize (space_of (table_of ws)) (members_in ws) (view (get_or ws 0 0) m)
  pub replies : values_of o.reply ≡ stabilize_reply (members_in ws) (view (get_or ws 0 0) m)
