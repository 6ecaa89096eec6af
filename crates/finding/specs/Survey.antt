-- What is computed of a table before its findings are written.
use Rattle.std.specs.Prelude.{ℕ, ◌≤◌, List, get_or}
use Rattle.model.specs.Table.{members_in}
use Rattle.model.specs.Ring.{moves_to_ring}
use Rattle.table.specs.FormedWords.{FormedWords}
use Rattle.places.specs.Each.{Each}
use Rattle.principal.specs.Marks.{principal_bit}
use Rattle.finding.specs.declared.Survey.{Survey}

-- a survey of a well-formed table has the numbers of the members that it counts
pub record Surveyed (ws : List ℕ) (s : Survey) : Type 0 where
  pub table : FormedWords ws
  pub most : s.members ≤ get_or ws 1 0
  pub principals : Each (members_in ws) (principal_bit (members_in ws)) s.members s.principal
  pub ways : Each (members_in ws) (moves_to_ring (members_in ws)) s.members s.moves
