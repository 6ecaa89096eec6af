-- Document 01, "Starting, saving, and the rest": the new table.
use Rattle.std.specs.Prelude.{ℕ, List, map}
use Rattle.model.specs.Table.{Member, idle, Table, table_with}
use Rattle.model.specs.Ring.{next_down, next_ups}

-- the record of x in the new table of the identifiers xs
abbrev pub new_member : ℕ → List ℕ → ℕ → Member
new_member r xs x = idle x (next_down xs x) (next_ups r xs x)

-- the new table of rising identifiers: ideal, each list the next r members, no step counted
abbrev pub new_table : ℕ → List ℕ → Table
new_table r xs = table_with r (map (new_member r xs) xs)
