-- The model's findings in the `Finding` records of the code.
use Rattle.std.specs.Prelude.{List, map}
use Rattle.model.specs.Findings.{Finding as FindingOf}
use Rattle.finding.specs.declared.Finding.{Finding}

abbrev pub view : Finding → FindingOf
view f = record { id = f.id; principal = f.principal; moves = f.moves }

abbrev pub views : List Finding → List FindingOf
views fs = map view fs
