-- A list of records once the findings of the first members are written.
use Rattle.std.specs.Prelude.{ℕ, zero, suc, List, get_or, set}
use Rattle.model.specs.Table.{Member, ids}
use Rattle.model.specs.Findings.{Finding as FindingOf, finding_of}
use Rattle.finding.specs.declared.Finding.{Finding}

-- a finding as a record
abbrev pub as_record : FindingOf → Finding
as_record f = record { id = f.id; principal = f.principal; moves = f.moves }

-- the record of the member at place k
abbrev pub record_at : List Member → ℕ → Finding
record_at ms k = as_record (finding_of ms (get_or (ids ms) k 0))

-- the records ys with those of the first n members in the first n places
abbrev pub filled : List Member → ℕ → List Finding → List Finding
filled ms zero ys = ys
filled ms (suc n) ys = set (filled ms n ys) n (record_at ms n)
