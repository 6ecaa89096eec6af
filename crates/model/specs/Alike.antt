-- Document 01, "Starting, saving, and the rest", as document 02's Req 08 has it: when two tables are alike.
use Rattle.std.specs.Prelude.{Bool, ◌&&◌, eqb}
use Rattle.model.specs.Lists.{same, same_by}
use Rattle.model.specs.Table.{Member, Table}

-- two records are equal but for their step counts
unfoldable pub alike_member : Member → Member → Bool
alike_member m n =
    eqb m.id n.id
    && eqb m.predecessor n.predecessor
    && eqb m.pending n.pending
    && eqb m.candidate n.candidate
    && same m.successors n.successors

-- two tables are alike: equal in r and in their members, but for step counts. So they are exactly if `uncounted` leaves the same of both
-- (`yes_is_equal`: theory, AlikeProof), and then, in slices of equal length, no list of calls tells them apart (`yes_means`)
unfoldable pub alike : Table → Table → Bool
alike A B = eqb A.r B.r && same_by alike_member A.members B.members
