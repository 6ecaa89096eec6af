-- Document 01, "The calls of a member": what each does to a member's record and to the table, and what it replies.
use Rattle.std.specs.Prelude.{ℕ, zero, suc, ◌+◌, Bool, not, ◌||◌, List, [], ◌∷◌, ◌++◌, map, ltb, eqb, length, drop, if◌then◌else◌}
use Rattle.model.specs.Lists.{option, select, bit, last_of, without_last}
use Rattle.model.specs.Identifier.{between, after}
use Rattle.model.specs.Table.{Member, idle, Table, space_of, word_limit}
use Rattle.model.specs.Ring.{live, named, successor, is_pending, principals, ring_members, verdict, best_successor, passed_by}
use Rattle.model.specs.Answer.{Answer, accepted}

-- the record with another successor list
abbrev pub with_successors : List ℕ → Member → Member
with_successors l m = record { id = m.id; predecessor = m.predecessor; pending = m.pending; candidate = m.candidate; successors = l; steps = m.steps }

-- the record with another predecessor
abbrev pub with_predecessor : ℕ → Member → Member
with_predecessor p m = record { id = m.id; predecessor = p; pending = m.pending; candidate = m.candidate; successors = m.successors; steps = m.steps }

-- the record with another pending and candidate
abbrev pub with_pending : ℕ → ℕ → Member → Member
with_pending b c m = record { id = m.id; predecessor = m.predecessor; pending = b; candidate = c; successors = m.successors; steps = m.steps }

-- the record with another step count
abbrev pub with_steps : ℕ → Member → Member
with_steps s m = record { id = m.id; predecessor = m.predecessor; pending = m.pending; candidate = m.candidate; successors = m.successors; steps = s }

-- the table with other members
abbrev pub with_members : List Member → Table → Table
with_members ms T = record { r = T.r; members = ms }

-- the table with each step count 0: what is left of it where counts do not matter
abbrev pub uncounted : Table → Table
uncounted T = with_members (map (with_steps 0) T.members) T

-- Join

-- what j is as a new member by p: predecessor p, p's list, nothing pending, no step counted
abbrev pub joiner : List Member → ℕ → ℕ → Member
joiner ms j p = idle j p (named ms p).successors

-- the members with v among them, in its place by identifier
abbrev pub inserted : Member → List Member → List Member
inserted v [] = v ∷ []
inserted v (m ∷ ms) = if ltb v.id m.id then v ∷ m ∷ ms else m ∷ inserted v ms

-- the table after j joined by p
abbrev pub joined : ℕ → ℕ → Table → Table
joined j p T = with_members (inserted (joiner T.members j p) T.members) T

-- Stabilize

-- the first entry is dropped, and the identifier after the last entry appended
abbrev pub drop_head : ℕ → Member → Member
drop_head w m = with_successors (drop 1 m.successors ++ (after w (last_of m.successors) ∷ [])) m

-- the list becomes x, and then the list l of x without its last entry
abbrev pub adopt : ℕ → List ℕ → Member → Member
adopt x l m = with_successors (x ∷ without_last l) m

-- c is a candidate to look at in the next step
abbrev pub await_candidate : ℕ → Member → Member
await_candidate c m = with_pending 1 c m

-- nothing is pending any more
abbrev pub clear_pending : Member → Member
clear_pending m = with_pending 0 0 m

-- the predecessor c of m's successor h, a candidate for m's successor if between(m, c, h)
abbrev pub offered : List Member → Member → ℕ
offered ms m = (named ms (successor m)).predecessor

abbrev pub is_better : List Member → Member → Bool
is_better ms m = between m.id (offered ms m) (successor m)

-- pending 0, the successor h is a member: h and its list are adopted, and a better candidate is to be looked at
unfoldable pub stabilize_from_successor : List Member → Member → Member
stabilize_from_successor ms m =
    if is_better ms m
    then await_candidate (offered ms m) (adopt (successor m) (named ms (successor m)).successors m)
    else adopt (successor m) (named ms (successor m)).successors m

-- pending 1: the candidate and its list are adopted if it is a member
unfoldable pub stabilize_from_predecessor : List Member → Member → Member
stabilize_from_predecessor ms m = clear_pending (if live ms m.candidate then adopt m.candidate (named ms m.candidate).successors m else m)

-- one stabilize step of the member m
unfoldable pub stabilize : ℕ → List Member → Member → Member
stabilize w ms m =
    if is_pending m then stabilize_from_predecessor ms m
    else if live ms (successor m) then stabilize_from_successor ms m
    else drop_head w m

-- its reply: 0 is "again", 1 and c is "look" and c, 2 and h is "done" and h
unfoldable pub stabilize_reply : List Member → Member → List ℕ
stabilize_reply ms m =
    if is_pending m then 2 ∷ successor (stabilize_from_predecessor ms m) ∷ []
    else if not (live ms (successor m)) then 0 ∷ []
    else if is_better ms m then 1 ∷ offered ms m ∷ []
    else 2 ∷ successor m ∷ []

-- the step count after one step more: it stops at the largest word
unfoldable pub next_step : ℕ → ℕ
next_step s = if ltb (suc s) word_limit then suc s else s

-- the record with one step more counted
abbrev pub count_step : Member → Member
count_step m = with_steps (next_step m.steps) m

-- the members with v in the place of the one that has its identifier
abbrev pub replaced : Member → List Member → List Member
replaced v [] = []
replaced v (m ∷ ms) = if eqb m.id v.id then v ∷ ms else m ∷ replaced v ms

-- the table after a stabilize step of n, which n's own record counts
abbrev pub stabilized : ℕ → Table → Table
stabilized n T = with_members (replaced (count_step (stabilize (space_of T) T.members (named T.members n))) T.members) T

-- Rectify

-- a notice from q is written: it is between the predecessor and m, or the predecessor is no member
unfoldable pub renews : Bool → ℕ → Member → Bool
renews alive q m = between m.predecessor q m.id || not alive

-- the predecessor becomes q by that rule; alive: the predecessor is a member
abbrev pub rectify : Bool → ℕ → Member → Member
rectify alive q m = if renews alive q m then with_predecessor q m else m

-- the member m's rectify step in its table, and its reply: 1 is "new", 0 is "same"
abbrev pub rectify_in : List Member → ℕ → Member → Member
rectify_in ms q m = rectify (live ms m.predecessor) q m

abbrev pub rectify_reply : List Member → ℕ → Member → List ℕ
rectify_reply ms q m = bit (renews (live ms m.predecessor) q m) ∷ []

-- the table after n rectified with a notice from q
abbrev pub rectified : ℕ → ℕ → Table → Table
rectified n q T = with_members (replaced (rectify_in T.members q (named T.members n)) T.members) T

-- Loss and withdrawal

-- the members that stay where those go of which the test holds
abbrev pub staying : (Member → Bool) → List Member → List Member
staying gone ms = select (λ m. not (gone m)) ms

-- the table without these
abbrev pub without_those : (Member → Bool) → Table → Table
without_those gone T = with_members (staying gone T.members) T

-- the member has the identifier n
abbrev pub is_named : ℕ → Member → Bool
is_named n m = eqb m.id n

-- the table without n: after its loss, and after its withdrawal
abbrev pub without : ℕ → Table → Table
without n T = without_those (is_named n) T

-- Find

-- the walk at q, looking for the key k after so many moves and with so many entries passed over; a list without a live entry is 8 and q.
-- The first number bounds the places stood at: with the member count it never ends a walk (`lookup_answers`: theory, Lookup)
abbrev pub lookup_from : List Member → ℕ → ℕ → ℕ → ℕ → ℕ → Answer
lookup_from ms zero k q moves passed = record { number = 8; values = q ∷ [] }
lookup_from ms (suc n) k q moves passed =
    option (best_successor ms q) (record { number = 8; values = q ∷ [] })
    (λ b. if eqb k b || between q k b then accepted (b ∷ q ∷ moves ∷ (passed + passed_by ms (named ms q)) ∷ [])
    else lookup_from ms n k b (suc moves) (passed + passed_by ms (named ms q)))

-- find key k from the member n: owner, the member it was found at, moves made, and the entries passed over at the members stood at (document 02, Req 06)
abbrev pub lookup : List Member → ℕ → ℕ → Answer
lookup ms n k = lookup_from ms (length ms) k n 0 0

-- Audit

-- members, principals, ring members, verdict
abbrev pub audit_reply : Table → List ℕ
audit_reply T = length T.members ∷ principals T.members ∷ ring_members T.members ∷ verdict T ∷ []
