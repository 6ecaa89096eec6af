-- Alike, stated (document 02, Req 08): what a yes means, and what a no may tell. With model this is all that its reader must believe; AlikeProof proves the first,
-- Unlike the second.
use Rattle.std.specs.Prelude.{ℕ, ◌≡◌, true, List, [], ◌∷◌, ltb, eqb, length, if◌then◌else◌}
use Rattle.model.specs.Lists.{every}
use Rattle.model.specs.Table.{space_of, table_of, members_in, ids, well_formed}
use Rattle.model.specs.Ring.{live, named}
use Rattle.model.specs.Answer.{accepted}
use Rattle.model.specs.Steps.{uncounted}
use Rattle.model.specs.Findings.{Finding}
use Rattle.model.specs.Calls.{findings_answer, findings_after, alike_answer, write_answer, held_answer, principal_answer}
use Rattle.model.specs.Run.{Fail, Rectify}
use Rattle.model.specs.Service.{Service, Called, identifiers_of, answers, served}

-- alike says yes of two slices
abbrev pub SaysYes : List ℕ → List ℕ → Type 0
SaysYes us vs = alike_answer us vs ≡ accepted (1 ∷ [])

-- the calls that read a table and are not in the list answer the same of both: the findings, and the list that they fill; the keys that a member holds; the
-- principal test; alike with any third table; and how many bytes the image takes
pub record SameViews (us vs : List ℕ) : Type 0 where
  pub findings_told : (fs : List Finding) → findings_answer us fs ≡ findings_answer vs fs
  pub findings_filled : (fs : List Finding) → findings_after us fs ≡ findings_after vs fs
  pub held_told : (n : ℕ) (ks : List ℕ) → held_answer us n ks ≡ held_answer vs n ks
  pub principal_told : (n : ℕ) → principal_answer us n ≡ principal_answer vs n
  pub alike_told : (ws : List ℕ) → (alike_answer us ws ≡ alike_answer vs ws) × (alike_answer ws us ≡ alike_answer ws vs)
  pub bytes_told : (bs : List ℕ) → write_answer us bs ≡ write_answer vs bs

-- by a list of calls, rounds and settles, with windows too, nobody can tell two slices apart: it gets the same answers on both, one by one, and leaves two
-- slices of which alike says yes again, and of which the other calls answer the same
pub record NobodyTells (ss : List Service) (us vs : List ℕ) : Type 0 where
  pub same_answers : answers ss us ≡ answers ss vs
  pub yes_again : SaysYes (served ss us) (served ss vs)
  pub same_views : SameViews (served ss us) (served ss vs)

-- a yes means that no list tells two slices of equal length apart; the calls' numbers are identifiers, as of demand 3
abbrev pub YesMeans : Type 0
YesMeans = (us vs : List ℕ) → SaysYes us vs → length us ≡ length vs
    → (ss : List Service) → every (λ s. every (λ x. ltb x (space_of (table_of us))) (identifiers_of s)) ss ≡ true → NobodyTells ss us vs

-- of two well-formed tables it is yes exactly if they are equal but for step counts
abbrev pub YesIsEqual : Type 0
YesIsEqual = (us vs : List ℕ) → well_formed us ≡ true → well_formed vs ≡ true
    → (SaysYes us vs → uncounted (table_of us) ≡ uncounted (table_of vs)) × (uncounted (table_of us) ≡ uncounted (table_of vs) → SaysYes us vs)

-- What a no may tell: of a difference in predecessors

-- p is the predecessor of n in one table, and q in the other: q is lost, unless it is n, and n gets a notice from p
abbrev pub telling : ℕ → ℕ → ℕ → List Service
telling n p q = if eqb q n then Called (Rectify n p) ∷ [] else Called (Fail q) ∷ Called (Rectify n p) ∷ []

-- of two tables with the same members: if p is one of them, these calls tell the tables apart
abbrev pub PredecessorsTold : Type 0
PredecessorsTold = (us vs : List ℕ) → well_formed us ≡ true → well_formed vs ≡ true → ids (members_in us) ≡ ids (members_in vs) → (n : ℕ) → live (members_in us) n ≡ true
    → let p = (named (members_in us) n).predecessor in let q = (named (members_in vs) n).predecessor in
    (p ≡ q → ⊥) → live (members_in us) p ≡ true → answers (telling n p q) us ≡ answers (telling n p q) vs → ⊥
