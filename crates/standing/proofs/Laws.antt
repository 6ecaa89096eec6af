-- What the answer of `standing_of` says of the call. Assumes nothing.
use Rattle.std.proofs.Common.{ℕ, ◌≡◌, true, false, List, Result, Ok, Err}
use Rattle.std.specs.Result.{result_or}
use Rattle.model.specs.Table.{members_in, ids, well_formed}
use Rattle.model.specs.Answer.{Answer, answer, afterwards}
use Rattle.model.specs.Refusals.{member_refusal}
use Rattle.laws.specs.Accepted.{member_table, member_accepted}
use Rattle.table.specs.FormedWords.{FormedWords}
use Rattle.table.specs.Rank.{rank}
use Rattle.table.specs.Located.{Stands, located}
use Rattle.table.proofs.WellFormed.{formed_words}
use Rattle.table.proofs.Place.{present, missing, rank_stands}
use Rattle.answers.specs.Judged.{Judges}
use Rattle.answers.specs.Refusal.{number_of, refused}
use Rattle.answers.specs.declared.refusal.Refusal.{Refusal}
use Rattle.answers.specs.declared.refusal.Refusal.TheVariants.{NotWellFormed, NotMember}
use Rattle.answers.proofs.Judged.{declined_by, kept_by}

-- the answers of `standing_of`
module _ (ws : List ℕ) (n : ℕ) where
  pub a_member : (k : ℕ) → well_formed ws ≡ true → Ok k ≡ located ws n → Judges (member_refusal ws n) (rank (ids (members_in ws)) n) (Ok k)
  unfolding member_refusal
  a_member k h e = let w = present ws n k e in (rw (h, w.0), w.1)

  pub no_member : (k : ℕ) → well_formed ws ≡ true → Err k ≡ located ws n → member_refusal ws n ≡ 3
  unfolding member_refusal
  no_member k h e = rw (h, (missing ws n k e).0)

  pub judged : (r : Result ℕ ℕ) → well_formed ws ≡ true → r ≡ located ws n → Judges (member_refusal ws n) (rank (ids (members_in ws)) n) (result_or {D = Refusal} r (Err NotMember))
  judged (Ok k) h e = a_member k h e
  judged (Err k) h e = no_member k h e

  pub no_table : well_formed ws ≡ false → member_refusal ws n ≡ 1
  unfolding member_refusal
  no_table h = rw h

-- nothing declines the call of n, which stands at k
pub record Called (ws : List ℕ) (n k : ℕ) : Type 0 where
  pub granted : member_refusal ws n ≡ 0
  pub table : FormedWords ws
  pub stands : Stands ws k n

module _ (ws : List ℕ) (n : ℕ) where
  pub called : (k : ℕ) → Judges (member_refusal ws n) (rank (ids (members_in ws)) n) (Ok k) → Called ws n k
  called k e = let f = formed_words ws (member_table ws n e.0) in record { granted = e.0; table = f; stands = rank_stands ws n k f (member_accepted ws n e.0) e.1 }

-- a refusal is what the call answers, and the words stay as they were
pub refused_call : (ws : List ℕ) (n : ℕ) (e : Refusal) → member_refusal ws n ≡ number_of e → (a : Answer) (new : List ℕ) → (refused e ≡ answer (member_refusal ws n) a) × (ws ≡ afterwards (member_refusal ws n) new ws)
refused_call ws n e h a new = (declined_by e h a, kept_by e h new _)
