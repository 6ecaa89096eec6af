-- Document 02, Req 03, for the release note: the first entry of a new member is a member, and while no member goes it stays so, of every member that has one.
use Rattle.std.specs.Prelude.{◌≡◌, true, ℕ}
use mathlib.Core.List.{List, [], ◌∷◌}
use Rattle.std.proofs.Math.Option.{some}
use Rattle.model.specs.Table.{members_in, well_formed}
use Rattle.model.specs.Ring.{live, named, successor, best_successor}
use Rattle.model.specs.Answer.{accepted}
use Rattle.model.specs.Calls.{stabilize_answer}
use Rattle.model.specs.Run.{Join, call_words, accepts}
use Rattle.model.specs.Service.{Service, served, none_goes}

-- n is a member and its first entry is one: so its best successor is its first entry, and its stabilize step does not reply "again"
pub record LiveHead (ws : List ℕ) (n : ℕ) : Type 0 where
  pub member : live (members_in ws) n ≡ true
  pub head_live : live (members_in ws) (successor (named (members_in ws) n)) ≡ true
  pub best : best_successor (members_in ws) n ≡ some (successor (named (members_in ws) n))
  pub not_again : stabilize_answer ws n ≡ accepted (0 ∷ []) → ⊥

-- after every list of calls, rounds and settles, with windows too, by which no member goes: whoever was a member with a live first entry is one still
abbrev pub HeadsStay : Type 0
HeadsStay = (ss : List Service) (ws : List ℕ) (n : ℕ) → well_formed ws ≡ true → live (members_in ws) n ≡ true
    → live (members_in ws) (successor (named (members_in ws) n)) ≡ true → none_goes ss ws ≡ true → LiveHead (served ss ws) n

-- and so is a new member, at once and then
abbrev pub NewHead : Type 0
NewHead = (ss : List Service) (ws : List ℕ) (j p : ℕ) → accepts ws (Join j p) ≡ true → none_goes ss (call_words ws (Join j p)) ≡ true → LiveHead (served ss (call_words ws (Join j p))) j
