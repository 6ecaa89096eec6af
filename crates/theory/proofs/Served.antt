-- The theorems of which Served in specs/ has the definitions, with their proofs.
use Rattle.std.specs.Prelude.{◌≡◌, refl, true, List, ℕ, ltb}
use Rattle.std.proofs.Common.{ap, ◌∙◌}
use Rattle.model.specs.Lists.{every}
use Rattle.model.specs.Table.{space_of, table_of}
use Rattle.model.specs.Answer.{afterwards}
use Rattle.model.specs.Settle.{after_round, after_rounds, after_settle, rounds_run}
use Rattle.model.specs.Windows.{windows_in, open_minutes}
use Rattle.model.specs.Refusals.{settle_refusal}
use Rattle.model.specs.Calls.{written, round_words, settle_words}
use Rattle.model.specs.Service.{Service, Called, Round, Settle, SettleAt, identifiers_of, service_words, served, granted_service, granted_all}
use Rattle.laws.specs.Accepted.{afterwards_has}
use Rattle.laws.specs.Windows.{settle_at_has}
use Rattle.theory.specs.Claim.{Holds}
use Rattle.theory.proofs.Static.{holds}
use Rattle.theory.specs.Runs.{Good, good_kept, call_good, call_space, all_good}
use Rattle.theory.specs.Turns.{rounds_last}
use Rattle.theory.proofs.BoundProof.{rounds_slice}
use Rattle.theory.specs.Served.{ServiceStarts}

-- a round, and settle, keep a slice well-formed and sound
pub round_good : (ws : List ℕ) → Good ws → Good (round_words ws)
unfolding round_words
round_good ws g = afterwards_has Good (settle_refusal ws) (written (after_round (table_of ws)) ws) ws (λ e. (rounds_slice 1 ws g).0) g

pub settle_good : (ws : List ℕ) (limit : ℕ) → Good ws → Good (settle_words ws limit)
unfolding settle_words
settle_good ws limit g = afterwards_has Good (settle_refusal ws) (written (after_settle limit (table_of ws)) ws) ws (λ e. (rounds_slice (rounds_run limit (table_of ws)) ws g).0) g

service_good : (s : Service) (ws : List ℕ) → every (λ x. ltb x (space_of (table_of ws))) (identifiers_of s) ≡ true → granted_service ws s ≡ true → Good ws → Good (service_words ws s)
unfolding service_words granted_service
service_good (Called c) ws h e g = call_good c ws h e g
service_good Round ws h e g = round_good ws g
service_good (Settle limit) ws h e g = settle_good ws limit g
service_good (SettleAt vs ts) ws h e g = settle_at_has (λ a us. Good us) ws vs ts (settle_good ws _ g) (λ k. g)

-- nor do they change the space
rounds_space : (j k : ℕ) (ws : List ℕ) → Good ws → space_of (table_of (afterwards k (written (after_rounds j (table_of ws)) ws) ws)) ≡ space_of (table_of ws)
rounds_space j k ws g = afterwards_has (λ us. space_of (table_of us) ≡ space_of (table_of ws)) k (written (after_rounds j (table_of ws)) ws) ws
    (λ e. ap space_of (rounds_slice j ws g).1 ∙ (rounds_last j (table_of ws) (good_kept ws g)).same_space) refl

service_space : (s : Service) (ws : List ℕ) → Good ws → space_of (table_of (service_words ws s)) ≡ space_of (table_of ws)
unfolding service_words round_words settle_words
service_space (Called c) ws g = call_space c ws
service_space Round ws g = rounds_space 1 (settle_refusal ws) ws g
service_space (Settle limit) ws g = rounds_space (rounds_run limit (table_of ws)) (settle_refusal ws) ws g
service_space (SettleAt vs ts) ws g = settle_at_has (λ a us. space_of (table_of us) ≡ space_of (table_of ws)) ws vs ts
    (rounds_space (rounds_run (open_minutes (windows_in vs) ts) (table_of ws)) (settle_refusal ws) ws g) (λ k. refl)

served_good : (ss : List Service) (ws : List ℕ) → ServiceStarts ss ws → Good (served ss ws)
unfolding served granted_all
served_good ss ws b = all_good service_words identifiers_of granted_service service_good service_space ss ws b.identifiers b.grants (record { is_well_formed = b.is_well_formed; is_sound = b.is_sound })

-- the ring never splits
pub served_holds : (ss : List Service) (ws : List ℕ) → ServiceStarts ss ws → Holds (served ss ws)
served_holds ss ws b = let g = served_good ss ws b in holds (served ss ws) g.is_well_formed g.is_sound
