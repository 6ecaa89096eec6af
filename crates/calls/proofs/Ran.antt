-- The slice after the first k calls of a list, what is known of their numbers, and what holds of the slice after all of them. Assumes nothing.
use Prim.Native.Nat.{ℕ, zero, suc, ◌<◌}
use mathlib.Core.Path.{◌≡◌, refl, ap, ◌∙◌}
use mathlib.Core.Bool.{true}
use mathlib.Core.List.{List, [], ◌∷◌, map}
use native.Mathlib.Omega.{arith}
use lib.Dec.{ltb}
use lib.ListN.{length, get_or}
use Rattle.model.specs.Lists.{every}
use Rattle.model.specs.Table.{word_limit, table_of}
use Rattle.model.specs.Run.{numbers_of, call_words, run}
use Rattle.laws.specs.Lists.{true_and}
use Rattle.laws.specs.Tables.{space_words}
use Rattle.theory.specs.Claim.{Holds}
use Rattle.theory.proofs.Demand3.{demand_3}
use Rattle.calls.specs.declared.Call.{Call}
use Rattle.calls.specs.declared.Call.TheVariants.{Join}
use Rattle.calls.specs.Calls.{call_of, MayStart}

-- call k, and some call past the last
abbrev pub call_at : List Call → ℕ → Call
call_at cs k = get_or cs k (Join 0 0)

-- the slice after the first k calls
abbrev pub ran : List Call → List ℕ → ℕ → List ℕ
ran cs ws zero = ws
ran cs ws (suc k) = call_words (ran cs ws k) (call_of (call_at cs k))

ran_cons : (c : Call) (cs : List Call) (ws : List ℕ) (k : ℕ) → ran (c ∷ cs) ws (suc k) ≡ ran cs (call_words ws (call_of c)) k
ran_cons c cs ws zero = refl
ran_cons c cs ws (suc k) = ap (λ us. call_words us (call_of (call_at cs k))) (ran_cons c cs ws k)

-- after all of them it is what `run` leaves
pub ran_all : (cs : List Call) (ws : List ℕ) → ran cs ws (length cs) ≡ run (map call_of cs) ws
unfolding run
ran_all [] ws = refl
ran_all (c ∷ cs) ws = ran_cons c cs ws (length cs) ∙ ran_all cs (call_words ws (call_of c))

-- the numbers of a call fit a word
abbrev pub Words : Call → Type 0
Words c = every (λ x. ltb x word_limit) (numbers_of (call_of c)) ≡ true

all_words : (cs : List Call) → ((j : ℕ) → j < length cs → Words (call_at cs j)) → every (λ c. every (λ x. ltb x word_limit) (numbers_of c)) (map call_of cs) ≡ true
all_words [] h = refl
all_words (c ∷ cs) h = true_and (h 0 (omega arith)) (all_words cs (λ j l. h (suc j) (omega arith)))

-- so demand 3 is about the slice after all of them
pub kept : (cs : List Call) (ws : List ℕ) → ((j : ℕ) → j < length cs → Words (call_at cs j)) → MayStart cs ws → Holds (run (map call_of cs) ws)
kept cs ws h b =
    demand_3 (map call_of cs) ws (record
    { identifiers = rw (space_words (table_of ws)) (all_words cs h); is_well_formed = b.is_well_formed; is_sound = b.is_sound; grants = b.grants })
