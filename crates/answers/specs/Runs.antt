-- What held answers: document 02's values for each case, and the answer in numbers, in which nothing is lost.
use Rattle.std.specs.Prelude.{ℕ, ◌*◌, ◌/◌, ◌≡◌, refl, List, [], ◌∷◌, length, get_or, take, Ok, Err}
use Rattle.std.proofs.Common.{Result}
use Rattle.model.specs.Answer.{Answer, declined}
use Rattle.answers.specs.ReadBack.{OneToOne, read_back_one_to_one}
use Rattle.answers.specs.Answered.{answered}
use Rattle.answers.specs.Refusal.{refused}
use Rattle.answers.specs.declared.refusal.Refusal.{Refusal}
use Rattle.model.specs.Held.{bounds, ◌up_to◌}
use Rattle.answers.specs.declared.runs.Runs.{Runs}
use Rattle.answers.specs.declared.runs.Runs.TheVariants.{One, Two}
use Rattle.answers.specs.declared.runs.RunsAnswer.{RunsAnswer}

-- start and end of each run
abbrev pub values_of : Runs → List ℕ
values_of (One u) = bounds ((u.start up_to u.end) ∷ [])
values_of (Two u v) = bounds ((u.start up_to u.end) ∷ (v.start up_to v.end) ∷ [])

-- the runs that values are
abbrev of_values : List ℕ → Runs
of_values [] = One (record { start = 0; end = 0 })
of_values (s ∷ []) = One (record { start = s; end = 0 })
of_values (s ∷ e ∷ []) = One (record { start = s; end = e })
of_values (s ∷ e ∷ t ∷ vs) = Two (record { start = s; end = e }) (record { start = t; end = get_or vs 0 0 })

pub values_one_to_one : OneToOne values_of
values_one_to_one = read_back_one_to_one of_values back
  where
    back : (a : Runs) → of_values (values_of a) ≡ a
    back (One u) = refl
    back (Two u v) = refl

abbrev pub answer_of : Result Runs Refusal → Answer
answer_of a = answered values_of refused a

-- the answer in numbers: how many runs its values bound, the starts and the ends of up to two, the unused ones 0
abbrev pub packed : Answer → RunsAnswer
packed a = record { number = a.number; runs = length a.values / 2; start = get_or a.values 0 0 ∷ get_or a.values 2 0 ∷ []; end = get_or a.values 1 0 ∷ get_or a.values 3 0 ∷ [] }

-- the answer that numbers say: start and end of so many runs
abbrev pub unpacked : RunsAnswer → Answer
unpacked n = record { number = n.number; values = take (2 * n.runs) (get_or n.start 0 0 ∷ get_or n.end 0 0 ∷ get_or n.start 1 0 ∷ get_or n.end 1 0 ∷ []) }

-- what numbers say is read back from them
pub says_whole : (a : Result Runs Refusal) → unpacked (packed (answer_of a)) ≡ answer_of a
says_whole (Ok (One u)) = refl
says_whole (Ok (Two u v)) = refl
says_whole (Err e) = refl

pub says_whole_numbered : (a : Result Runs ℕ) → unpacked (packed (answered values_of declined a)) ≡ answered values_of declined a
says_whole_numbered (Ok (One u)) = refl
says_whole_numbered (Ok (Two u v)) = refl
says_whole_numbered (Err k) = refl
