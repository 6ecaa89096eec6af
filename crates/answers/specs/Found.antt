-- What find answers: document 01's values, in its order, or why no owner was found.
use Rattle.std.specs.Prelude.{ℕ, ◌≡◌, refl, List, [], ◌∷◌, get_or}
use Rattle.std.proofs.Common.{Result}
use Rattle.model.specs.Answer.{Answer}
use Rattle.answers.specs.ReadBack.{OneToOne, read_back_one_to_one}
use Rattle.answers.specs.Answered.{answered, Declines}
use Rattle.answers.specs.Refusal.{refused, refused_declines, refusal_of, number_read_back}
use Rattle.std.proofs.Common.{ap, arith}
use Rattle.answers.specs.declared.found.Found.{Found}
use Rattle.answers.specs.declared.found.NotFound.{NotFound}
use Rattle.answers.specs.declared.found.NotFound.TheVariants.{Stuck, Declined}

abbrev pub values_of : Found → List ℕ
values_of a = a.owner ∷ a.at ∷ a.moves ∷ a.passed ∷ []

-- the reply that values are
abbrev of_values : List ℕ → Found
of_values vs = record { owner = get_or vs 0 0; at = get_or vs 1 0; moves = get_or vs 2 0; passed = get_or vs 3 0 }

pub values_one_to_one : OneToOne values_of
values_one_to_one = read_back_one_to_one of_values back
  where
    back : (a : Found) → of_values (values_of a) ≡ a
    back a = refl

abbrev pub refused_by : NotFound → Answer
refused_by (Stuck q) = record { number = 8; values = q ∷ [] }
refused_by (Declined e) = refused e

-- none is 0
pub stuck_declines : Declines refused_by
stuck_declines (Stuck q) = omega arith
stuck_declines (Declined e) = refused_declines e

-- the refusal that a number and values are
abbrev not_found_of : ℕ → List ℕ → NotFound
not_found_of k [] = Declined (refusal_of k)
not_found_of k (q ∷ vs) = Stuck q

pub refused_one_to_one : OneToOne refused_by
refused_one_to_one = read_back_one_to_one (λ (a : Answer). not_found_of a.number a.values) back
  where
    back : (a : NotFound) → not_found_of (refused_by a).number (refused_by a).values ≡ a
    back (Stuck q) = refl
    back (Declined e) = ap Declined (number_read_back e)

abbrev pub answer_of : Result Found NotFound → Answer
answer_of a = answered values_of refused_by a
