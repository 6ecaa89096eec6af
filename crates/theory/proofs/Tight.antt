-- The theorems of which Tight in specs/ has the definitions, with their proofs.
use Rattle.std.specs.Prelude.{◌≡◌, refl, true}
use Rattle.std.proofs.Common.{ap, ◌∙◌}
use Rattle.model.specs.Identifier.{between, after, space}
use Rattle.model.specs.Table.{Table, table_of, words_of, well_formed, formed, formed_member}
use Rattle.model.specs.Ring.{sound, candidate_inside, ideal, ideal_member, verdict}
use Rattle.model.specs.Steps.{stabilize_from_successor, stabilize_from_predecessor, stabilize, stabilize_reply, next_step, renews}
use Rattle.model.specs.Settle.{delivered, last_step, finished, after_turn, after_round, after_rounds}
use Rattle.theory.proofs.BoundProof.{after_rounds_law}
use Rattle.theory.specs.Tight.{Late, four, five}

-- each is sound, and computed at the table
right : (T : Table) → Type 0
right T = (well_formed (words_of T) ≡ true) × (sound (table_of (words_of T)) ≡ true)

four_right : right four
unfolding right sound candidate_inside between well_formed formed formed_member space
four_right = (refl, refl)

five_right : right five
unfolding right sound candidate_inside between well_formed formed formed_member space
five_right = (refl, refl)

two_rounds : verdict (after_rounds 2 four) ≡ 1
unfolding verdict sound ideal ideal_member candidate_inside between after stabilize stabilize_from_successor stabilize_from_predecessor stabilize_reply next_step renews
    delivered last_step finished after_turn after_round space
two_rounds = refl

three_rounds : verdict (after_rounds 3 five) ≡ 1
unfolding verdict sound ideal ideal_member candidate_inside between after stabilize stabilize_from_successor stabilize_from_predecessor stabilize_reply next_step renews
    delivered last_step finished after_turn after_round space
three_rounds = refl

pub late_1 : Late 1
unfolding right
late_1 = record {
  slice = words_of four;
  has_r = refl;
  is_well_formed = four_right.0;
  is_sound = four_right.1;
  not_yet = ap verdict (after_rounds_law 2 (words_of four) (record { is_well_formed = four_right.0; is_sound = four_right.1 })).1 ∙ two_rounds;
}

pub late_2 : Late 2
unfolding right
late_2 = record {
  slice = words_of five;
  has_r = refl;
  is_well_formed = five_right.0;
  is_sound = five_right.1;
  not_yet = ap verdict (after_rounds_law 3 (words_of five) (record { is_well_formed = five_right.0; is_sound = five_right.1 })).1 ∙ three_rounds;
}
