-- `passed_if_sound` meets its contract. Assumes nothing.
use Rattle.std.proofs.Common.{refl, sym, ◌∙◌, rules}
use Rattle.settle.proofs.passed_if_sound.Goals as goal

pub is_sound-requires : goal.is_sound-requires
is_sound-requires c = record { formed_words = c.requires; best_places = c.fill_best-passed.ensures.0; count_value = c.count_principals-count.ensures.0 }

pub returns-then-not-is_sound : goal.returns-then-not-is_sound
returns-then-not-is_sound c = rw (sym c.is_sound.ensures ∙ c.if-not-is_sound.true) refl

pub returns : goal.returns
returns c = rw (sym c.is_sound.ensures ∙ c.if-not-is_sound.false, c.fill_best-passed.ensures.1) refl

pub fill_best-passed-requires : goal.fill_best-passed-requires
fill_best-passed-requires c = record { formed_words = c.requires; best_len = search rules }

pub count_principals-count-requires : goal.count_principals-count-requires
count_principals-count-requires c = c.requires
