-- A slice whose table follows from another's by turns: it is as good, each member stands where it stood, and what is written over it is written over
-- the other. Assumes nothing.
use Prim.Native.Nat.{ℕ, ◌≤◌}
use mathlib.Core.Path.{◌≡◌, refl, sym, ap, subst, ◌∙◌}
use mathlib.Core.List.{List}
use native.Mathlib.Omega.{arith}
use lib.ListN.{length, get_or}
use Rattle.model.specs.Table.{Table, size, table_of, members_in, ids}
use Rattle.model.specs.Calls.{written}
use Rattle.laws.specs.Lists.{In}
use Rattle.laws.specs.Places.{place_in}
use Rattle.laws.specs.Words.{written_table, written_length, written_same, written_over}
use Rattle.laws.specs.Tables.{well_formed_facts, formed_lists}
use Rattle.theory.specs.Runs.{Good, good_kept, written_good}
use Rattle.theory.specs.Turns.{Lasts, lasts_none, lasts_trans, same_size}
use Rattle.table.specs.FormedWords.{FormedWords}
use Rattle.table.specs.Located.{Stands}
use Rattle.table.proofs.WellFormed.{formed_words}
use Rattle.table.proofs.Members.{ids_count}
use Rattle.turns.specs.Lasting.{Lasting}

pub good_formed : {ws : List ℕ} → Good ws → FormedWords ws
good_formed {ws} g = formed_words ws g.is_well_formed

-- a member that stands somewhere is one
pub stands_in : {ws : List ℕ} {k n : ℕ} → Stands ws k n → In n (ids (members_in ws))
stands_in {ws} {k} s = subst (λ (x : ℕ). In x (ids (members_in ws))) s.has_id (place_in (ids (members_in ws)) k (omega (arith, ids_count ws, s.within)))

module _ {ws : List ℕ} (g : Good ws) where
  -- before the first turn
  pub lasting_none : Lasting ws ws
  lasting_none = let w = well_formed_facts ws g.is_well_formed in record { in_place = sym (written_same ws w.own_header w.fits); as_long = refl; lasts = lasts_none (table_of ws) (good_kept ws g) }

  -- a table that lasts, put in the place of that of ws
  module _ (T : Table) (l : Lasts (table_of ws) T) where
    fits : size T ≤ length ws
    fits = omega (arith, same_size l, (well_formed_facts ws g.is_well_formed).fits)

    lasting_good : Good (written T ws)
    lasting_good = written_good T ws l.kept fits

    lasting_table : table_of (written T ws) ≡ T
    lasting_table = written_table T ws (formed_lists T l.kept.formed)

    lasting_length : length (written T ws) ≡ length ws
    lasting_length = written_length T ws (formed_lists T l.kept.formed) fits

  module _ {us : List ℕ} (o : Lasting ws us) where
    pub good_still : Good us
    good_still = subst Good (sym o.in_place) (lasting_good (table_of us) o.lasts)

    same_place : (k : ℕ) → get_or (ids (members_in us)) k 0 ≡ get_or (ids (members_in ws)) k 0
    same_place k = ap (λ (xs : List ℕ). get_or xs k 0) o.lasts.same_ids

    pub same_count : get_or us 1 0 ≡ get_or ws 1 0
    same_count = sym (ids_count us) ∙ (ap length o.lasts.same_ids ∙ ids_count ws)

    pub stands_still : {k n : ℕ} → Stands ws k n → Stands us k n
    stands_still {k} s = record { within = omega (arith, same_count, s.within); has_id = same_place k ∙ s.has_id }

    -- a table that lasts from that of us, written over us
    module _ (X : Table) (l : Lasts (table_of us) X) where
      pub written_still : written X us ≡ written X ws
      written_still =
          let lists = formed_lists X l.kept.formed in
          ap (written X) o.in_place ∙ written_over X (table_of us) ws lists (formed_lists (table_of us) o.lasts.kept.formed) (same_size l)

-- vs has the table X, which follows from that of ws
pub record Next (ws : List ℕ) (X : Table) (vs : List ℕ) : Type 0 where
  pub has : table_of vs ≡ X
  pub follows : Lasting ws vs

-- so it is where X follows from that of us, which does from that of ws
pub lasting_next : {ws us vs : List ℕ} → Good ws → Lasting ws us → (X : Table) → Lasts (table_of us) X → vs ≡ written X us → Next ws X vs
lasting_next {ws} {us} {vs} g o X l e =
    let has : table_of vs ≡ X = ap table_of e ∙ lasting_table (good_still g o) X l in
    record {
      has = has;
      follows = record {
        in_place = e ∙ (written_still g o X l ∙ ap (λ (T : Table). written T ws) (sym has));
        as_long = ap length e ∙ (lasting_length (good_still g o) X l ∙ o.as_long);
        lasts = subst (Lasts (table_of ws)) (sym has) (lasts_trans o.lasts l);
      };
    }
