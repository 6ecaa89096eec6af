-- What declines a join, and what the answer of `judged` says of it. Assumes nothing.
use Prim.Native.Nat.{ℕ, ◌<◌}
use mathlib.Core.Path.{◌≡◌, sym, ap, ◌∙◌}
use mathlib.Core.Bool.{true, false}
use mathlib.Core.List.{List}
use lib.ListN.{get_or}
use lib.Seq.{get_or-take}
use Rattle.std.proofs.Common.{Ok}
use Rattle.model.specs.Identifier.{between}
use Rattle.model.specs.Table.{members_in, ids, well_formed}
use Rattle.model.specs.Ring.{live, named, successor, nobody}
use Rattle.model.specs.Answer.{Answer, answer, afterwards}
use Rattle.model.specs.Refusals.{full, join_refusal}
use Rattle.laws.specs.Accepted.{join_accepted}
use Rattle.member.specs.declared.Member.{Member}
use Rattle.member.specs.View.{view}
use Rattle.table.specs.FormedWords.{FormedWords}
use Rattle.table.specs.Rank.{rank}
use Rattle.table.specs.Located.{Stands}
use Rattle.table.proofs.WellFormed.{formed_words}
use Rattle.table.proofs.Place.{rank_stands, stands_named}
use Rattle.answers.specs.Judged.{Judges}
use Rattle.answers.specs.Refusal.{number_of, refused}
use Rattle.answers.specs.declared.refusal.Refusal.{Refusal}
use Rattle.answers.proofs.Judged.{declined_by, kept_by}
use Rattle.join.specs.Admission.{Admits}

-- the first entry of p, read from the record where p stands
pub first_entry : {ws : List ℕ} {p k : ℕ} (m : Member) → FormedWords ws → Stands ws k p → view (get_or ws 0 0) m ≡ get_or (members_in ws) k nobody → get_or m.successors 0 0 ≡ successor (named (members_in ws) p)
first_entry {ws} m f s e = sym (get_or-take (get_or ws 0 0) m.successors 0 0 f.r_low) ∙ ap successor (e ∙ stands_named f s)

module _ (ws : List ℕ) (j p : ℕ) where
  -- the first entry of p
  abbrev pub Head : ℕ
  Head = successor (named (members_in ws) p)

  -- The causes, each behind those before it

  pub no_table : well_formed ws ≡ false → join_refusal ws j p ≡ 1
  unfolding join_refusal
  no_table e = rw e

  module _ (good : well_formed ws ≡ true) where
    pub already_member : live (members_in ws) j ≡ true → join_refusal ws j p ≡ 2
    unfolding join_refusal
    already_member e = rw (good, e)

    module _ (fresh : live (members_in ws) j ≡ false) where
      pub by_nobody : live (members_in ws) p ≡ false → join_refusal ws j p ≡ 3
      unfolding join_refusal
      by_nobody e = rw (good, fresh, e)

      module _ (by : live (members_in ws) p ≡ true) where
        pub not_between : between p j Head ≡ false → join_refusal ws j p ≡ 4
        unfolding join_refusal
        not_between e = rw (good, fresh, by, e)

        module _ (inside : between p j Head ≡ true) where
          pub head_dead : live (members_in ws) Head ≡ false → join_refusal ws j p ≡ 13
          unfolding join_refusal
          head_dead e = rw (good, fresh, by, inside, e)

          module _ (alive : live (members_in ws) Head ≡ true) where
            pub no_room : full ws ≡ true → join_refusal ws j p ≡ 5
            unfolding join_refusal
            no_room e = rw (good, fresh, by, inside, alive, e)

            pub none_applies : full ws ≡ false → join_refusal ws j p ≡ 0
            unfolding join_refusal
            none_applies e = rw (good, fresh, by, inside, alive, e)

  -- What the answer of `judged` says

  -- no cause declines the join
  pub admits : (at k : ℕ) → join_refusal ws j p ≡ 0 → at ≡ rank (ids (members_in ws)) j → k ≡ rank (ids (members_in ws)) p → Admits ws at k j p
  admits at k g e h =
      let m = join_accepted ws j p g in
      let f = formed_words ws m.table in
      record { table = f; may = m; place = e; stands = rank_stands ws p k f m.by h }

  -- a refusal is the answer, and the words are as they were
  pub refused_join : (e : Refusal) → join_refusal ws j p ≡ number_of e → (a : Answer) (new : List ℕ) → (refused e ≡ answer (join_refusal ws j p) a) × (ws ≡ afterwards (join_refusal ws j p) new ws)
  refused_join e h a new = (declined_by e h a, kept_by e h new _)
