-- A table's words copied, a member's record removed, and the causes of a withdrawal taken apart. Assumes nothing.
use Prim.Native.Nat.{ℕ, suc, ◌+◌, ◌*◌}
use mathlib.Core.Path.{◌≡◌, sym, ap, ◌∙◌}
use mathlib.Core.Bool.{true}
use mathlib.Core.List.{List, [], ◌∷◌, ◌++◌}
use native.Mathlib.Omega.{arith}
use lib.ListN.{length, get_or, take, drop, take-append-drop}
use lib.Seq.{take-take}
use Rattle.model.specs.Table.{Table, header_size, header_of, record_size, size, table_of, members_in}
use Rattle.model.specs.Ring.{live}
use Rattle.model.specs.Answer.{◌when◌, first_of}
use Rattle.model.specs.Steps.{is_named, without}
use Rattle.model.specs.Refusals.{cuts_off, too_few_principals, member_refusal, leave_refusal}
use Rattle.model.specs.Calls.{written_freed, leave_answer, leave_words}
use Rattle.laws.specs.Lists.{live_in}
use Rattle.laws.specs.Accepted.{causes_declined}
use Rattle.laws.specs.Words.{OwnHeader, members_length, words_read, words_written, written_freed_table}
use Rattle.laws.specs.Tables.{well_formed_facts, facts_well_formed, holds_formed, formed_lists, written_freed_formed}
use Rattle.laws.specs.Removed.{staying_formed, without_length, without_size}
use Rattle.answers.specs.Refusal.{number_of, refused, refused_declines}
use Rattle.answers.specs.declared.refusal.Refusal.{Refusal}
use Rattle.answers.proofs.Judged.{declined_by, kept_by}
use Rattle.words.proofs.Records.{most_words}
use Rattle.table.specs.FormedWords.{FormedWords}
use Rattle.table.proofs.WellFormed.{formed_words}
use Rattle.table.proofs.Members.{size_words}

-- The words of a table, copied

module _ (ws a : List ℕ) (f : FormedWords ws) (e : take (size (table_of ws)) a ≡ take (size (table_of ws)) ws) where
  pub copied_table : table_of a ≡ table_of ws
  copied_table =
      let n : ℕ = size (table_of ws) in
      let w = well_formed_facts ws f.right in
      sym (ap table_of (take-append-drop n a)) ∙ ap (λ (l : List ℕ). table_of (l ++ drop n a)) (e ∙ sym (words_written ws w.own_header w.fits))
      ∙ words_read (table_of ws) (drop n a) (formed_lists (table_of ws) w.table)

  copied_header : OwnHeader a
  copied_header =
      let n : ℕ = size (table_of ws) in
      ap header_of copied_table ∙ (well_formed_facts ws f.right).own_header ∙ sym (take-take header_size n ws (omega arith))
      ∙ ap (take header_size) (sym e) ∙ take-take header_size n a (omega arith)

  pub copied_count : get_or a 1 0 ≡ get_or ws 1 0
  copied_count = sym (members_length (get_or a 0 0) (get_or a 1 0) (drop header_size a))
      ∙ (ap (λ (T : Table). length T.members) copied_table ∙ members_length (get_or ws 0 0) (get_or ws 1 0) (drop header_size ws))

  pub copied_formed : length a ≡ header_size + 256 * record_size 8 → FormedWords a
  copied_formed h =
      let m = most_words (get_or ws 1 0) (get_or ws 0 0) f.few f.r_high in
      formed_words a (facts_well_formed a (holds_formed (table_of ws) a copied_table copied_header (well_formed_facts ws f.right).table (omega (arith, size_words ws))))

-- The record of a member, removed

pub one_fewer : (ws : List ℕ) (n : ℕ) → FormedWords ws → live (members_in ws) n ≡ true → suc (length (without n (table_of ws)).members) ≡ get_or ws 1 0
one_fewer ws n f l = without_length n (members_in ws) (well_formed_facts ws f.right).table.ids_rising (live_in (members_in ws) n l) ∙ members_length (get_or ws 0 0) (get_or ws 1 0) (drop header_size ws)

pub removed_facts : (ws : List ℕ) (n : ℕ) → FormedWords ws → live (members_in ws) n ≡ true
    → FormedWords (written_freed (without n (table_of ws)) ws) × (table_of (written_freed (without n (table_of ws)) ws) ≡ without n (table_of ws))
removed_facts ws n f l =
    let i = live_in (members_in ws) n l in
    let w = well_formed_facts ws f.right in
    let T : Table = without n (table_of ws) in
    let k = staying_formed (is_named n) (table_of ws) w.table in (
      formed_words (written_freed T ws) (facts_well_formed (written_freed T ws)
          (written_freed_formed T ws k (omega (arith, without_size n (table_of ws) w.table i, w.fits)))),
      written_freed_table T ws (formed_lists T k),
    )

-- The causes of a withdrawal

pub member_refused : (ws : List ℕ) (n : ℕ) (e : Refusal) → member_refusal ws n ≡ number_of e → leave_refusal ws n ≡ number_of e
unfolding leave_refusal
member_refused ws n e h =
    let z : member_refusal ws n ≡ 0 → ⊥ = λ z. omega (arith, refused_declines e, h, z) in
    sym (causes_declined ws n ((6 when cuts_off (without n (table_of ws))) ∷ (7 when too_few_principals (without n (table_of ws))) ∷ []) z) ∙ h

-- a refusal is the answer, and the words are as they were
pub refused_leave : (ws : List ℕ) (n : ℕ) (e : Refusal) → leave_refusal ws n ≡ number_of e → (refused e ≡ leave_answer ws n) × (ws ≡ leave_words ws n)
unfolding leave_answer leave_words
refused_leave ws n e h = (declined_by e h _, kept_by e h _ _)

-- the causes that are left are judged on a slice that holds the table as it would be afterwards
pub left_causes : (ws a : List ℕ) (n : ℕ) → FormedWords ws → live (members_in ws) n ≡ true → table_of a ≡ without n (table_of ws)
    → leave_refusal ws n ≡ first_of ((6 when cuts_off (table_of a)) ∷ (7 when too_few_principals (table_of a)) ∷ [])
unfolding leave_refusal
left_causes ws a n f l e = rw (f.right, l) (ap (λ (T : Table). first_of ((6 when cuts_off T) ∷ (7 when too_few_principals T) ∷ [])) (sym e))
