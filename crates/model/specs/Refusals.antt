-- Document 01, "When a call is declined", and the rows that document 02 adds: for each call its causes in order of precedence; 0 where none applies.
use Rattle.std.specs.Prelude.{ℕ, ◌+◌, ◌-◌, Bool, not, ◌&&◌, ◌||◌, List, [], ◌∷◌, ltb, leb, eqb, length}
use Rattle.model.specs.Lists.{every, rising}
use Rattle.model.specs.Identifier.{between}
use Rattle.model.specs.Table.{Table, table_of, members_in, size, record_size, well_formed}
use Rattle.model.specs.Ring.{live, named, successor, has_live, principals, sound}
use Rattle.model.specs.Answer.{◌when◌, first_of}
use Rattle.model.specs.Steps.{without}
use Rattle.model.specs.New.{new_table}
use Rattle.model.specs.Image.{is_image, image_of, table_in}
use Rattle.model.specs.Windows.{Window, week, windows_in, paired}

-- 5: 256 members, or fewer than r + 5 words after the last record
unfoldable pub full : List ℕ → Bool
full ws = leb 256 (length (members_in ws)) || ltb (length ws - size (table_of ws)) (record_size (table_of ws).r)

-- 6: a member left has no live entry
unfoldable pub cuts_off : Table → Bool
cuts_off T = not (every (has_live T.members) T.members)

-- 7: fewer than r + 1 principals left
unfoldable pub too_few_principals : Table → Bool
too_few_principals T = ltb (principals T.members) (T.r + 1)

-- 11: r not 1 to 8, identifiers not strictly rising, fewer than r + 1, more than 256
unfoldable pub no_new_table : ℕ → List ℕ → Bool
no_new_table r xs = not (leb 1 r && leb r 8 && rising xs && leb (r + 1) (length xs) && leb (length xs) 256)

-- 14: the table is not sound
abbrev pub not_sound : Table → Bool
not_sound T = not (sound T)

-- a window between two different minutes of the week
unfoldable pub right_window : Window → Bool
right_window w = not (eqb w.start w.end) && ltb w.start week && ltb w.end week

-- 15: more than 16 windows, a window with equal ends or with a minute of the week over 10079, or a last word without a partner
unfoldable pub bad_windows : List ℕ → Bool
bad_windows vs = not (paired vs && leb (length (windows_in vs)) 16 && every right_window (windows_in vs))

-- 16: minutes not strictly rising, or not all below 4294967295
unfoldable pub bad_minutes : List ℕ → Bool
bad_minutes ts = not (rising ts && every (λ t. ltb t 4294967295) ts)

-- join j by p
unfoldable pub join_refusal : List ℕ → ℕ → ℕ → ℕ
join_refusal ws j p = first_of (
    (1 when not (well_formed ws)) ∷
    (2 when live (members_in ws) j) ∷
    (3 when not (live (members_in ws) p)) ∷
    (4 when not (between p j (successor (named (members_in ws) p)))) ∷
    (13 when not (live (members_in ws) (successor (named (members_in ws) p)))) ∷
    (5 when full ws) ∷ [])

-- a call of the member n that nothing else declines: stabilize, rectify, loss, the principal test
unfoldable pub member_refusal : List ℕ → ℕ → ℕ
member_refusal ws n = first_of (
    (1 when not (well_formed ws)) ∷
    (3 when not (live (members_in ws) n)) ∷ [])

-- withdrawal of n, judged on the table as it would be afterwards
unfoldable pub leave_refusal : List ℕ → ℕ → ℕ
leave_refusal ws n = first_of (
    (1 when not (well_formed ws)) ∷
    (3 when not (live (members_in ws) n)) ∷
    (6 when cuts_off (without n (table_of ws))) ∷
    (7 when too_few_principals (without n (table_of ws))) ∷ [])

-- audit
unfoldable pub audit_refusal : List ℕ → ℕ
audit_refusal ws = first_of (
    (1 when not (well_formed ws)) ∷ [])

-- findings into a list of n records
unfoldable pub findings_refusal : List ℕ → ℕ → ℕ
findings_refusal ws n = first_of (
    (1 when not (well_formed ws)) ∷
    (10 when ltb n (length (members_in ws))) ∷ [])

-- alike
unfoldable pub alike_refusal : List ℕ → List ℕ → ℕ
alike_refusal us vs = first_of (
    (1 when not (well_formed us && well_formed vs)) ∷ [])

-- new, into a slice of n words: 11 before 10
unfoldable pub new_refusal : ℕ → ℕ → List ℕ → ℕ
new_refusal n r xs = first_of (
    (11 when no_new_table r xs) ∷
    (10 when ltb n (size (new_table r xs))) ∷ [])

-- image writing, into n bytes
unfoldable pub write_refusal : List ℕ → ℕ → ℕ
write_refusal ws n = first_of (
    (1 when not (well_formed ws)) ∷
    (10 when ltb n (length (image_of (table_of ws)))) ∷ [])

-- image reading, into a slice of n words
unfoldable pub read_refusal : ℕ → List ℕ → ℕ
read_refusal n bs = first_of (
    (9 when not (is_image bs)) ∷
    (10 when ltb n (size (table_in bs))) ∷ [])

-- the keys ks that the member n holds
unfoldable pub held_refusal : List ℕ → ℕ → List ℕ → ℕ
held_refusal ws n ks = first_of (
    (1 when not (well_formed ws)) ∷
    (3 when not (live (members_in ws) n)) ∷
    (12 when not (rising ks)) ∷ [])

-- a round, and settle
unfoldable pub settle_refusal : List ℕ → ℕ
settle_refusal ws = first_of (
    (1 when not (well_formed ws)) ∷
    (14 when not_sound (table_of ws)) ∷ [])

-- whether a minute is open, and the next open one: 15 is of the minute too
unfoldable pub open_refusal : List ℕ → ℕ → ℕ
open_refusal vs m = first_of (
    (15 when (bad_windows vs || leb week m)) ∷ [])

-- settle with windows
unfoldable pub settle_at_refusal : List ℕ → List ℕ → List ℕ → ℕ
settle_at_refusal ws vs ts = first_of (
    (1 when not (well_formed ws)) ∷
    (15 when bad_windows vs) ∷
    (16 when bad_minutes ts) ∷
    (14 when not_sound (table_of ws)) ∷ [])
