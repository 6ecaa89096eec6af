-- Turns of members in a slice: a pending step finished, steps until "done", a turn, and turns one after the other. Assumes nothing.
use Prim.Native.Nat.{ℕ, suc, ◌+◌, ◌-◌, ◌≤◌, ◌<◌}
use mathlib.Core.Path.{◌≡◌, sym, ap, ◌∙◌}
use mathlib.Core.Bool.{true, false}
use mathlib.Core.List.{List, [], ◌∷◌}
use native.Mathlib.Omega.{arith}
use lib.ListN.{get_or, drop, drop_of_length-le}
use lib.Seq.{drop-cons}
use Rattle.std.specs.Prelude.{if◌then◌else◌}
use Rattle.model.specs.Table.{Table, table_of, members_in, ids}
use Rattle.model.specs.Ring.{named, is_pending}
use Rattle.model.specs.Steps.{stabilized}
use Rattle.model.specs.Settle.{is_done, last_step, finished, until_done, after_turn, after_turns, after_round}
use Rattle.model.specs.Calls.{written}
use Rattle.theory.specs.Runs.{Good, good_kept}
use Rattle.theory.proofs.Calm.{pending_done}
use Rattle.theory.specs.Turns.{acted_step, acted_finished, acted_until, acted_turn}
use Rattle.table.specs.Located.{Stands}
use Rattle.table.proofs.Members.{ids_count}
use Rattle.table.proofs.Place.{same_words, own_place}
use Rattle.turns.specs.Lasting.{Lasting}
use Rattle.turns.proofs.Lasting.{good_formed, stands_in, lasting_none, same_count, stands_still, written_still, Next, lasting_next}

-- a step of n, with its notice if it is "done"
abbrev pub step_of : ℕ → Table → Table
step_of n T = if is_done n T then last_step n T else stabilized n T

-- A pending step

module _ (n : ℕ) (T : Table) where
  none_finished : is_pending (named T.members n) ≡ false → T ≡ finished n T
  unfolding finished
  none_finished p = rw p

  one_finished : is_pending (named T.members n) ≡ true → step_of n T ≡ finished n T
  unfolding finished
  one_finished p = rw (p, pending_done n T p)

module _ {ws : List ℕ} (g : Good ws) (n : ℕ) where
  pub nothing_pending : is_pending (named (members_in ws) n) ≡ false → ws ≡ written (finished n (table_of ws)) ws
  nothing_pending p = same_words ws (good_formed g) ∙ ap (λ (T : Table). written T ws) (none_finished n (table_of ws) p)

  pub was_pending : {us : List ℕ} → is_pending (named (members_in ws) n) ≡ true → us ≡ written (step_of n (table_of ws)) ws → us ≡ written (finished n (table_of ws)) ws
  was_pending p e = e ∙ ap (λ (T : Table). written T ws) (one_finished n (table_of ws) p)

-- Steps until "done"

module _ (n k j : ℕ) (T : Table) (e : k ≡ suc j) where
  until_last : is_done n T ≡ true → step_of n T ≡ until_done k n T
  until_last d = rw (e, d)

  until_on : is_done n T ≡ false → until_done j n (step_of n T) ≡ until_done k n T
  until_on d = rw (e, d)

-- what is left to do from us is the whole of what is done from ws
pub record Until (n f : ℕ) (ws : List ℕ) (left : ℕ) (us : List ℕ) : Type 0 where
  pub follows : Lasting ws us
  pub rest : until_done left n (table_of us) ≡ until_done f n (table_of ws)

-- before the first step
pub until_starts : {ws : List ℕ} → Good ws → (n k left : ℕ) → left ≡ suc k → Until n (suc k) ws left ws
until_starts {ws} g n k left e = record { follows = lasting_none g; rest = ap (λ (i : ℕ). until_done i n (table_of ws)) e }

module _ {ws us : List ℕ} {k n f left : ℕ} (g : Good ws) (s : Stands ws k n) (u : Until n f ws left us) where
  -- no step is left, or one more is taken
  pub until_none : left ≤ 0 → us ≡ written (until_done f n (table_of ws)) ws
  until_none h = let z : left ≡ 0 = omega arith in u.follows.in_place ∙ ap (λ (T : Table). written T ws) (ap (λ (i : ℕ). until_done i n (table_of us)) (sym z) ∙ u.rest)

  module _ {vs : List ℕ} (h : 0 < left) (e : vs ≡ written (step_of n (table_of us)) us) where
    one_left : left ≡ suc (left - 1)
    one_left = omega arith

    pub until_done_law : is_done n (table_of us) ≡ true → vs ≡ written (until_done f n (table_of ws)) ws
    until_done_law d =
        let i = stands_in (stands_still g u.follows s) in
        let l = (acted_until n left (table_of us) u.follows.lasts.kept i).lasts in
        e ∙ (ap (λ (T : Table). written T us) (until_last n left (left - 1) (table_of us) one_left d)
        ∙ (written_still g u.follows (until_done left n (table_of us)) l ∙ ap (λ (T : Table). written T ws) u.rest))

    one_fewer : is_done n (table_of us) ≡ false → Until n f ws (left - 1) vs
    one_fewer d =
        let i = stands_in (stands_still g u.follows s) in
        let t : step_of n (table_of us) ≡ stabilized n (table_of us) = rw d in
        let x = lasting_next g u.follows (stabilized n (table_of us)) (acted_step (table_of us) u.follows.lasts.kept n i).lasts (e ∙ ap (λ (T : Table). written T us) t) in
        record { follows = x.follows; rest = ap (until_done (left - 1) n) (x.has ∙ sym t) ∙ (until_on n left (left - 1) (table_of us) one_left d ∙ u.rest) }

    pub until_left : is_done n (table_of us) ≡ false → (rest : ℕ) → rest ≡ left - 1 → Until n f ws rest vs
    until_left d rest q = rw q (one_fewer d)

-- A turn: a pending step finished, then steps until "done"

module _ {ws us : List ℕ} {k n : ℕ} (g : Good ws) (s : Stands ws k n) (e : us ≡ written (finished n (table_of ws)) ws) where
  pub finished_next : Next ws (finished n (table_of ws)) us
  finished_next = lasting_next g (lasting_none g) (finished n (table_of ws)) (acted_finished n (table_of ws) (good_kept ws g) (stands_in s)).lasts e

  pub turned : {vs : List ℕ} → vs ≡ written (until_done (suc (table_of us).r) n (table_of us)) us → vs ≡ written (after_turn n (table_of ws)) ws
  unfolding after_turn
  turned q =
      let o = finished_next.follows in
      let l = (acted_until n (suc (table_of us).r) (table_of us) o.lasts.kept (stands_in (stands_still g o s))).lasts in
      q ∙ (written_still g o (until_done (suc (table_of us).r) n (table_of us)) l
      ∙ ap (λ (T : Table). written T ws) (ap (λ (r : ℕ). until_done (suc r) n (table_of us)) o.lasts.same_r
      ∙ ap (until_done (suc (table_of ws).r) n) finished_next.has))

-- A round: the turns of the members from place k on, from us, are the round from ws
pub record Round (ws : List ℕ) (k : ℕ) (us : List ℕ) : Type 0 where
  pub follows : Lasting ws us
  pub rest : after_turns (drop k (ids (members_in ws))) (table_of us) ≡ after_round (table_of ws)

pub round_starts : {ws : List ℕ} → Good ws → (k : ℕ) → k ≡ 0 → Round ws k ws
unfolding after_round
round_starts {ws} g k z = record { follows = lasting_none g; rest = ap (λ (i : ℕ). after_turns (drop i (ids (members_in ws))) (table_of ws)) z }

module _ {ws us : List ℕ} {k : ℕ} (g : Good ws) (u : Round ws k us) where
  pub round_ends : get_or ws 1 0 ≤ k → us ≡ written (after_round (table_of ws)) ws
  round_ends h =
      let z : drop k (ids (members_in ws)) ≡ [] = drop_of_length-le (ids (members_in ws)) {i = k} (omega (arith, ids_count ws)) in
      u.follows.in_place ∙ ap (λ (T : Table). written T ws) (ap (λ (ns : List ℕ). after_turns ns (table_of us)) (sym z) ∙ u.rest)

  pub round_goes_on : {vs : List ℕ} (j : ℕ) → j ≡ suc k → k < get_or ws 1 0 → vs ≡ written (after_turn (get_or (ids (members_in us)) k 0) (table_of us)) us → Round ws j vs
  round_goes_on {vs} j q h e =
      let n : ℕ = get_or (ids (members_in us)) k 0 in
      let i = stands_in (own_place us k (omega (arith, same_count g u.follows))) in
      let x = lasting_next g u.follows (after_turn n (table_of us)) (acted_turn n (table_of us) u.follows.lasts.kept i).lasts e in
      let d : drop k (ids (members_in ws)) ≡ n ∷ drop (suc k) (ids (members_in ws)) =
      drop-cons (ids (members_in ws)) k 0 (omega (arith, ids_count ws))
      ∙ ap (λ (xs : List ℕ). get_or xs k 0 ∷ drop (suc k) (ids (members_in ws))) (sym u.follows.lasts.same_ids) in
      record {
        follows = x.follows;
        rest = ap (λ (i : ℕ). after_turns (drop i (ids (members_in ws))) (table_of vs)) q
            ∙ (ap (after_turns (drop (suc k) (ids (members_in ws)))) x.has ∙ (ap (λ (ns : List ℕ). after_turns ns (table_of us)) (sym d) ∙ u.rest));
      }
