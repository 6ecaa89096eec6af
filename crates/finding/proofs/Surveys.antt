-- Surveys: the ring members counted by their numbers, and what declines a call.
-- Assumes nothing.
use Prim.Native.Nat.{ℕ, ◌≤◌, ◌<◌}
use mathlib.Core.Path.{◌≡◌}
use mathlib.Core.List.{List}
use mathlib.Core.Bool.{true, false}
use native.Mathlib.Omega.{arith}
use borrow.Author.Tests.{lt-ltb, le-ltb}
use lib.Dec.{eqb}
use lib.ListN.{get_or, take}
use Rattle.model.specs.Lists.{count}
use Rattle.model.specs.Table.{Member, members_in, well_formed}
use Rattle.model.specs.Ring.{on_ring, ring_members, moves_to_ring}
use Rattle.model.specs.Refusals.{findings_refusal}
use Rattle.table.proofs.Members.{ids_count}
use Rattle.best_successors.proofs.Laws.{member_count}
use Rattle.places.specs.Each.{Each}
use Rattle.places.proofs.Arrays.{each_counted}
use Rattle.moves.proofs.Moves.{no_moves}

-- Counted by their numbers

module _ (ws : List ℕ) where
  abbrev ms : List Member
  ms = members_in ws

  abbrev n : ℕ
  n = get_or ws 1 0

  pub counted_ring : (a : List ℕ) → Each ms (moves_to_ring ms) n a → count (eqb 0) (take n a) ≡ ring_members ms
  counted_ring a e = each_counted ms (moves_to_ring ms) (eqb 0) (on_ring ms) n a (ids_count ws) e (λ x l. no_moves ms (omega (arith, member_count ws)) x)

  -- The number that declines the call

  module _ (room : ℕ) where
    pub refused_1 : well_formed ws ≡ false → findings_refusal ws room ≡ 1
    unfolding findings_refusal
    refused_1 e = rw e

    pub refused_10 : well_formed ws ≡ true → room < n → findings_refusal ws room ≡ 10
    unfolding findings_refusal
    refused_10 e h = rw (e, member_count ws, lt-ltb room n h)

    pub not_refused : well_formed ws ≡ true → n ≤ room → findings_refusal ws room ≡ 0
    unfolding findings_refusal
    not_refused e h = rw (e, member_count ws, le-ltb room n h)
