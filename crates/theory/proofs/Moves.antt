-- The theorems of which Moves in specs/ has the definitions, with their proofs.
use Rattle.std.specs.Prelude.{◌≡◌, refl, ◌⊎◌, Bool, true, false, List, ℕ, zero, suc, ◌+◌, ◌≤◌, ◌<◌, length}
use Rattle.std.proofs.Common.{sym, ◌∙◌, inl, inr, true≢false, arith}
use Rattle.std.proofs.Math.Option.{Option, some, none}
use Rattle.model.specs.Table.{Member, members_in}
use Rattle.model.specs.Ring.{live, best_successor, moved, on_ring, moves_from, moves_to_ring}
use Rattle.laws.specs.Lists.{count_less, length_ids, live_in}
use Rattle.laws.specs.Order.{less?}
use Rattle.theory.specs.Claim.{appendages, Holds}
use Rattle.theory.proofs.Walks.{sooner}
use Rattle.theory.specs.Moves.{LeadsOn, First, Told, fewest, never}

module _ (ms : List Member) where
  -- what moves_from tells after k moves, where so many places are looked at
  data Looked (fuel k x : ℕ) : Type 0 where
    comes : (i : ℕ) → i < fuel → moves_from ms fuel k x ≡ k + i → First ms x i → Looked fuel k x
    passes : moves_from ms fuel k x ≡ length ms → ((i y : ℕ) → i < fuel → moved ms i x ≡ some y → on_ring ms y ≡ false) → Looked fuel k x

  -- the ring is at x
  look_here : (fuel k x : ℕ) → on_ring ms x ≡ true → Looked (suc fuel) k x
  look_here fuel k x e = comes 0 (omega arith) (rw e (omega arith)) (record { place = x; leads = refl; on = e; off = λ i y h q. absurd (omega arith) })

  -- no move can be made from x
  look_stuck : (fuel k x : ℕ) → on_ring ms x ≡ false → best_successor ms x ≡ none → Looked (suc fuel) k x
  look_stuck fuel k x e b = passes (rw (e, b)) off
    where
      off : (i z : ℕ) → i < suc fuel → moved ms i x ≡ some z → on_ring ms z ≡ false
      off zero z h q = let u : x ≡ z = cc in rw u at e
      off (suc i) z h q = let u : ◌≡◌ {A = ℕ} 0 1 = cc (rw b at q) in absurd (omega arith)

  -- one move goes on from x to y
  look_on : (fuel k x y : ℕ) → on_ring ms x ≡ false → best_successor ms x ≡ some y → Looked fuel (suc k) y → Looked (suc fuel) k x
  look_on fuel k x y e b (comes i few told f) = comes (suc i) (omega arith) (rw (e, b) (omega (arith, told))) (record { place = f.place; leads = rw b f.leads; on = f.on; off = off })
    where
      off : (j z : ℕ) → j < suc i → moved ms j x ≡ some z → on_ring ms z ≡ false
      off zero z h q = let u : x ≡ z = cc in rw u at e
      off (suc j) z h q = f.off j z (omega arith) (rw b at q)
  look_on fuel k x y e b (passes told g) = passes (rw (e, b) told) off
    where
      off : (j z : ℕ) → j < suc fuel → moved ms j x ≡ some z → on_ring ms z ≡ false
      off zero z h q = let u : x ≡ z = cc in rw u at e
      off (suc j) z h q = g j z (omega arith) (rw b at q)

  look : (fuel k x : ℕ) → Looked fuel k x
  look zero k x = passes refl (λ i y h q. absurd (omega arith))
  look (suc fuel) k x = go (on_ring ms x) refl (best_successor ms x) refl (look fuel (suc k))
    where
      go : (t : Bool) → on_ring ms x ≡ t → (b : Option ℕ) → best_successor ms x ≡ b → ((y : ℕ) → Looked fuel (suc k) y) → Looked (suc fuel) k x
      go true t b f ih = look_here fuel k x t
      go false t none f ih = look_stuck fuel k x t f
      go false t (some y) f ih = look_on fuel k x y t f (ih y)

  -- the member count is places enough: who comes onto the ring does so in fewer moves
  pub moves_told : (x : ℕ) → live ms x ≡ true → Told ms x (moves_to_ring ms x)
  moves_told x l = go (look (length ms) 0 x)
    where
      go : Looked (length ms) 0 x → Told ms x (moves_to_ring ms x)
      go (comes i few told f) = let e : moves_to_ring ms x ≡ i = omega (arith, told) in rw e (fewest f few)
      go (passes told g) = never told (λ c. let s = sooner ms x c.1.moves (live_in ms x l) c.1.leads c.1.on in true≢false
          (sym s.on ∙ g s.moves s.place (omega (arith, s.few, count_less (λ y. false) (live_in ms x l) refl, length_ids ms)) s.leads))

  -- The same, said apart

  -- where some number of moves leads onto the ring, the fewest are told
  pub moves_fewest : (x : ℕ) → live ms x ≡ true → LeadsOn ms x → First ms x (moves_to_ring ms x)
  moves_fewest x l c = go (moves_told x l)
    where
      go : {m : ℕ} → Told ms x m → First ms x m
      go (fewest f few) = f
      go (never e n) = absurd (n c)

  -- the member count is told exactly where none does
  pub moves_never : (x : ℕ) → live ms x ≡ true → (moves_to_ring ms x ≡ length ms → LeadsOn ms x → ⊥) × ((LeadsOn ms x → ⊥) → moves_to_ring ms x ≡ length ms)
  moves_never x l = (λ e. none_leads e (moves_told x l), λ n. count_told n (moves_told x l))
    where
      none_leads : {m : ℕ} → m ≡ length ms → Told ms x m → LeadsOn ms x → ⊥
      none_leads e (fewest f few) c = omega arith
      none_leads e (never q n) c = n c

      count_told : {m : ℕ} → (LeadsOn ms x → ⊥) → Told ms x m → m ≡ length ms
      count_told {m} n (fewest f few) = absurd (n (m, record { moves = m; few = omega arith; place = f.place; leads = f.leads; on = f.on }))
      count_told n (never q k) = q

  -- 0 is told exactly on the ring
  pub moves_zero : (x : ℕ) → live ms x ≡ true → (on_ring ms x ≡ true → moves_to_ring ms x ≡ 0) × (moves_to_ring ms x ≡ 0 → on_ring ms x ≡ true)
  moves_zero x l = (λ o. zero_of (moves_to_ring ms x) (moves_fewest x l (0, record { moves = 0; few = omega arith; place = x; leads = refl; on = o })) o, λ e. on_of e (moves_told x l))
    where
      zero_of : (i : ℕ) → First ms x i → on_ring ms x ≡ true → i ≡ 0
      zero_of zero g o = refl
      zero_of (suc i) g o = absurd (true≢false (sym o ∙ g.off 0 x (omega arith) refl))

      on_of : {m : ℕ} → m ≡ 0 → Told ms x m → on_ring ms x ≡ true
      on_of e (fewest f few) = let p = rw e at f.leads in let u : f.place ≡ x = cc p in rw u at f.on
      on_of e (never q n) = absurd (omega (arith, count_less (λ y. false) (live_in ms x l) refl, length_ids ms))

-- On every slice of which demand 3 tells what holds, they are few: at most as many as there are members outside the ring

pub moves_first : (ws : List ℕ) → Holds ws → (x : ℕ) → live (members_in ws) x ≡ true → First (members_in ws) x (moves_to_ring (members_in ws) x) × (moves_to_ring (members_in ws) x ≤ appendages (members_in ws))
moves_first ws h x l = (f, go (less? (appendages (members_in ws)) (moves_to_ring (members_in ws) x)))
  where
    f : First (members_in ws) x (moves_to_ring (members_in ws) x)
    f = moves_fewest (members_in ws) x l (appendages (members_in ws), h.comes_on x l)

    go : (appendages (members_in ws) < moves_to_ring (members_in ws) x) ⊎ (moves_to_ring (members_in ws) x ≤ appendages (members_in ws)) → moves_to_ring (members_in ws) x ≤ appendages (members_in ws)
    go (inr k) = k
    go (inl k) = let c = h.comes_on x l in absurd (true≢false (sym c.on ∙ f.off c.moves c.place (omega (arith, c.few)) c.leads))
