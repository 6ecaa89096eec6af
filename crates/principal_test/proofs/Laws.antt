-- One pair of a list, and one list of the table: what the pairs left tell of the whole reply. Assumes nothing.
use Prim.Native.Nat.{ℕ, suc, ◌+◌, ◌*◌, ◌-◌, ◌≤◌, ◌<◌}
use mathlib.Core.Path.{◌≡◌, refl, sym, ap, ◌∙◌}
use mathlib.Core.Bool.{Bool, true, false, not, ◌||◌}
use mathlib.Core.List.{List, [], ◌∷◌, ◌++◌}
use native.Mathlib.Nat.{le_of_suc-le-suc}
use native.Mathlib.Numerals.{add-one}
use native.Mathlib.Omega.{arith}
use lib.ListN.{length, get_or, take, drop, length-take, length-drop, drop_of_length-le}
use lib.Seq.{drop-cons}
use Rattle.std.specs.Prelude.{if◌then◌else◌}
use Rattle.model.specs.Lists.{any, bit}
use Rattle.model.specs.Identifier.{between}
use Rattle.model.specs.Table.{Member, header_size, record_size, members_in, ids}
use Rattle.model.specs.Ring.{nobody}
use Rattle.model.specs.Pairs.{Pair, neighbours, pairs, skipped_by, taken, principal_reply}
use Rattle.laws.specs.Words.{members_length}
use Rattle.laws.specs.Pairs.{list_pairs}
use Rattle.table.specs.FormedWords.{FormedWords}
use Rattle.table.proofs.Members.{id_of, id_at_law, list_at, record_fits}
use Rattle.principal_test.specs.Spared.{spared}

-- the reply of the test of x over the pairs ps, after c others that do not skip it
abbrev pub reply_after : ℕ → ℕ → List Pair → List ℕ
reply_after c x ps = bit (not (any (skipped_by x) (taken x ps))) ∷ (c + length (taken x ps)) ∷ []

module _ (x : ℕ) where
  pub reply_here : (c : ℕ) (ps qs : List Pair) → spared x ps < length ps → 0 ∷ (c + spared x ps + 1) ∷ [] ≡ reply_after c x (ps ++ qs)
  reply_here c [] qs h = absurd (omega arith)
  reply_here c (p ∷ ps) qs h = go (skipped_by x p) (reply_here (suc c) ps qs) h
    where
      go : (b : Bool) → (spared x ps < length ps → 0 ∷ (suc c + spared x ps + 1) ∷ [] ≡ reply_after (suc c) x (ps ++ qs))
          → (if b then 0 else suc (spared x ps)) < suc (length ps)
          → 0 ∷ (c + (if b then 0 else suc (spared x ps)) + 1) ∷ []
          ≡ bit (not (b || any (skipped_by x) (if b then [] else taken x (ps ++ qs)))) ∷ (c + suc (length (if b then [] else taken x (ps ++ qs)))) ∷ []
      go true ih l = let e : c + 0 + 1 ≡ c + 1 = omega arith in rw e
      go false ih l =
          let e : c + suc (spared x ps) + 1 ≡ suc c + spared x ps + 1 = omega arith in
          let f : c + suc (length (taken x (ps ++ qs))) ≡ suc c + length (taken x (ps ++ qs)) = omega arith in
          rw (e, f) (ih (le_of_suc-le-suc l))

  pub reply_later : (c : ℕ) (ps qs : List Pair) → length ps ≤ spared x ps → reply_after (c + length ps) x qs ≡ reply_after c x (ps ++ qs)
  reply_later c [] qs h = let e : c + 0 ≡ c = omega arith in rw e
  reply_later c (p ∷ ps) qs h = go (skipped_by x p) (reply_later (suc c) ps qs) h
    where
      go : (b : Bool) → (length ps ≤ spared x ps → reply_after (suc c + length ps) x qs ≡ reply_after (suc c) x (ps ++ qs))
          → suc (length ps) ≤ (if b then 0 else suc (spared x ps))
          → reply_after (c + suc (length ps)) x qs ≡ bit (not (b || any (skipped_by x) (if b then [] else taken x (ps ++ qs))))
          ∷ (c + suc (length (if b then [] else taken x (ps ++ qs)))) ∷ []
      go true ih l = absurd (omega arith)
      go false ih l =
          let e : c + suc (length ps) ≡ suc c + length ps = omega arith in
          let f : c + suc (length (taken x (ps ++ qs))) ≡ suc c + length (taken x (ps ++ qs)) = omega arith in
          rw (e, f) (ih (le_of_suc-le-suc l))

-- `pairs_before`: so many pairs come before the first that skips x as the i before a and those of the rest of the list after a
abbrev pub Counted : List ℕ → ℕ → ℕ → ℕ → ℕ → Type 0
Counted ws k x a i = i + spared x (neighbours a (drop i (get_or (members_in ws) k nobody).successors)) ≡ spared x (neighbours (get_or (ids (members_in ws)) k 0) (get_or (members_in ws) k nobody).successors)

-- the record of the member at place k starts at `at`
module _ (ws : List ℕ) (f : FormedWords ws) (k at : ℕ) (h : k < get_or ws 1 0) (e : at ≡ header_size + k * record_size (get_or ws 0 0)) where
  abbrev list : List ℕ
  list = (get_or (members_in ws) k nobody).successors

  list_length : length list ≡ get_or ws 0 0
  list_length = rw (← list_at ws k at h e) (simp (length-take, length-drop) (omega (arith, record_fits ws k at h e f)))

  -- the part with its entries
  abbrev part : List ℕ
  part = take (at + 4 + get_or ws 0 0 - (at + 4)) (drop (at + 4) ws)

  -- entry i, and those after it
  list_from : (i : ℕ) → i < get_or ws 0 0 → drop i list ≡ get_or part i 0 ∷ drop (suc i) list
  list_from i l = rw (list_at ws k at h e) (drop-cons list i 0 (omega (arith, list_length)))

  pub part_length : length part ≡ get_or ws 0 0
  part_length = ap length (list_at ws k at h e) ∙ list_length

  module _ (x : ℕ) where
    pub count_none : Counted ws k x (get_or ws at 0) 0
    count_none = rw (id_at_law ws k at h e) (omega arith)

    module _ (a i : ℕ) (c : Counted ws k x a i) where
      -- the next pair skips x, or not
      pub count_here : i < get_or ws 0 0 → between a x (get_or part i 0) ≡ true → i ≡ spared x (neighbours (get_or (ids (members_in ws)) k 0) list)
      count_here l b = let z : i ≡ i + 0 = omega arith in z ∙ (rw (list_from i l, b) at c)

      pub count_on : i < get_or ws 0 0 → between a x (get_or part i 0) ≡ false → Counted ws k x (get_or part i 0) (i + 1)
      count_on l b = let z : i + 1 + spared x (neighbours (get_or part i 0) (drop (suc i) list)) ≡ i + suc (spared x (neighbours (get_or part i 0) (drop (suc i) list))) = omega arith in
          rw (add-one i) (rw (add-one i) at z ∙ (rw (list_from i l, b) at c))

      -- there is none
      pub count_all : i ≤ get_or ws 0 0 → get_or ws 0 0 ≤ i → get_or ws 0 0 ≡ spared x (neighbours (get_or (ids (members_in ws)) k 0) list)
      count_all u v = let z : get_or ws 0 0 ≡ i + 0 = omega arith in z ∙ (rw (drop_of_length-le list {i = i} (omega (arith, list_length))) at c)

-- `test_pairs`: the reply of the pairs from place k on, after the c pairs before them, which do not skip x
abbrev pub reply_from : List ℕ → ℕ → ℕ → ℕ → List ℕ
reply_from ws x c k = reply_after c x (pairs (drop k (members_in ws)))

pub all_pairs : (ws : List ℕ) (x k : ℕ) → k ≡ 0 → reply_from ws x 0 k ≡ principal_reply (members_in ws) x
all_pairs ws x k e = rw e (let z : 0 + length (taken x (pairs (members_in ws))) ≡ length (taken x (pairs (members_in ws))) = omega arith in rw z)

pub no_pairs : (ws : List ℕ) (x c k : ℕ) → get_or ws 1 0 ≤ k → 1 ∷ c ∷ [] ≡ reply_from ws x c k
no_pairs ws x c k h =
    let z : drop k (members_in ws) ≡ [] = drop_of_length-le (members_in ws) {i = k} (omega (arith, members_length (get_or ws 0 0) (get_or ws 1 0) (drop header_size ws))) in
    let w : c ≡ c + 0 = omega arith in
    rw z (ap (λ (y : ℕ). 1 ∷ y ∷ []) w)

module _ (ws : List ℕ) (f : FormedWords ws) (x c k before : ℕ) (h : k < get_or ws 1 0)
    (e : before ≡ spared x (neighbours (get_or (ids (members_in ws)) k 0) (get_or (members_in ws) k nobody).successors)) where
  abbrev ms : List Member
  ms = members_in ws

  abbrev ps : List Pair
  ps = neighbours (get_or (ids ms) k 0) (get_or ms k nobody).successors

  next_list : pairs (drop k ms) ≡ ps ++ pairs (drop (suc k) ms)
  next_list = rw (drop-cons ms k nobody (omega (arith, members_length (get_or ws 0 0) (get_or ws 1 0) (drop header_size ws))), id_of ms k)

  count_ps : length ps ≡ get_or ws 0 0
  count_ps = list_pairs _ (get_or ms k nobody).successors ∙ list_length ws f k (header_size + k * record_size (get_or ws 0 0)) h refl

  -- the list at place k skips x, or not
  pub ends_here : before < get_or ws 0 0 → 0 ∷ (c + before + 1) ∷ [] ≡ reply_from ws x c k
  ends_here l = rw (next_list, e) (reply_here x c ps (pairs (drop (suc k) ms)) (omega (arith, e, count_ps)))

  pub goes_on : get_or ws 0 0 ≤ before → reply_from ws x (c + get_or ws 0 0) (suc k) ≡ reply_from ws x c k
  goes_on l = rw next_list (ap (λ (n : ℕ). reply_from ws x (c + n) (suc k)) (sym count_ps) ∙ reply_later x c ps (pairs (drop (suc k) ms)) (omega (arith, e, count_ps)))
