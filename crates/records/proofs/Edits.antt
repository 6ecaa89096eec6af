-- The words that an edit of the members leaves: records put in, in place and out are members put in, in place and out.
-- Assumes nothing.
use Prim.Native.Nat.{ℕ, suc, ◌+◌, ◌*◌, ◌-◌, ◌≤◌}
use mathlib.Core.Path.{◌≡◌, refl, sym, ap, ap₂, ◌∙◌}
use mathlib.Core.Bool.{true, false}
use mathlib.Core.List.{List, [], ◌∷◌, ◌++◌, append_assoc, append-nil}
use native.Mathlib.Nat.{suc-mul, mul-le-mul_right}
use native.Mathlib.Omega.{arith}
use lib.ListN.{length, get_or, take, drop, set, replicate, length-take, length-drop, length-append, length-replicate, take-append-drop}
use lib.Seq.{drop-drop}
use Rattle.model.specs.Lists.{overlay, rising}
use Rattle.model.specs.Table.{Member, Table, header_size, header_of, record_size, size, record_of, members_in, records_of, table_of, words_of, ids}
use Rattle.model.specs.Ring.{live}
use Rattle.model.specs.Steps.{inserted, replaced, with_members, without}
use Rattle.model.specs.Calls.{written, written_freed}
use Rattle.laws.specs.Parts.{drop_take, part_from, tail_back}
use Rattle.laws.specs.Words.{OwnHeader, record_length, members_length, records_written, header_take, header_counted, header_same}
use Rattle.table.specs.Rank.{rank}
use Rattle.table.proofs.Members.{span, ids_count, size_words, members_take, members_drop, records_append}
use Rattle.table.proofs.Place.{At, Gap, rank_most, gap_at, within_count, replaced_at, without_at, inserted_at}

join : (u v x y z : List ℕ) → ((u ++ (v ++ x)) ++ y) ++ z ≡ u ++ (v ++ (x ++ (y ++ z)))
join u v x y z = simp append_assoc

-- the records of a slice, and how many words each of them has
abbrev body : List ℕ → List ℕ
body ws = drop header_size ws

abbrev record_words : List ℕ → ℕ
record_words ws = record_size (get_or ws 0 0)

after_header : (ws : List ℕ) (n : ℕ) → drop (header_size + n) ws ≡ drop n (body ws)
after_header ws n = sym (drop-drop n header_size ws)

module _ (ws : List ℕ) where
  abbrev count : ℕ
  count = get_or ws 1 0

  -- the first k members, new ones, and those from j on; and then zs over what follows
  module _ (k j : ℕ) (new : List Member) (zs : List ℕ) (kn : k ≤ count) (jn : j ≤ count) (fits : header_size + count * record_words ws ≤ length ws) where
    abbrev left : List Member
    left = take k (members_in ws) ++ (new ++ drop j (members_in ws))

    records_fit : count * record_words ws ≤ length (body ws)
    records_fit = simp length-drop (omega arith)

    edited_records : records_of left ≡ take (k * record_words ws) (body ws) ++ (records_of new ++ take ((count - j) * record_words ws) (drop (j * record_words ws) (body ws)))
    edited_records =
        let r = get_or ws 0 0 in
        let s = span k count (record_words ws) kn in
        let t = span j count (record_words ws) jn in
        let f = records_fit in
        rw (
          records_append,
          records_append,
          members_take r k count (body ws) kn,
          members_drop r j count (body ws) jn,
          records_written r k (body ws) (omega arith),
          records_written r (count - j) (drop (j * record_words ws) (body ws)) (simp length-drop (omega arith)),
        )

    edited_count : length left ≡ k + (length new + (count - j))
    edited_count = simp (length-append, length-take, length-drop, members_length) (omega arith)

    -- vs are the new members' records, and z the number of words after the header up to the end of zs
    edited : (vs : List ℕ) (z : ℕ) → records_of new ≡ vs → z ≡ k * record_words ws + (length vs + ((count - j) * record_words ws + length zs)) →
        header_of (with_members left (table_of ws)) ++ (take (k * record_words ws) (body ws)
        ++ (vs ++ (take ((count - j) * record_words ws) (drop (j * record_words ws) (body ws)) ++ (zs ++ drop z (body ws)))))
        ≡ overlay (words_of (with_members left (table_of ws)) ++ zs) ws
    edited vs z qv qz =
        let s = span k count (record_words ws) kn in
        let t = span j count (record_words ws) jn in
        let f = records_fit in
        let U = with_members left (table_of ws) in
        let tail = take ((count - j) * record_words ws) (drop (j * record_words ws) (body ws)) in
        let v = take (k * record_words ws) (body ws) ++ (vs ++ tail) in
        let l : length (v ++ zs) ≡ z = simp (length-append, length-take, length-drop) (omega arith) in
        let e : words_of U ++ zs ≡ header_of U ++ (v ++ zs) =
        ap (λ (x : List ℕ). header_of U ++ (x ++ zs)) (edited_records ∙ ap (λ (x : List ℕ). take (k * record_words ws) (body ws) ++ (x ++ tail)) qv) in
        let n : length (words_of U ++ zs) ≡ header_size + z = ap length e ∙ omega (arith, l) in
        sym (ap₂ (λ (x : List ℕ) (i : ℕ). x ++ drop i ws) e n ∙ ap (λ (x : List ℕ). (header_of U ++ (v ++ zs)) ++ x) (after_header ws z)
        ∙ ap (λ (x : List ℕ). header_of U ++ x) (join (take (k * record_words ws) (body ws)) vs tail zs (drop z (body ws))))

-- a written table: nothing is cleared after it
written_exact : (T : Table) (ws : List ℕ) → overlay (words_of T ++ []) ws ≡ written T ws
written_exact T ws = ap (λ (x : List ℕ). overlay x ws) (append-nil (words_of T))

-- the place where x is missing

pub rank_within : (ws : List ℕ) (x k : ℕ) → k ≡ rank (ids (members_in ws)) x → k ≤ get_or ws 1 0
rank_within ws x k e = omega (arith, e, rank_most (ids (members_in ws)) x, ids_count ws)

-- the records from k on, and one more after them
pub room : (ws : List ℕ) (at end k : ℕ) → k ≤ get_or ws 1 0 → size (table_of ws) + record_words ws ≤ length ws → at ≡ header_size + k * record_words ws
    → end ≡ header_size + get_or ws 1 0 * record_words ws → (at ≤ end) × (end + record_words ws ≤ length ws)
room ws at end k h f p q =
    let l : k * record_words ws ≤ get_or ws 1 0 * record_words ws = mul-le-mul_right (record_words ws) h in
    let z = size_words ws in
    (omega arith, omega arith)

pub gap_of : (ws : List ℕ) (x k : ℕ) → live (members_in ws) x ≡ false → k ≡ rank (ids (members_in ws)) x → Gap x (members_in ws) k
gap_of ws x k l e = rw e (gap_at (members_in ws) x l)

-- Edits, in the terms of the code: ys is what a call left of the tail lent to it, which starts at the word `at`

-- the tail when it was lent, and the whole when it came back
abbrev lent : ℕ → List ℕ → List ℕ
lent at ws = take (length ws - at) (drop at ws)

abbrev back : ℕ → List ℕ → List ℕ → List ℕ
back at ws ys = take at ws ++ (ys ++ drop (length ws - at) (drop at ws))

-- the whole, where the tail began after k records
back_at : (ws : List ℕ) (h : OwnHeader ws) (at n : ℕ) (ys : List ℕ) → at ≡ header_size + n → back at ws ys ≡ header_of (table_of ws) ++ (take n (body ws) ++ ys)
back_at ws h at n ys e = tail_back at ws ys ∙ ap (λ (i : ℕ). take i ws ++ ys) e ∙ ap (λ (x : List ℕ). x ++ ys) (header_take ws n h)

lent_at : (ws : List ℕ) (at n : ℕ) → at ≡ header_size + n → lent at ws ≡ drop n (body ws)
lent_at ws at n e = part_from at ws ∙ ap (λ (i : ℕ). drop i ws) e ∙ after_header ws n

module _ (ws : List ℕ) (h : OwnHeader ws) where
  pub insert_words : (v : Member) (at end k : ℕ) (ys : List ℕ) → length v.successors ≡ get_or ws 0 0 → Gap v.id (members_in ws) k → k ≤ get_or ws 1 0
      → at ≡ header_size + k * record_words ws → end ≡ header_size + get_or ws 1 0 * record_words ws → end + record_words ws ≤ length ws
      → ys ≡ record_of v ++ (take (end - at) (lent at ws) ++ drop (end - at + record_words ws) (lent at ws))
      → set (back at ws ys) 1 (get_or ws 1 0 + 1) ≡ written (with_members (inserted v (members_in ws)) (table_of ws)) ws
  insert_words v at end k ys lv g kb ea ee fits ey =
      let b : ℕ = get_or ws 1 0 in
      let w : ℕ = record_words ws in
      let s = span k b w kb in
      let u : end - at ≡ (b - k) * w = omega arith in
      let U = with_members (take k (members_in ws) ++ (v ∷ drop k (members_in ws))) (table_of ws) in
      let y : ys ≡ record_of v ++ (take ((b - k) * w) (drop (k * w) (body ws)) ++ drop (k * w + ((b - k) * w + w)) (body ws)) =
      ey ∙ rw (u, lent_at ws at (k * w) ea, drop-drop ((b - k) * w + w) (k * w) (body ws)) in
      ap (λ (x : List ℕ). set x 1 (b + 1)) (back_at ws h at (k * w) ys ea)
      ∙ header_counted (table_of ws) U.members (b + 1) (take (k * w) (body ws) ++ ys) (sym (edited_count ws k k (v ∷ []) [] kb kb (omega arith) ∙ omega arith))
      ∙ ap (λ (x : List ℕ). header_of U ++ (take (k * w) (body ws) ++ x)) y
      ∙ edited ws k k (v ∷ []) [] kb kb (omega arith) (record_of v) (k * w + ((b - k) * w + w)) (append-nil (record_of v)) (omega (arith, record_length (get_or ws 0 0) v lv))
      ∙ written_exact U ws
      ∙ ap (λ (x : List Member). written (with_members x (table_of ws)) ws) (sym (inserted_at v g))

  pub replace_words : (v : Member) (at k : ℕ) (ys : List ℕ) → length v.successors ≡ get_or ws 0 0 → At v.id (members_in ws) k
      → at ≡ header_size + k * record_words ws → header_size + get_or ws 1 0 * record_words ws ≤ length ws → ys ≡ record_of v ++ drop (record_words ws) (lent at ws)
      → back at ws ys ≡ written (with_members (replaced v (members_in ws)) (table_of ws)) ws
  replace_words v at k ys lv g ea fits ey =
      let b : ℕ = get_or ws 1 0 in
      let w : ℕ = record_words ws in
      let kb : suc k ≤ b = within_count ws g in
      let s = span (suc k) b w kb in
      let n = suc-mul k w in
      let x : List ℕ = drop (suc k * w) (body ws) in
      let U = with_members (take k (members_in ws) ++ (v ∷ drop (suc k) (members_in ws))) (table_of ws) in
      let f : drop w (drop (k * w) (body ws)) ≡ take ((b - suc k) * w) x ++ drop (b * w) (body ws) =
      drop-drop w (k * w) (body ws) ∙ rw (← n, s, ← drop-drop ((b - suc k) * w) (suc k * w) (body ws), take-append-drop) in
      let y : ys ≡ record_of v ++ (take ((b - suc k) * w) x ++ drop (b * w) (body ws)) = ey ∙ rw (lent_at ws at (k * w) ea, f) in
      back_at ws h at (k * w) ys ea
      ∙ ap (λ (l : List ℕ). l ++ (take (k * w) (body ws) ++ ys))
      (header_same (table_of ws) U.members (edited_count ws k (suc k) (v ∷ []) [] (omega arith) kb fits
      ∙ omega (arith, members_length (get_or ws 0 0) b (body ws))))
      ∙ ap (λ (l : List ℕ). header_of U ++ (take (k * w) (body ws) ++ l)) y
      ∙ edited ws k (suc k) (v ∷ []) [] (omega arith) kb fits (record_of v) (b * w) (append-nil (record_of v)) (omega (arith, record_length (get_or ws 0 0) v lv))
      ∙ written_exact U ws
      ∙ ap (λ (l : List Member). written (with_members l (table_of ws)) ws) (sym (replaced_at v g))

  pub remove_words : (x at end k : ℕ) (ys : List ℕ) → rising (ids (members_in ws)) ≡ true → At x (members_in ws) k → at ≡ header_size + k * record_words ws
      → end ≡ header_size + get_or ws 1 0 * record_words ws → end ≤ length ws
      → ys ≡ drop (record_words ws) (take (end - at) (lent at ws)) ++ (replicate (record_words ws) 0 ++ drop (end - at) (lent at ws))
      → set (back at ws ys) 1 (get_or ws 1 0 - 1) ≡ written_freed (without x (table_of ws)) ws
  remove_words x at end k ys rise g ea ee fits ey =
      let b : ℕ = get_or ws 1 0 in
      let w : ℕ = record_words ws in
      let kb : suc k ≤ b = within_count ws g in
      let s = span (suc k) b w kb in
      let n = suc-mul k w in
      let u : end - at ≡ w + (b - suc k) * w = omega arith in
      let u' : w + (b - suc k) * w - w ≡ (b - suc k) * w = omega arith in
      let zs : List ℕ = replicate w 0 in
      let e : k * w + w ≡ suc k * w = omega arith in
      let ns : List Member = take k (members_in ws) ++ drop (suc k) (members_in ws) in
      let y : ys ≡ take ((b - suc k) * w) (drop (suc k * w) (body ws)) ++ (zs ++ drop (k * w + (w + (b - suc k) * w)) (body ws)) =
      ey ∙ rw (
        u,
        lent_at ws at (k * w) ea,
        drop_take w (w + (b - suc k) * w) (drop (k * w) (body ws)),
        u',
        drop-drop w (k * w) (body ws),
        e,
        drop-drop (w + (b - suc k) * w) (k * w) (body ws),
      ) in
      ap (λ (l : List ℕ). set l 1 (b - 1)) (back_at ws h at (k * w) ys ea)
      ∙ header_counted (table_of ws) ns (b - 1) (take (k * w) (body ws) ++ ys) (sym (edited_count ws k (suc k) [] zs (omega arith) kb (omega arith) ∙ omega arith))
      ∙ ap (λ (l : List ℕ). header_of (with_members ns (table_of ws)) ++ (take (k * w) (body ws) ++ l)) y
      ∙ edited ws k (suc k) [] zs (omega arith) kb (omega arith) [] (k * w + (w + (b - suc k) * w)) refl (simp length-replicate (omega arith))
      ∙ ap (λ (l : List Member). written_freed (with_members l (table_of ws)) ws) (sym (without_at rise g))
