-- The whole session: its output at the front of the slice, or a slice that is too short. Assumes nothing.
use Prim.Native.Nat.{ℕ, ◌+◌, ◌*◌, ◌≤◌, ◌<◌}
use mathlib.Core.Path.{◌≡◌, sym, ap, ◌∙◌}
use mathlib.Core.Bool.{true, false}
use mathlib.Core.List.{List}
use native.Mathlib.Nat.{zero-add}
use native.Mathlib.Omega.{arith}
use lib.ListN.{length, take}
use Rattle.std.specs.Prelude.{Ok, Err}
use lib.Seq.{sets, sets-eq, length-sets, length-take-le}
use borrow.Author.Tests.{le-leb, lt-leb}
use Rattle.model.specs.Lists.{overlay}
use Rattle.script.specs.Lines.{counted, lines}
use Rattle.script.specs.Session.{text_from, words_from, session_text, session_words}
use Rattle.put.specs.Wrote.{Wrote}
use Rattle.put.specs.declared.Output.{Output}
use Rattle.rehearsal.specs.Outcomes.{too_short, roomy, outcome, out_after, words_after, Within}

-- bytes written at the front stand over the old ones
front : (s o : List ℕ) → length s ≤ length o → sets o 0 s ≡ overlay s o
front s o h =
    let z : 0 + length s ≡ length s = zero-add (length s) in
    sets-eq s o 0 (omega arith) ∙ rw z

module _ (bs ws out : List ℕ) (n : ℕ) (exact : n ≡ length (take n bs)) (same : take n bs ≡ counted bs) where
  counts : length (counted bs) ≡ n
  counts = sym (exact ∙ ap length same)

  pub cut_short : length out < 10 * n + 10 → (Err too_short ≡ outcome bs ws out) × (out ≡ out_after bs ws out) × (ws ≡ words_after bs ws out) × Within (Err too_short) out
  unfolding outcome out_after words_after
  cut_short h =
      let e : roomy bs out ≡ false = lt-leb (10 * length (counted bs) + 10) (length out) (omega (arith, counts)) in
      (rw e, rw e, rw e, tt)

  pub whole : (t : List ℕ) (o m : Output) → 10 * n + 10 ≤ length out → o.bytes.now ≡ out → o.at ≡ 0 → Wrote (text_from 1 ws (lines (take n bs))) o m → t ≡ words_from ws (lines (take n bs))
      → m.at ≤ length o.bytes.now → (Ok m.at ≡ outcome bs ws out) × (m.bytes.now ≡ out_after bs ws out) × (t ≡ words_after bs ws out) × Within (Ok m.at) m.bytes.now
  unfolding outcome out_after words_after session_text session_words
  whole t o m h f a w v l =
      let e : roomy bs out ≡ true = le-leb (10 * length (counted bs) + 10) (length out) (omega (arith, counts)) in
      let x : Wrote (text_from 1 ws (lines (counted bs))) o m = rw same at w in
      let p : m.at ≡ length (text_from 1 ws (lines (counted bs))) = omega (arith, x.place) in
      let b : m.bytes.now ≡ sets out 0 (text_from 1 ws (lines (counted bs))) = rw (f, a) at x.bytes in
      let q : length m.bytes.now ≡ length out = ap length b ∙ length-sets out 0 (text_from 1 ws (lines (counted bs))) in (
        rw e (ap Ok p),
        rw e (b ∙ front (text_from 1 ws (lines (counted bs))) out (omega (arith, ap length f))),
        rw (e, ← same) v,
        (omega (arith, ap length f), sym (length-take-le m.at m.bytes.now (omega (arith, ap length f)))),
      )
