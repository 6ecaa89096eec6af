-- Bytes written one after the other. Assumes nothing.
use Prim.Native.Nat.{ℕ, suc, ◌+◌, ◌≤◌, ◌<◌}
use mathlib.Core.Path.{◌≡◌, refl, sym, ap, ◌∙◌}
use mathlib.Core.List.{List, [], ◌∷◌, ◌++◌, append_assoc, append-nil}
use native.Mathlib.Numerals.{add-one}
use native.Mathlib.Omega.{arith}
use lib.ListN.{length, get_or, take, drop, set, length-append, take-append-drop}
use lib.Seq.{sets, length-sets, drop-cons, take-suc}
use borrow.Rule.Slice.PartMut.{put_mid}
use Rattle.std.proofs.lemmas.List.Edits.{paste_all, sets-eq}
use Rattle.std.proofs.lemmas.Slice.{put_mid-paste}
use Rattle.script.specs.Text.{digits, numbers_text}
use Rattle.put.specs.Wrote.{Room, Wrote}
use Rattle.put.specs.declared.Output.{Output}

-- stores of two runs are those of the joined run
pub sets_append : (a b o : List ℕ) (at : ℕ) → sets o at (a ++ b) ≡ sets (sets o at a) (at + length a) b
sets_append [] b o at = let z : at + 0 ≡ at = omega arith in rw z
sets_append (x ∷ a) b o at = let z : at + suc (length a) ≡ suc at + length a = omega arith in rw z (sets_append a b (set o at x) (suc at))

-- two runs, one after the other
module _ {a b : List ℕ} {o m n : Output} where
  pub wrote_then : Wrote a o m → Wrote b m n → Wrote (a ++ b) o n
  wrote_then p q = record {
    place = rw (length-append a b) (omega (arith, p.place, q.place));
    bytes = q.bytes ∙ rw (p.bytes, p.place) (sym (sets_append a b o.bytes.now o.at));
    lent = q.lent ∙ p.lent;
  }

-- room for the second after the first
pub room_then : (a b : List ℕ) (o m : Output) → Room (a ++ b) o → Wrote a o m → Room b m
room_then a b o m h p = rw (p.bytes, length-sets o.bytes.now o.at a) (omega (arith, p.place, length-append a b))

-- room for the first
pub room_first : (a b : List ℕ) (o : Output) → Room (a ++ b) o → Room a o
room_first a b o h = omega (arith, length-append a b)

-- equal texts take the same room, and are written alike
pub room_same : {a b : List ℕ} (o : Output) → a ≡ b → Room b o → Room a o
room_same o e h = rw e h

pub wrote_same : {a b : List ℕ} {o n : Output} → a ≡ b → Wrote a o n → Wrote b o n
wrote_same e w = rw (← e) w

-- nothing
pub wrote_none : (o : Output) → Wrote [] o o
wrote_none o = record { place = omega arith; bytes = refl; lent = refl }

-- a run stored over the part of o that it takes
pub put_run : (s o ys : List ℕ) (at k : ℕ) → at + length s ≤ length o → ys ≡ s → k ≡ length s → put_mid at k o ys ≡ sets o at s
put_run s o ys at k h e f =
    put_mid-paste at k o ys s (length s) e (sym f) refl ∙ paste_all o at s (length s) refl ∙ sym (sets-eq s o at h ∙ append_assoc (take at o) s (drop (at + length s) o))

-- number by number: those before place i of vs, that one, and the rest
numbers_append : (xs ys : List ℕ) → numbers_text (xs ++ ys) ≡ numbers_text xs ++ numbers_text ys
numbers_append [] ys = refl
numbers_append (x ∷ xs) ys = ap (λ z. 32 ∷ digits x ++ z) (numbers_append xs ys) ∙ ap (λ z. 32 ∷ z) (sym (append_assoc (digits x) (numbers_text xs) (numbers_text ys)))

-- the next of them, where those before it are written
module _ (vs : List ℕ) (i : ℕ) (h : i < length vs) (o m : Output) (w : Wrote (numbers_text (take i vs)) o m) where
  abbrev text : List ℕ
  text = digits (get_or vs i 0)

  abbrev rest : List ℕ
  rest = numbers_text (drop (suc i) vs)

  parts : numbers_text vs ≡ numbers_text (take i vs) ++ ((32 ∷ []) ++ (text ++ rest))
  parts = ap numbers_text (sym (take-append-drop i vs)) ∙ numbers_append (take i vs) (drop i vs) ∙ ap (λ z. numbers_text (take i vs) ++ numbers_text z) (drop-cons vs i 0 h)

  ahead : Room (numbers_text vs) o → Room ((32 ∷ []) ++ (text ++ rest)) m
  ahead r = room_then (numbers_text (take i vs)) ((32 ∷ []) ++ (text ++ rest)) o m (rw (← parts) r) w

  pub space_room : Room (numbers_text vs) o → Room (32 ∷ []) m
  space_room r = room_first (32 ∷ []) (text ++ rest) m (ahead r)

  pub number_room : (n : Output) → Room (numbers_text vs) o → Wrote (32 ∷ []) m n → Room text n
  number_room n r s = room_first text rest n (room_then (32 ∷ []) (text ++ rest) m n (ahead r) s)

  upto : numbers_text (take i vs) ++ ((32 ∷ []) ++ text) ≡ numbers_text (take (i + 1) vs)
  upto = rw (add-one, take-suc vs i 0 h, numbers_append (take i vs) (get_or vs i 0 ∷ []), append-nil)

  pub number_on : (n e : Output) → Wrote (32 ∷ []) m n → Wrote text n e → Wrote (numbers_text (take (i + 1) vs)) o e
  number_on n e s d = wrote_same upto (wrote_then w (wrote_then s d))
