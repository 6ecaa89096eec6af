-- A session on its way: what is printed already, and what the lines left will print, are the whole. Assumes nothing.
use Prim.Native.Nat.{ℕ, suc, ◌+◌, ◌*◌, ◌-◌, ◌≤◌, ◌<◌}
use mathlib.Core.Path.{◌≡◌, sym, ap, ◌∙◌}
use mathlib.Core.List.{List, ◌∷◌, ◌++◌}
use native.Mathlib.Omega.{arith}
use lib.ListN.{length, take, drop, length-append, length-drop}
use lib.Seq.{sets, length-sets, length-take-le}
use Rattle.script.specs.Lines.{lines, meaning}
use Rattle.script.specs.Session.{line_text, line_words, text_from, words_from}
use Rattle.put.specs.Wrote.{Wrote}
use Rattle.put.specs.declared.Output.{Output}
use Rattle.put.proofs.Writing.{sets_append}
use Rattle.part.specs.Part.{reach}
use Rattle.rehearsal.proofs.Lines.{first_line}

-- the input s, the table t₀ and the output o₀ of the start; t, o, p as they are now, after n lines
pub record Going (s t₀ : List ℕ) (o₀ : Output) (t : List ℕ) (o : Output) (p : List ℕ) (n : ℕ) : Type 0 where
  pub count : n + length p ≤ 65536
  pub room : 0 < length p → o.at + 10 * length p + 10 ≤ length o.bytes.now
  pub inside : o.at ≤ length o.bytes.now
  pub long : length o.bytes.now ≡ length o₀.bytes.now
  pub lent : o.bytes.ghost_name ≡ o₀.bytes.ghost_name
  pub table : length t ≡ length t₀
  pub place : o.at + length (text_from (suc n) t (lines p)) ≡ o₀.at + length (text_from 1 t₀ (lines s))
  pub bytes : sets o.bytes.now o.at (text_from (suc n) t (lines p)) ≡ sets o₀.bytes.now o₀.at (text_from 1 t₀ (lines s))
  pub words : words_from t (lines p) ≡ words_from t₀ (lines s)

-- it is printed; q is left
module _ (s t₀ : List ℕ) (o₀ : Output) (t : List ℕ) (o : Output) (p : List ℕ) (n k : ℕ) (q : List ℕ) (g : Going s t₀ o₀ t o p n) (some : 0 < length p) (least : k ≤ length p) (end : k ≡ reach 10 p) (after : q ≡ drop (k + 1) p) where
  module _ (u : List ℕ) (m : Output) (w : Wrote (line_text (n + 1) t (meaning (take k p))) o m) (v : u ≡ line_words t (meaning (take k p)))
      (b : m.at ≤ o.at + 10 * (length (take k p) + 1)) (c : length u ≡ length t) where
    abbrev text : List ℕ
    text = line_text (suc n) t (meaning (take k p))

    abbrev rest : List ℕ
    rest = text_from (suc (suc n)) u (lines q)

    first : lines p ≡ take k p ∷ lines q
    first = let y : k + 1 ≡ suc k = omega arith in rw (after, y, end) (first_line p some)

    shorter : length q ≡ length p - (k + 1)
    shorter = rw after (length-drop (k + 1) p)

    z : n + 1 ≡ suc n
    z = omega arith

    wrote : Wrote text o m
    wrote = rw z at w

    same : length m.bytes.now ≡ length o.bytes.now
    same = ap length wrote.bytes ∙ length-sets o.bytes.now o.at text

    ahead : text_from (suc n) t (lines p) ≡ text ++ rest
    ahead = rw (first, v)

    left : Going s t₀ o₀ u m q (suc n)
    left = record {
      count = omega (arith, g.count, shorter);
      room = λ f. omega (arith, shorter, g.room some, length-take-le k p least, same);
      inside = omega (arith, g.room some, length-take-le k p least, same);
      long = same ∙ g.long;
      lent = wrote.lent ∙ g.lent;
      table = c ∙ g.table;
      place = omega (arith, wrote.place, g.place, ap length ahead, length-append text rest);
      bytes = rw (wrote.bytes, wrote.place) (sym (sets_append text rest o.bytes.now o.at) ∙ ap (sets o.bytes.now o.at) (sym ahead) ∙ g.bytes);
      words = rw v (ap (words_from t) (sym first) ∙ g.words);
    }

    pub goes_on : Going s t₀ o₀ u m q (n + 1)
    goes_on = rw z left
