-- What a turn reads stands behind what the turns before it read. Assumes nothing.
use Rattle.std.proofs.Common.{◌≡◌, ℕ, ◌+◌, ◌≤◌, length, take, List, ◌++◌, sym, ap, ◌∙◌, subst, rules, append_assoc, length-take-le}
use Rattle.std.proofs.Math.Seq.{take-append-add}
use Rattle.std.proofs.lemmas.List.{take-append-le}
use Rattle.std.specs.Io.KnownBytes.{Consumes}
use Rattle.std.specs.declared.option.Option.{Option}
use Rattle.std.specs.declared.option.Option.TheVariants.{None, Some}
use Rattle.rehearse.proofs.read_full.Goals as goal

-- bytes given one after the other
consumes_more : (a b c : Option (List ℕ)) (p q : List ℕ) → Consumes a b p → Consumes b c q → Consumes a c (p ++ q)
consumes_more None b c p q h k = tt
consumes_more (Some xs) None c p q h k = absurd h
consumes_more (Some xs) (Some ys) None p q h k = absurd k
consumes_more (Some xs) (Some ys) (Some zs) p q h k = h ∙ ap (λ (l : List ℕ). p ++ l) k ∙ sym (append_assoc p q zs)

-- the front of a list with a part put behind its first elements
front : (at n : ℕ) (s p r : List ℕ) → at ≤ length s → n ≤ length p → take (at + n) (take at s ++ (p ++ r)) ≡ take at s ++ take n p
front at n s p r h k =
    ap (λ (m : ℕ). take (m + n) (take at s ++ (p ++ r))) (sym (length-take-le at s h))
    ∙ take-append-add (take at s) (p ++ r) n ∙ ap (λ (l : List ℕ). take at s ++ l) (take-append-le n p r k)

pub loop-at-preserved : goal.loop-at-preserved
loop-at-preserved g c =
    let l = c.loop-at in (
      search rules,
      subst (λ (bs : List ℕ). Consumes (g.R.Read.remaining c.args.input.now) (g.R.Read.remaining c.read.new.self) bs)
          (sym (front l.at c.in_ok-n.n l.buf c.read.new.buf _ l.invariant.0 c.in_ok-n.ensures.bound.0))
          (consumes_more _ _ _ _ _ l.invariant.1 c.in_ok-n.ensures.bytes.0),
    )
