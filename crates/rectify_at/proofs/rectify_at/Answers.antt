-- `rectify_at` meets its contract: it puts the rectified record in its place, or leaves the table that has it there. Assumes nothing.
use Prim.Native.Nat.{ℕ, ◌<◌}
use mathlib.Core.Path.{◌≡◌, sym, ap, ◌∙◌}
use mathlib.Core.Bool.{Bool, false}
use mathlib.Core.List.{List, [], ◌∷◌}
use lib.ListN.{get_or}
use Rattle.model.specs.Lists.{bit}
use Rattle.model.specs.Table.{Member, members_in, table_of, ids}
use Rattle.model.specs.Ring.{live, named, nobody}
use Rattle.model.specs.Steps.{renews, rectify, rectify_in, rectify_reply, rectified, replaced, with_members}
use Rattle.model.specs.Calls.{written}
use Rattle.laws.specs.Rectify.{rectify_same, rectify_none}
use Rattle.member.specs.View.{view}
use Rattle.member.specs.declared.Member.{Member as MemberIs}
use Rattle.std.specs.Result.{is_ok}
use Rattle.std.proofs.Common.{Result}
use Rattle.table.specs.FormedWords.{FormedWords}
use Rattle.table.specs.Located.{Stands, located}
use Rattle.table.proofs.Members.{id_of}
use Rattle.table.proofs.Place.{own_place, stands_at, stands_named, replaced_same, same_words, located_live}
use Rattle.rectify_at.proofs.rectify_at.Goals as goal

-- the member that the call is of, by its place and by its name
module _ (ws : List ℕ) (k q : ℕ) (f : FormedWords ws) (h : k < get_or ws 1 0) where
  abbrev ms : List Member
  ms = members_in ws

  abbrev here : Member
  here = get_or ms k nobody

  stands : Stands ws k (get_or (ids ms) k 0)
  stands = own_place ws k h

  by_name : (vs : List ℕ) (ys : List ℕ) → vs ≡ rectify_reply ms q here → ys ≡ written (with_members (replaced (rectify_in ms q here) ms) (table_of ws)) ws
      → (vs ≡ rectify_reply ms q (named ms (get_or (ids ms) k 0))) × (ys ≡ written (rectified (get_or (ids ms) k 0) q (table_of ws)) ws)
  by_name vs ys a b = let m = stands_named f stands in (
    a ∙ ap (rectify_reply ms q) m,
    b ∙ ap (λ (v : Member). written (with_members (replaced (rectify_in ms q v) ms) (table_of ws)) ws) m,
  )

  -- a record that the notice leaves as it is stands in the table
  same : false ≡ renews (live ms here.predecessor) q here → ws ≡ written (with_members (replaced (rectify_in ms q here) ms) (table_of ws)) ws
  same none = same_words ws f ∙ ap (λ (l : List Member). written (with_members l (table_of ws)) ws) (sym (replaced_same (stands_at f stands)))
      ∙ ap (λ (v : Member). written (with_members (replaced v ms) (table_of ws)) ws) (rectify_none ms q here (sym none))

-- is its predecessor a member?
alive : (ws : List ℕ) (x p : ℕ) (r : Result ℕ ℕ) (b : Bool) → b ≡ is_ok r → r ≡ located ws x → x ≡ p → b ≡ live (members_in ws) p
alive ws x p r b e h y = e ∙ (ap is_ok h ∙ (located_live ws x ∙ ap (live (members_in ws)) y))

pub returns-then-not-renews_at : goal.returns-then-not-renews_at
returns-then-not-renews_at c =
    let ws = c.args.t.now in
    let a = alive ws _ _ _ _ c.is_ok-alive.ensures.value c.locate.ensures c.word_at-p.ensures in
    let none = sym c.if-not-renews_at.true ∙ (c.renews_at.ensures ∙ ap (λ (b : Bool). renews b c.args.q (here ws c.args.k c.args.q c.requires.formed_words c.requires.k_bound)) a) in
    by_name ws c.args.k c.args.q c.requires.formed_words c.requires.k_bound _ _ (ap (λ (b : Bool). bit b ∷ []) none) (same ws c.args.k c.args.q c.requires.formed_words c.requires.k_bound none)

-- the record that is written
noticed : (ws : List ℕ) (k q : ℕ) (b : Bool) (m o : MemberIs) → let ms = members_in ws in let here = get_or ms k nobody in let r = get_or ws 0 0 in
    b ≡ live ms here.predecessor → view r m ≡ here → view r o ≡ rectify b q (view r m) → view r o ≡ rectify_in ms q here
noticed ws k q b m o a e h = h ∙ (ap (λ (x : Bool). rectify x q (view (get_or ws 0 0) m)) a ∙ ap (rectify (live (members_in ws) (get_or (members_in ws) k nobody).predecessor) q) e)

pub replace_at-requires : goal.replace_at-requires
replace_at-requires c =
    let ws = c.args.t.now in
    let a = alive ws _ _ _ _ c.is_ok-alive.ensures.value c.locate.ensures c.word_at-p.ensures in
    let w = noticed ws c.args.k c.args.q _ _ _ a c.member_at-m.ensures (c.rectify.ensures (get_or ws 0 0)) in
    let ms = members_in ws in
    record { formed_words = c.requires.formed_words; stands = record { within = c.requires.k_bound; has_id = id_of ms c.args.k ∙ sym (ap (λ (m : Member). m.id) w ∙ (rectify_same ms c.args.q (get_or ms c.args.k nobody)).id) } }

pub returns : goal.returns
returns c =
    let ws = c.args.t.now in
    let ms = members_in ws in
    let a = alive ws _ _ _ _ c.is_ok-alive.ensures.value c.locate.ensures c.word_at-p.ensures in
    let w = noticed ws c.args.k c.args.q _ _ _ a c.member_at-m.ensures (c.rectify.ensures (get_or ws 0 0)) in
    let some = sym c.if-not-renews_at.false ∙ (c.renews_at.ensures ∙ ap (λ (b : Bool). renews b c.args.q (here ws c.args.k c.args.q c.requires.formed_words c.requires.k_bound)) a) in
    by_name ws c.args.k c.args.q c.requires.formed_words c.requires.k_bound _ _ (ap (λ (b : Bool). bit b ∷ []) some)
    (c.replace_at.ensures ∙ ap (λ (m : Member). written (with_members (replaced m ms) (table_of ws)) ws) w)
