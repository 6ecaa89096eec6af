-- `turn_at` meets its contract. Assumes nothing.
use mathlib.Core.Path.{◌≡◌, sym, ap, ◌∙◌}
use native.Mathlib.Omega.{arith}
use lib.ListN.{get_or}
use Rattle.model.specs.Table.{table_of, members_in, ids}
use Rattle.model.specs.Settle.{after_turn}
use Rattle.model.specs.Calls.{written}
use Rattle.table.specs.Located.{Stands}
use Rattle.table.proofs.Members.{id_of}
use Rattle.turns.proofs.Lasting.{good_formed, good_still, stands_still}
use Rattle.turns.proofs.Turns.{finished_next, turned}
use Rattle.turns.proofs.turn_at.Goals as goal

pub word_at-n-requires : goal.word_at-n-requires
word_at-n-requires c = record { formed_words = good_formed c.requires.good; k_bound = (c.requires.k_bound, omega arith) }

pub finish_pending-requires : goal.finish_pending-requires
finish_pending-requires c =
    let is_n : c.word_at-n.result ≡ get_or (ids (members_in c.args.t.now)) c.args.k 0 = c.word_at-n.ensures ∙ sym (id_of (members_in c.args.t.now) c.args.k) in
    let stands : Stands c.args.t.now c.args.k c.word_at-n.result = record { within = c.requires.k_bound; has_id = sym is_n } in
    record { good = c.requires.good; stands = stands }

pub until_done-requires : goal.until_done-requires
until_done-requires c =
    let is_n : c.word_at-n.result ≡ get_or (ids (members_in c.args.t.now)) c.args.k 0 = c.word_at-n.ensures ∙ sym (id_of (members_in c.args.t.now) c.args.k) in
    let stands : Stands c.args.t.now c.args.k c.word_at-n.result = record { within = c.requires.k_bound; has_id = sym is_n } in
    let g = c.requires.good in
    let o = (finished_next g stands c.finish_pending.ensures).follows in
    record { good = good_still g o; stands = stands_still g o stands }

pub returns : goal.returns
returns c =
    let is_n : c.word_at-n.result ≡ get_or (ids (members_in c.args.t.now)) c.args.k 0 = c.word_at-n.ensures ∙ sym (id_of (members_in c.args.t.now) c.args.k) in
    let stands : Stands c.args.t.now c.args.k c.word_at-n.result = record { within = c.requires.k_bound; has_id = sym is_n } in
    turned c.requires.good stands c.finish_pending.ensures c.until_done.ensures ∙ ap (λ x. written (after_turn x (table_of c.args.t.now)) c.args.t.now) is_n
