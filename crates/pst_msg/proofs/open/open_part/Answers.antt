use Rattle.std.proofs.Common.{refl, sym}
use Rattle.pst_ndb.specs.Views.{table_of_node, roots_of}
use Rattle.pst_msg.proofs.OpenLemmas.{attachment_refused, attachment_alone, opening_handed, opening_done, part_opening}
use Rattle.pst_msg.proofs.GrowLemmas.{attached_grow}
use Rattle.pst_msg.proofs.open.open_part.Goals as goal

pub returns-in_err-once : goal.returns-in_err-once
returns-in_err-once c =
    let first = attachment_refused (table_of_node c.args.node) c.args.limit (roots_of c.args.node) _ c.in_err-once.ensures.exact in
    record { opening = opening_handed _ _ c.from_residual.ensures.1 c.once.ensures.known (attached_grow _ _ _ _ c.once.ensures.grows) first }

pub returns-in-None : goal.returns-in-None
returns-in-None c = record {
  opening = opening_done c.once.ensures.known (attached_grow _ _ _ _ c.once.ensures.grows)
      (attachment_alone (table_of_node c.args.node) c.once.new.known (roots_of c.args.node) c.in_ok-once.ensures.there (rw (← c.lend.ensures.table, ← c.lend.ensures.roots, ← c.known_pc.ensures) (sym c.in-None.ensures)));
}

pub returns-in-Some : goal.returns-in-Some
returns-in-Some c = record {
  opening = part_opening (table_of_node c.args.node) _ c.once.new.known _ c.args.node c.args.limit c.in-Some.object _ refl c.in_ok-once.ensures.there
      (rw (← c.lend.ensures.table, ← c.lend.ensures.roots, ← c.known_pc.ensures) (sym c.in-Some.ensures)) (attached_grow _ _ _ _ c.once.ensures.grows) c.open_embedded.ensures.opening;
}
