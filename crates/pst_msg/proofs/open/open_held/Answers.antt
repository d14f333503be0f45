use Rattle.std.proofs.Common.{◌≡◌, Some, refl, sym, ap, ◌∙◌, inl}
use Rattle.pst_block.specs.Table.{Table}
use Rattle.pst_ndb.specs.declared.node.Node.{Node}
use Rattle.pst_ndb.specs.Roots.{Roots, subnode_of}
use Rattle.pst_ndb.specs.Views.{table_of_node, roots_of}
use Rattle.pst_tc.specs.Values.{tc_rows}
use Rattle.pst_mail.specs.Fault.{below_message}
use Rattle.pst_mail.specs.declared.nid.TheConstants.{ATTACHMENTS}
use Rattle.pst_remembered.specs.declared.role.Role.TheVariants.{Attachments}
use Rattle.pst_msg.specs.declared.frame.Frame.{Frame}
use Rattle.pst_msg.specs.declared.known.KnownParts.{KnownParts}
use Rattle.pst_msg.specs.Counts.{HasMessage, Names}
use Rattle.pst_msg.specs.Growth.{Grows}
use Rattle.pst_msg.proofs.CountLemmas.{grows_then}
use Rattle.pst_msg.proofs.OpenLemmas.{grown, opened, held_without, whole_held, opening_refused, opening_handed, opening_done, opening_frame}
use Rattle.pst_msg.proofs.GrowLemmas.{attachments_grow}
use Rattle.pst_msg.proofs.open.open_held.Goals as goal

-- what is known, once the attachment table is
table_grown : (t u : Table) (r : Roots) (s : Node) (a b c : KnownParts) → u ≡ t → Some (roots_of s) ≡ subnode_of t r ATTACHMENTS → Grows t (λ nodes. HasMessage t nodes r) a b → Grows u (λ nodes. Names u nodes Attachments (roots_of s)) b c → Grows t (λ nodes. HasMessage t nodes r) a c
table_grown t u r s a b c same is g h = grows_then t _ a b c g (attachments_grow t u r s b c same is h)

pub returns-in-Err : goal.returns-in-Err
returns-in-Err c = record { opening = opening_refused c.refuse_held.ensures.known (grown _ _ _ _ _ c.check_recipients.ensures.grows c.refuse_held.ensures.grows) c.refuse_held.ensures.first }

pub returns-in-Err-once : goal.returns-in-Err-once
returns-in-Err-once c =
    let before = table_grown _ _ _ c.in-Some.table _ _ _ c.in-Some.ensures.table c.in-Some.ensures.roots c.check_recipients.ensures.grows c.once.ensures.grows in
    let refused = c.refuse_held-in-Err-once.ensures in
    record { opening = opening_refused refused.known (grown _ _ _ _ _ before refused.grows) refused.first }

pub returns-in_err-rest-in-Some : goal.returns-in_err-rest-in-Some
returns-in_err-rest-in-Some c =
    let same = c.in-Some.ensures.table in
    let before = table_grown _ _ _ c.in-Some.table _ _ _ same c.in-Some.ensures.roots c.check_recipients.ensures.grows c.once.ensures.grows in
    record { opening = opening_handed _ _ c.from_residual.ensures.1 (rw same at c.rows_of.ensures.known) (grown _ _ _ _ _ before (rw same at c.rows_of.ensures.grows)) (inl c.in_err-rest-in-Some.ensures.memory) }

pub returns-in_ok-rest-in-Some : goal.returns-in_ok-rest-in-Some
returns-in_ok-rest-in-Some c =
    let t = table_of_node c.args.node in
    let table = roots_of c.in-Some.table in
    let same = c.in-Some.ensures.table in
    let before = table_grown _ _ _ c.in-Some.table _ _ _ same c.in-Some.ensures.roots c.check_recipients.ensures.grows c.once.ensures.grows in
    let f : Frame = record { holder = c.args.holder; node = c.args.node; bid = c.bid_data.result; rest = c.in_ok-rest-in-Some.rest; limit = c.args.limit } in
    record {
      opening = opening_frame (rw same at c.rows_of.ensures.known) (grown _ _ _ _ _ before (rw same at c.rows_of.ensures.grows))
          (opened t c.rows_of.new.known f table refl c.requires.sound c.in_default.ensures.exact.0 (sym c.in-Some.ensures.roots)
          (rw (← same) c.in_default-once.ensures.exact.0)
          c.bid_data.ensures
          (c.in_ok-rest-in-Some.ensures.table ∙ same)
          (c.in_ok-rest-in-Some.ensures.left ∙ ap (λ u. tc_rows u table) same)
          (c.rows_of.ensures.grows.contexts _ (c.once.ensures.grows.contexts _ (c.check_recipients.ensures.grows.contexts _ c.requires.properties)))
          (λ s e. c.rows_of.ensures.grows.contexts _ (c.once.ensures.grows.contexts _ (c.in_default.ensures.there s e)))
          (c.rows_of.ensures.grows.contexts _ c.in_default-once.ensures.there));
    }

pub remember_held-requires-clause-none : goal.remember_held-requires-clause-none
remember_held-requires-clause-none c =
    let t = table_of_node c.args.node in
    whole_held t c.args.limit c.args.node refl c.requires.sound (held_without t (below_message t c.args.limit) (roots_of c.args.node) c.in_default.ensures.exact.0 c.in-None.ensures.roots)

pub returns-in_err-remember_held-in-None : goal.returns-in_err-remember_held-in-None
returns-in_err-remember_held-in-None c = record { opening = opening_handed _ _ c.from_residual-in_err-remember_held-in-None.ensures.1 c.remember_held.ensures.known (grown _ _ _ _ _ c.check_recipients.ensures.grows c.remember_held.ensures.grows) (inl c.in_err-remember_held-in-None.ensures.memory) }

pub returns-in_ok-remember_held-in-None : goal.returns-in_ok-remember_held-in-None
returns-in_ok-remember_held-in-None c = record { opening = opening_done c.remember_held.ensures.known (grown _ _ _ _ _ c.check_recipients.ensures.grows c.remember_held.ensures.grows) c.in_ok-remember_held-in-None.ensures.there }
