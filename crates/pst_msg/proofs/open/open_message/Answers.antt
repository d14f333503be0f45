use Rattle.std.proofs.Common.{sym, ◌∙◌, inl}
use Rattle.pst_ndb.specs.Views.{table_of_node, roots_of}
use Rattle.pst_msg.proofs.OpenLemmas.{grown, message_refused, message_held, opening_handed, opening_done, opening_after}
use Rattle.pst_msg.proofs.GrowLemmas.{properties_grow}
use Rattle.pst_msg.proofs.open.open_message.Goals as goal

pub returns-in_err-once : goal.returns-in_err-once
returns-in_err-once c =
    let first = message_refused (table_of_node c.args.node) c.args.limit (roots_of c.args.node) _ c.in_err-once.ensures.exact in
    record { opening = opening_handed _ _ c.from_residual.ensures.1 c.once.ensures.known (properties_grow _ _ _ _ c.once.ensures.grows) first }

pub remember_message-requires-clause-inside : goal.remember_message-requires-clause-inside
remember_message-requires-clause-inside c = c.once.ensures.known.lists_in (roots_of c.args.node) (rw (← c.key_of_list.ensures) (sym c.has-2.ensures ∙ c.if-has-2.true))

pub returns-in_err-remember_message : goal.returns-in_err-remember_message
returns-in_err-remember_message c = record { opening = opening_handed _ _ c.from_residual-in_err-remember_message.ensures.1 c.remember_message.ensures.known (grown _ _ _ _ _ (properties_grow _ _ _ _ c.once.ensures.grows) c.remember_message.ensures.grows) (inl c.in_err-remember_message.ensures.memory) }

pub returns-then-has-2 : goal.returns-then-has-2
returns-then-has-2 c = record { opening = opening_done c.remember_message.ensures.known (grown _ _ _ _ _ (properties_grow _ _ _ _ c.once.ensures.grows) c.remember_message.ensures.grows) c.in_ok-remember_message.ensures.there }

pub returns : goal.returns
returns c =
    let held = message_held (table_of_node c.args.node) c.args.limit (roots_of c.args.node) c.in_ok-once.ensures.exact.0 in
    record { opening = rw held (opening_after (properties_grow _ _ _ _ c.once.ensures.grows) c.open_list.ensures.opening) }
