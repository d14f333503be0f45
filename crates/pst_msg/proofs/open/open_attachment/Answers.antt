use Rattle.std.proofs.Common.{refl, inl}
use Rattle.pst_ndb.specs.Views.{table_of_node}
use Rattle.pst_msg.proofs.OpenLemmas.{grown, attachment_known, opening_handed, opening_done}
use Rattle.pst_msg.proofs.open.open_attachment.Goals as goal

pub remember_attachment-requires-clause-none : goal.remember_attachment-requires-clause-none
remember_attachment-requires-clause-none c = attachment_known (table_of_node c.args.node) c.open_part.new.known c.args.node refl c.open_part.ensures.opening.known (rw c.in_default.is at c.in_ok-frame.ensures.opening.done)

pub returns-in_err-remember_attachment : goal.returns-in_err-remember_attachment
returns-in_err-remember_attachment c = record { opening = opening_handed _ _ c.from_residual-in_err-remember_attachment.ensures.1 c.remember_attachment.ensures.known (grown _ _ _ _ _ c.open_part.ensures.opening.grows c.remember_attachment.ensures.grows) (inl c.in_err-remember_attachment.ensures.memory) }

pub returns : goal.returns
returns c = record { opening = opening_done c.remember_attachment.ensures.known (grown _ _ _ _ _ c.open_part.ensures.opening.grows c.remember_attachment.ensures.grows) c.in_ok-remember_attachment.ensures.there }
