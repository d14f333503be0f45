use Rattle.std.proofs.Common.{refl}
use Rattle.pst_ndb.specs.Views.{table_of_node, roots_of}
use Rattle.pst_msg.specs.Frames.{IsHolder}
use Rattle.pst_msg.proofs.CountLemmas.{grows_then}
use Rattle.pst_msg.proofs.OpenLemmas.{whole_held}
use Rattle.pst_msg.proofs.FrameLemmas.{held_done, held_in, holder_whole_now}
use Rattle.pst_msg.proofs.message.finish.Goals as goal

pub remember_held-requires-clause-none : goal.remember_held-requires-clause-none
remember_held-requires-clause-none c =
    let f = c.args.frame.now in
    whole_held (table_of_node f.node) f.limit f.node refl c.requires.frame.sound (held_done (table_of_node f.node) c.args.known.now f c.requires.frame c.requires.done)

pub remember_held-requires-clause-inside : goal.remember_held-requires-clause-inside
remember_held-requires-clause-inside c = held_in (table_of_node c.args.frame.now.node) c.args.known.now c.args.frame.now c.requires.frame c.requires.done

pub remember_attachment-requires-clause-none : goal.remember_attachment-requires-clause-none
remember_attachment-requires-clause-none c =
    let t = table_of_node c.args.frame.now.node in
    let r = roots_of c.args.frame.now.node in
    let is : IsHolder t c.args.known.now r c.in-Some.attachment = rw c.in-Some.is at c.requires.holder in
    holder_whole_now t (λ nodes. Unit {0}) c.args.known.now c.remember_held.new.known r c.in-Some.attachment is c.remember_held.ensures.grows c.remember_held.ensures.known c.in_ok-remember_held.ensures.there

pub returns-in-Some-clause-grows : goal.returns-in-Some-clause-grows
returns-in-Some-clause-grows c =
    let t = table_of_node c.args.frame.now.node in
    let r = roots_of c.args.frame.now.node in
    let is : IsHolder t c.args.known.now r c.in-Some.attachment = rw c.in-Some.is at c.requires.holder in
    grows_then t (λ nodes. Unit {0}) _ _ _ c.remember_held.ensures.grows (rw is.table at c.remember_attachment.ensures.grows)
