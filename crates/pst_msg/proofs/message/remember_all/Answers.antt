use Rattle.std.proofs.Common.{sym}
use Rattle.pst_ndb.specs.Views.{table_of_node}
use Rattle.pst_msg.proofs.CountLemmas.{grows_then}
use Rattle.pst_msg.proofs.message.remember_all.Goals as goal

pub remember_broken-requires-in-loop-frame-clause-known : goal.remember_broken-requires-in-loop-frame-clause-known
remember_broken-requires-in-loop-frame-clause-known c =
    let table = (c.requires.stack c.frame-item.result (c.loop-frame.frame-index, c.loop-frame-test.true, sym c.frame-item.is)).0 in
    rw table c.loop-frame.invariant.known

pub returns-in_err-remember_broken-2-clause-known : goal.returns-in_err-remember_broken-2-clause-known
returns-in_err-remember_broken-2-clause-known c =
    let table = (c.requires.stack c.frame-item.result (c.loop-frame.frame-index, c.loop-frame-test.true, sym c.frame-item.is)).0 in
    rw table at c.remember_broken-in-loop-frame.ensures.known

pub returns-in_err-remember_broken-2-clause-grows : goal.returns-in_err-remember_broken-2-clause-grows
returns-in_err-remember_broken-2-clause-grows c =
    let table = (c.requires.stack c.frame-item.result (c.loop-frame.frame-index, c.loop-frame-test.true, sym c.frame-item.is)).0 in
    grows_then (table_of_node c.args.node) _ _ _ _ c.loop-frame.invariant.grows (rw table at c.remember_broken-in-loop-frame.ensures.grows)

pub loop-frame-preserved : goal.loop-frame-preserved
loop-frame-preserved c =
    let table = (c.requires.stack c.frame-item.result (c.loop-frame.frame-index, c.loop-frame-test.true, sym c.frame-item.is)).0 in
    record {
      known = rw table at c.remember_broken-in-loop-frame.ensures.known;
      grows = grows_then (table_of_node c.args.node) _ _ _ _ c.loop-frame.invariant.grows (rw table at c.remember_broken-in-loop-frame.ensures.grows);
    }
