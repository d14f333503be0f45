use Rattle.std.proofs.Common.{refl}
use Rattle.std.proofs.lemmas.Result.{err_from_is_err_and}
use Rattle.pst_ndb.specs.Views.{nodes_of}
use Rattle.pst_mail.specs.Fault.{listed_item_fault}
use Rattle.pst_fault.proofs.EachLemmas.{each_refused, each_next, each_done}
use Rattle.pst_msg.proofs.folder.check_items.Goals as goal

pub returns-in_err-check_item : goal.returns-in_err-check_item
returns-in_err-check_item c =
    let p = err_from_is_err_and c.from_residual.result c.from_residual.ensures.1 in
    record { exact = rw (p.1, p.2) (each_refused (listed_item_fault (nodes_of c.args.ndb.now) c.args.items c.args.bid) _ _ _ _ _ c.in-Some.ensures.steps.0 c.in_err-check_item.ensures.exact c.loop-row.invariant) }

pub loop-row-preserved : goal.loop-row-preserved
loop-row-preserved c = each_next (listed_item_fault (nodes_of c.args.ndb.now) c.args.items c.args.bid) _ _ _ _ c.in-Some.ensures.steps.0 c.in_ok-check_item.ensures.exact.0 c.loop-row.invariant

pub returns : goal.returns
returns c = record { exact = (each_done (listed_item_fault (nodes_of c.args.ndb.now) c.args.items c.args.bid) _ _ c.in-None.ensures.steps.0.0 c.loop-row.invariant, refl) }
