use Rattle.pst_ndb.specs.Views.{table_of_node}
use Rattle.pst_msg.proofs.HeldLemmas.{one_held, same_held}
use Rattle.pst_msg.proofs.indexes.Indexes.turn.Goals as goal

pub returns-in_err-index-clause-index : goal.returns-in_err-index-clause-index
returns-in_err-index-clause-index c =
    let t = table_of_node c.args.node in
    c.give_way.ensures.index t (c.pays.ensures t c.requires)

pub returns-in_err-push-clause-index : goal.returns-in_err-push-clause-index
returns-in_err-push-clause-index c =
    let t = table_of_node c.args.node in
    same_held t c.give_way.new.self _ (c.give_way.ensures.index t (c.pays.ensures t c.requires)) c.in_err-push.ensures.items

pub returns-clause-index : goal.returns-clause-index
returns-clause-index c =
    let t = table_of_node c.args.node in
    one_held t c.give_way.new.self _ _ (c.give_way.ensures.index t (c.pays.ensures t c.requires)) (c.give_way.ensures.room t (c.pays.ensures t c.requires)) c.in_ok-index.ensures.index c.in_ok-push.ensures.items
