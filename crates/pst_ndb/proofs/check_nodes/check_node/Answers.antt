use Rattle.std.proofs.lemmas.Result.{IfOk-weaker}
use Rattle.pst_block.specs.Blocks.{table_of}
use Rattle.pst_subnode.proofs.AddLemmas.{adds_first, adds_both, both_known}
use Rattle.pst_ndb.specs.Known.{entry_of_node}
use Rattle.pst_ndb.proofs.check_nodes.check_node.Goals as goal

pub returns-in_err-check_data-clause-adds : goal.returns-in_err-check_data-clause-adds
returns-in_err-check_data-clause-adds c =
    adds_first (table_of c.args.blocks.now) (entry_of_node c.args.entry) c.args.known.now.seen c.check_data.new.seen c.args.known.now.heights c.in_err-check_data.ensures.adds

pub returns-clause-adds : goal.returns-clause-adds
returns-clause-adds c =
    adds_both (table_of c.args.blocks.now) (entry_of_node c.args.entry) c.args.known.now.seen c.args.known.now.heights c.check_data.new.seen c.check_subs.new.known.seen c.check_subs.new.known.heights c.in_ok-check_data.ensures.adds c.check_subs.ensures.adds

pub returns-clause-there : goal.returns-clause-there
returns-clause-there c =
    IfOk-weaker c.check_subs.result _ _ (λ x list. both_known (table_of c.args.blocks.now) (entry_of_node c.args.entry) _ c.check_data.new.seen c.args.known.now.heights c.check_subs.new.known.seen c.check_subs.new.known.heights c.in_ok-check_data.ensures.there c.check_subs.ensures.adds list) c.check_subs.ensures.there
