use Rattle.pst_fault.specs.Fault.{at_node}
use Rattle.pst_ndb.specs.Views.{table_of_node, roots_of}
use Rattle.pst_remembered.specs.Broken.{context_part}
use Rattle.pst_remembered.proofs.DataFaultLemmas.{data_keep}
use Rattle.pst_remembered.proofs.FaultsLemmas.{context_keep}
use Rattle.pst_msg.proofs.context.check_anew.Goals as goal

pub returns-then-has_broken_data-clause-broken : goal.returns-then-has_broken_data-clause-broken
returns-then-has_broken_data-clause-broken c =
    let t = table_of_node c.args.node in
    c.keep.ensures.known at_node (context_part t) (data_keep t c.args.role c.part_of_data.result (roots_of c.args.node) c.check_by-answer.result c.part_of_data.ensures.data (rw (← c.role_number.ensures) c.part_of_data.ensures.number) c.check_by-answer.ensures.exact (c.has_broken_data.ensures c.if-has_broken_data.true)) c.requires.broken

pub returns-clause-broken : goal.returns-clause-broken
returns-clause-broken c =
    let t = table_of_node c.args.node in
    c.keep-2.ensures.known at_node (context_part t) (context_keep t c.args.role c.part_of.result (roots_of c.args.node) c.check_by-answer.result c.part_of.ensures.roots (rw (← c.role_number-2.ensures) c.part_of.ensures.number) c.check_by-answer.ensures.exact) c.requires.broken
