use Rattle.pst_ndb.specs.Views.{table_of_node, table_of_ndb, nodes_of, roots_of}
use Rattle.pst_msg.proofs.GrowLemmas.{folder_grows, table_grows}
use Rattle.pst_msg.proofs.folder.check_folder.Goals as goal

pub returns-in_err-once-clause-grows : goal.returns-in_err-once-clause-grows
returns-in_err-once-clause-grows c = folder_grows (table_of_ndb c.args.ndb.now) (table_of_node c.args.node) (nodes_of c.args.ndb.now) (roots_of c.args.node) c.args.known.now c.once.new.known c.requires.table c.once.ensures.grows

pub returns-in_err-check_table-clause-grows : goal.returns-in_err-check_table-clause-grows
returns-in_err-check_table-clause-grows c =
    let first = folder_grows (table_of_ndb c.args.ndb.now) (table_of_node c.args.node) (nodes_of c.args.ndb.now) (roots_of c.args.node) c.args.known.now c.once.new.known c.requires.table c.once.ensures.grows in
    table_grows _ _ _ _ _ _ _ c.top.ensures first c.check_table.ensures.grows

pub returns-in_err-check_table-2-clause-grows : goal.returns-in_err-check_table-2-clause-grows
returns-in_err-check_table-2-clause-grows c =
    let first = folder_grows (table_of_ndb c.args.ndb.now) (table_of_node c.args.node) (nodes_of c.args.ndb.now) (roots_of c.args.node) c.args.known.now c.once.new.known c.requires.table c.once.ensures.grows in
    table_grows _ _ _ _ _ _ _ c.top-2.ensures (table_grows _ _ _ _ _ _ _ c.top.ensures first c.check_table.ensures.grows) c.check_table-2.ensures.grows

pub returns-clause-grows : goal.returns-clause-grows
returns-clause-grows c =
    let first = folder_grows (table_of_ndb c.args.ndb.now) (table_of_node c.args.node) (nodes_of c.args.ndb.now) (roots_of c.args.node) c.args.known.now c.once.new.known c.requires.table c.once.ensures.grows in
    table_grows _ _ _ _ _ _ _ c.top-3.ensures (table_grows _ _ _ _ _ _ _ c.top-2.ensures (table_grows _ _ _ _ _ _ _ c.top.ensures first c.check_table.ensures.grows) c.check_table-2.ensures.grows) c.check_table-3.ensures.grows
