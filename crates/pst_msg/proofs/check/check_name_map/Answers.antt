use Rattle.pst_ndb.specs.Views.{table_of_node, table_of_ndb, nodes_of}
use Rattle.pst_names.specs.declared.name_map.TheConstants.{NAME_MAP}
use Rattle.pst_msg.proofs.GrowLemmas.{required_grows}
use Rattle.pst_msg.proofs.check.check_name_map.Goals as goal

pub returns-in-Some-clause-grows : goal.returns-in-Some-clause-grows
returns-in-Some-clause-grows c = required_grows (table_of_ndb c.args.ndb.now) (table_of_node c.in-Some.node) (nodes_of c.args.ndb.now) NAME_MAP c.in-Some.node c.args.known.now c.check_map.new.known c.in-Some.ensures.table c.in-Some.ensures.roots c.check_map.ensures.grows
