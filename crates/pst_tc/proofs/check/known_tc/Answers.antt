use Rattle.pst_ndb.specs.Views.{table_of_node, roots_of}
use Rattle.pst_tc.proofs.TcLemmas.{has_heap}
use Rattle.pst_tc.proofs.check.known_tc.Goals as goal

pub known_heap-requires : goal.known_heap-requires
known_heap-requires c = has_heap (table_of_node c.args.node) (roots_of c.args.node) c.requires
