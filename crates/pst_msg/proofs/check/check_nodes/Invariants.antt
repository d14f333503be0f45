use Rattle.std.proofs.Common.{◌≡◌, ◌⊎◌}
use Rattle.std.specs.List.{Contains}
use Rattle.pst_ndb.specs.Roots.{Roots, all_roots}
use Rattle.pst_msg.specs.Growth.{NodeIn, Grows}
use Rattle.pst_ndb.specs.Views.{table_of_ndb, nodes_of, table_left, roots_left}
use Rattle.pst_fault.specs.Each.{first_of}
use Rattle.pst_msg.specs.Known.{ListingsAreTrue, IsTrueOf}
use Rattle.pst_mail.specs.Fault.{typed_node_fault}
use Rattle.pst_msg.proofs.check.check_nodes.Given as goal

-- the first fault of the nodes that are left is that of all, and they are of the same blocks
abbrev pub invariant-loop-node : goal.invariant-loop-node
invariant-loop-node l = record {
  first : let part = typed_node_fault (table_of_ndb l.ndb) (nodes_of l.ndb) in first_of part (roots_left l.node-iterator) ≡ first_of part (all_roots (nodes_of l.ndb));
  known : IsTrueOf (table_of_ndb l.ndb) l.known;
  listings : ListingsAreTrue (table_of_ndb l.ndb) (nodes_of l.ndb) l.listings;
  grows : Grows (table_of_ndb l.ndb) (λ nodes. nodes ≡ nodes_of l.ndb) l.fn.known l.known;
  within : (r : Roots) → Contains (roots_left l.node-iterator) r → Contains (all_roots (nodes_of l.ndb)) r;
  there : (r : Roots) → Contains (all_roots (nodes_of l.ndb)) r → NodeIn (nodes_of l.ndb) l.known r ⊎ Contains (roots_left l.node-iterator) r;
  table : table_left l.node-iterator ≡ table_of_ndb l.ndb;
}
