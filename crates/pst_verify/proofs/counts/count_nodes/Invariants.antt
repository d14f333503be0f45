use Rattle.std.proofs.Common.{◌≡◌, ◌+◌, ◌≤◌, None, length}
use Rattle.pst_btree.specs.Order.{Rises}
use Rattle.pst_ndb.specs.Roots.{all_roots}
use Rattle.pst_ndb.specs.Views.{nodes_of, roots_left}
use Rattle.pst_reach.specs.pst_store.pst_msg.Values.{is_folder, is_message}
use Rattle.pst_verify.specs.Counts.{count_of}
use Rattle.pst_verify.proofs.CountLemmas.{tops}
use Rattle.pst_verify.proofs.counts.count_nodes.Given as goal

-- those that are counted and those that are left are all; and no more are counted than the next identifier says
abbrev pub invariant-loop-node : goal.invariant-loop-node
invariant-loop-node l = record {
  nodes : l.nodes + length (roots_left l.rest) ≡ length (all_roots (nodes_of l.ndb));
  folders : l.folders + count_of is_folder (roots_left l.rest) ≡ count_of is_folder (all_roots (nodes_of l.ndb));
  messages : l.messages + count_of is_message (roots_left l.rest) ≡ count_of is_message (all_roots (nodes_of l.ndb));
  rise : Rises l.nodes None (tops (roots_left l.rest));
  few : l.folders ≤ l.nodes;
  some : l.messages ≤ l.nodes;
}

abbrev pub decreases-loop-node : goal.decreases-loop-node
decreases-loop-node l = length (roots_left l.rest)
