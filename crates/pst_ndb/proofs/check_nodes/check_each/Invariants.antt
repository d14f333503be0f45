use Rattle.std.proofs.Common.{◌≡◌, map}
use Rattle.std.specs.List.{Contains}
use Rattle.pst_btree.specs.Trees.{node_entries}
use Rattle.pst_btree.specs.Nodes.{nodes_left}
use Rattle.pst_block.specs.Blocks.{table_of}
use Rattle.pst_subnode.specs.declared.sub.Sub.{Sub}
use Rattle.pst_subnode.specs.Known.{AreLedEach, AreKnownOr}
use Rattle.pst_ndb.specs.Fault.{nodes_fault}
use Rattle.pst_ndb.specs.Known.{IsKnownTrue, IsCounted, AddsKnown, entry_of_node}
use Rattle.pst_ndb.proofs.check_nodes.check_each.Given as goal

-- the first fault of the nodes that are left is that of all
abbrev pub invariant-loop-entry : goal.invariant-loop-entry
invariant-loop-entry l = record {
  first : nodes_fault (table_of l.blocks) (nodes_left l.entry-iterator) ≡ nodes_fault (table_of l.blocks) (node_entries l.tree);
  known : IsKnownTrue (table_of l.blocks) l.known;
  adds : AddsKnown (table_of l.blocks) (AreLedEach (table_of l.blocks) (map entry_of_node (node_entries l.tree))) l.initial.known l.known;
  there : AreKnownOr (table_of l.blocks) l.known.seen l.known.heights (map entry_of_node (node_entries l.tree)) (map entry_of_node (nodes_left l.entry-iterator));
  within : (sub : Sub) → Contains (map entry_of_node (nodes_left l.entry-iterator)) sub → Contains (map entry_of_node (node_entries l.tree)) sub;
  counts : IsCounted l.initial.known → IsCounted l.known;
}
