use Rattle.pst_ndb.specs.Views.{table_of_node, roots_of}
use Rattle.pst_heap.specs.View.{node_of}
use Rattle.pst_value.specs.Met.{AsksMore}
use Rattle.pst_tc.proofs.AskLemmas.{HoldCells}
use Rattle.pst_tc.proofs.ask.ask_cells.Given as goal

abbrev pub invariant-loop-i : goal.invariant-loop-i
invariant-loop-i l = record {
  holds : HoldCells (table_of_node (node_of l.heap)) (roots_of (node_of l.heap)) l.asks l.info l.row.at l.i;
  more : AsksMore l.initial.asks l.asks;
}
