use Rattle.std.proofs.Common.{◌≡◌, ℕ, None}
use Rattle.pst_ndb.specs.Views.{table_of_node}
use Rattle.pst_ndb.specs.Views.{roots_of}
use Rattle.pst_heap.specs.Items.{heap_of_items, node_of_items}
use Rattle.pst_fault.specs.First.{first_below}
use Rattle.pst_tc.specs.Info.{column_place}
use Rattle.pst_tc.specs.Fault.{cell_fault}
use Rattle.pst_tc.proofs.check.check_cells.Given as goal

abbrev pub invariant-loop-i : goal.invariant-loop-i
invariant-loop-i l =
    let node = node_of_items l.initial.items in
    record {
      none : first_below (λ (k : ℕ). cell_fault (table_of_node node) (roots_of node) l.info l.row.at (column_place l.info k)) l.i ≡ None;
      heap : heap_of_items l.items ≡ heap_of_items l.initial.items;
    }
