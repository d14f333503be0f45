use Rattle.std.proofs.Common.{◌≡◌, ◌≤◌, ◌-◌, []}
use Rattle.pst_heap.specs.View.{data_of}
use Rattle.pst_bth.specs.Rows.{row_count}
use Rattle.pst_bth.specs.Rows.{branch_size}
use Rattle.pst_bth.specs.Values.{rows_below, tree_rows}
use Rattle.pst_bth.specs.Find.{rows_from_key}
use Rattle.pst_bth.specs.View.{rows_item}
use Rattle.pst_bth.proofs.RowLemmas.{rows_before}
use Rattle.pst_bth.proofs.leaf.+leaf_below.Given as goal

abbrev pub decreases-leaf_below : goal.decreases-leaf_below
decreases-leaf_below l = l.level

-- the children so far have no record from the key on
abbrev pub invariant-loop-i : goal.invariant-loop-i
invariant-loop-i l = record {
  within : l.i ≤ row_count (branch_size l.sizes) (rows_item l.rows);
  skipped : rows_from_key (data_of l.heap).image l.sizes.key l.low (rows_below (tree_rows (data_of l.heap) l.sizes (l.level - 1)) l.sizes.key (rows_before (branch_size l.sizes) (rows_item l.rows) l.i)) ≡ [];
}
