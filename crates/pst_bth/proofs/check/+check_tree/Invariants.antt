use Rattle.std.proofs.Common.{◌≡◌, ◌-◌}
use Rattle.pst_heap.specs.View.{data_of}
use Rattle.pst_bth.specs.Rows.{rows_from}
use Rattle.pst_bth.specs.View.{rows_item}
use Rattle.pst_bth.specs.Rows.{branch_size}
use Rattle.pst_bth.specs.Fault.{bth_children_fault, bth_tree_fault}
use Rattle.pst_bth.proofs.check.+check_tree.Given as goal

abbrev pub decreases-check_tree : goal.decreases-check_tree
decreases-check_tree l = l.level

-- what is left of the items below is what is at fault in all
abbrev pub invariant-loop-i : goal.invariant-loop-i
invariant-loop-i l =
    bth_children_fault (data_of l.heap).image l.sizes.key (bth_tree_fault (data_of l.heap) l.sizes (l.level - 1)) l.high (rows_from (branch_size l.sizes) (rows_item l.rows) l.i)
    ≡ bth_tree_fault (data_of l.heap) l.sizes l.level l.named l.low l.high
