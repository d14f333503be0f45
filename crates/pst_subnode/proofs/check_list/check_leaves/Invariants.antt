use Rattle.std.proofs.Common.{◌≡◌, None}
use Rattle.pst_fault.specs.First.{first_below}
use Rattle.pst_block.specs.Blocks.{table_of}
use Rattle.pst_subnode.specs.List.{list_leaf_fault}
use Rattle.pst_subnode.proofs.check_list.check_leaves.Given as goal

abbrev pub invariant-loop-i : goal.invariant-loop-i
invariant-loop-i l = first_below (list_leaf_fault (table_of l.blocks) l.holder) l.i ≡ None
