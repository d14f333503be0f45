use Rattle.std.proofs.Common.{◌≡◌, ◌*◌, ◌≤◌, None}
use Rattle.pst_block.specs.Table.{body_of}
use Rattle.pst_block.specs.Blocks.{table_of}
use Rattle.pst_fault.specs.First.{first_below, join_below}
use Rattle.pst_datatree.specs.Data.{size_of, leaf_spans, data_leaf_fault}
use Rattle.pst_datatree.proofs.lengths.leaves_len.Given as goal

abbrev pub invariant-loop-i : goal.invariant-loop-i
invariant-loop-i l = record {
  sound : first_below (data_leaf_fault (table_of l.blocks) l.holder) l.i ≡ None;
  counted : l.total ≡ size_of (join_below (leaf_spans (table_of l.blocks) (body_of (table_of l.blocks) l.holder)) l.i);
  small : l.total ≤ 65536 * l.i;
}
