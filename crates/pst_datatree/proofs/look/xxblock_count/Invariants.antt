use Rattle.std.proofs.Common.{◌≡◌, ◌*◌, ◌≤◌, length}
use Rattle.pst_block.specs.Table.{body_of}
use Rattle.pst_block.specs.Blocks.{table_of}
use Rattle.pst_fault.specs.First.{join_below}
use Rattle.pst_datatree.specs.Data.{child_spans}
use Rattle.pst_datatree.proofs.look.xxblock_count.Given as goal

abbrev pub invariant-loop-i : goal.invariant-loop-i
invariant-loop-i l = record {
  counted : l.total ≡ length (join_below (child_spans (table_of l.blocks) (body_of (table_of l.blocks) l.entry)) l.i);
  small : l.total ≤ 65536 * l.i;
}
