use Rattle.std.proofs.Common.{◌≡◌, true, map}
use Rattle.pst_bytes.specs.Image.{bytes_of}
use Rattle.pst_fault.specs.First.{join_below}
use Rattle.pst_block.specs.Blocks.{table_of}
use Rattle.pst_subnode.specs.List.{sub_nid, leaf_subs}
use Rattle.pst_subnode.specs.Ranges.{rise_within, AreRangesTrue}
use Rattle.pst_subnode.proofs.rise.leaves_rise.Given as goal

abbrev pub invariant-loop-i : goal.invariant-loop-i
invariant-loop-i l = record {
  rise : rise_within 0 l.end (map sub_nid (join_below (leaf_subs (table_of l.blocks) (bytes_of l.body)) l.i)) ≡ true;
  known : AreRangesTrue (table_of l.blocks) l.ranges;
}
