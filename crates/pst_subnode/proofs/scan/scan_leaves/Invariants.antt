use Rattle.std.proofs.Common.{◌≡◌, None}
use Rattle.pst_bytes.specs.Image.{bytes_of}
use Rattle.pst_fault.specs.First.{join_below}
use Rattle.pst_btree.specs.Entries.{first_with}
use Rattle.pst_block.specs.Blocks.{table_of}
use Rattle.pst_subnode.specs.List.{sub_nid, leaf_subs}
use Rattle.pst_subnode.proofs.scan.scan_leaves.Given as goal

abbrev pub invariant-loop-i : goal.invariant-loop-i
invariant-loop-i l = first_with sub_nid l.nid (join_below (leaf_subs (table_of l.blocks) (bytes_of l.body)) l.i) ≡ None
