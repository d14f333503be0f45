use Rattle.std.proofs.Common.{◌≡◌, None}
use Rattle.pst_bytes.specs.Image.{bytes_of}
use Rattle.pst_fault.specs.First.{join_below}
use Rattle.pst_btree.specs.Entries.{first_with}
use Rattle.pst_subnode.specs.Body.{sub_at}
use Rattle.pst_subnode.specs.List.{sub_nid}
use Rattle.pst_subnode.proofs.scan.scan_entries.Given as goal

abbrev pub invariant-loop-i : goal.invariant-loop-i
invariant-loop-i l = first_with sub_nid l.nid (join_below (sub_at (bytes_of l.body)) l.i) ≡ None
