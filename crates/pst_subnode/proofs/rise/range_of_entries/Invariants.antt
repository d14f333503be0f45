use Rattle.std.proofs.Common.{◌≡◌, true, map}
use Rattle.pst_bytes.specs.Image.{bytes_of}
use Rattle.pst_fault.specs.First.{join_below}
use Rattle.pst_subnode.specs.Body.{sub_at}
use Rattle.pst_subnode.specs.List.{sub_nid}
use Rattle.pst_subnode.specs.Ranges.{rise_within}
use Rattle.pst_subnode.proofs.rise.range_of_entries.Given as goal

abbrev pub invariant-loop-i : goal.invariant-loop-i
invariant-loop-i l = rise_within l.first l.end (map sub_nid (join_below (sub_at (bytes_of l.body)) l.i)) ≡ true
