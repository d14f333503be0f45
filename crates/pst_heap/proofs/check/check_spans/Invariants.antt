use Rattle.std.proofs.Common.{◌≡◌, length}
use Rattle.pst_bytes.specs.Image.{bytes_of}
use Rattle.pst_fault.specs.Each.{first_of}
use Rattle.pst_datatree.specs.Left.{spans_left, file_of}
use Rattle.pst_heap.specs.Fault.{page_map_fault}
use Rattle.pst_heap.proofs.check.check_spans.Given as goal

abbrev pub invariant-loop-span : goal.invariant-loop-span
invariant-loop-span l = record {
  left : first_of (page_map_fault (bytes_of l.image)) (spans_left l.rest) ≡ first_of (page_map_fault (bytes_of l.image)) (spans_left l.fn.spans);
  file : file_of l.rest ≡ l.image;
}

abbrev pub decreases-loop-span : goal.decreases-loop-span
decreases-loop-span l = length (spans_left l.rest)
