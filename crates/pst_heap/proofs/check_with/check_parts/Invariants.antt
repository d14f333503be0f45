use Rattle.std.proofs.Common.{◌≡◌, None}
use Rattle.pst_fault.specs.First.{first_below}
use Rattle.pst_datatree.specs.Parts.{part_in}
use Rattle.pst_ndb.specs.Views.{table_of_node, data_bid_of}
use Rattle.pst_heap.specs.PageMaps.{page_maps_fault, AreMapsTrue}
use Rattle.pst_heap.proofs.check_with.check_parts.Given as goal

abbrev pub invariant-loop-i : goal.invariant-loop-i
invariant-loop-i l = record {
  sound : first_below (λ j. page_maps_fault (table_of_node l.node) (part_in (table_of_node l.node) (data_bid_of l.node) j)) l.i ≡ None;
  known : AreMapsTrue (table_of_node l.node) l.maps;
}
