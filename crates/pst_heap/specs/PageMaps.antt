-- What is known of page maps: which data trees have good ones in all of their spans, and the first fault of those of others. Only
-- what is true is known, so what is passed over hides no fault.
use Rattle.std.specs.Prelude.{◌≡◌, ℕ, Bool, true, Option, Some, None, slice_get}
use Rattle.std.specs.Ordering.{nat_cmp}
use Rattle.std.specs.BTreeMap.{get}
use Rattle.std.specs.BTreeSet.{contains}
use Rattle.pst_fault.specs.declared.fault.Fault.{Fault}
use Rattle.pst_fault.specs.First.{◌then◌}
use Rattle.pst_fault.specs.Each.{first_of}
use Rattle.pst_datatree.specs.Data.{data_spans}
use Rattle.pst_ndb.specs.pst_block.Table.{Table}
use Rattle.pst_heap.specs.declared.check.TheConstants.{SPANS}
use Rattle.pst_heap.specs.declared.maps.PageMaps.{PageMaps}
use Rattle.pst_heap.specs.Values.{HeapData}
use Rattle.pst_heap.specs.Fault.{extra_fault, front_fault, page_map_fault}

-- of the page maps of a data tree's spans
abbrev pub page_maps_fault : Table → ℕ → Option Fault
page_maps_fault t bid = first_of (page_map_fault t.image) (data_spans t bid)

-- a block identifier is known, as it is written
unfoldable pub knows_maps : PageMaps → ℕ → Bool
knows_maps m bid = contains nat_cmp m.trees bid

-- the first fault of the page maps of a data tree, if it is remembered
unfoldable pub broken_of : PageMaps → ℕ → Option Fault
broken_of m bid = get nat_cmp m.broken bid

-- what is known is true
pub record AreMapsTrue (t : Table) (m : PageMaps) : Type 0 where
  pub holds : (bid : ℕ) → knows_maps m bid ≡ true → page_maps_fault t bid ≡ None
  pub broken : (bid : ℕ) (f : Fault) → broken_of m bid ≡ Some f → page_maps_fault t bid ≡ Some f

-- of a heap, before its page maps: how many spans it has, and the first one
abbrev pub start_fault : HeapData → Option Fault
start_fault h = extra_fault (slice_get h.spans SPANS) then front_fault h.image h.spans
