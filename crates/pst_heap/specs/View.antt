-- What a contract sees of a heap, and of the page map of a span.
use Rattle.pst_bytes.specs.declared.Image.{Image}
use Rattle.pst_bytes.specs.declared.span.Span.{Span}
use Rattle.pst_ndb.specs.declared.node.Node.{Node}
use Rattle.pst_ndb.specs.Views.{image_of_node}
use Rattle.pst_heap.specs.declared.heap.Heap.{Heap}
use Rattle.pst_heap.specs.declared.page_map.PageMap.{PageMap}
use Rattle.pst_heap.specs.Values.{HeapData, data_of_node}

-- ---- a heap: the node whose data it is; the bytes of the file and the spans of the data; the file

abbrev pub node_of : Heap → Node
node_of heap = heap.node

abbrev pub data_of : Heap → HeapData
data_of heap = data_of_node (node_of heap)

abbrev pub file_of_heap : Heap → Image
file_of_heap heap = image_of_node (node_of heap)

-- ---- a page map: the file, and the span whose map it is

abbrev pub map_image : PageMap → Image
map_image m = m.image

abbrev pub map_span : PageMap → Span
map_span m = m.span
