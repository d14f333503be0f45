-- What a contract sees of the items of a heap: that heap, its node, and its data.
use Rattle.pst_ndb.specs.declared.node.Node.{Node}
use Rattle.pst_heap.specs.declared.heap.Heap.{Heap}
use Rattle.pst_heap.specs.declared.items.Items.{Items}
use Rattle.pst_heap.specs.Values.{HeapData}
use Rattle.pst_heap.specs.View.{node_of, data_of}

abbrev pub heap_of_items : Items → Heap
heap_of_items items = items.heap

abbrev pub node_of_items : Items → Node
node_of_items items = node_of (heap_of_items items)

abbrev pub data_of_items : Items → HeapData
data_of_items items = data_of (heap_of_items items)
