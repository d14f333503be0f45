use Rattle.std.proofs.Common.{◌≡◌, Some, refl, ◌∙◌}
use Rattle.pst_datatree.specs.Spans.{first_span}
use Rattle.pst_heap.specs.Values.{data_of_node}
use Rattle.pst_heap.proofs.HeapLemmas.{first_there}
use Rattle.pst_heap.proofs.heap.Heap.known.Goals as goal

pub unwrap-first-requires : goal.unwrap-first-requires
unwrap-first-requires c =
    let d = data_of_node c.args.node in
    let e : c.leaf.result ≡ Some (first_span d.spans) = c.leaf.ensures.value ∙ first_there d c.requires in
    rw e refl
