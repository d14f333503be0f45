use Rattle.std.proofs.Common.{sym}
use Rattle.pst_fault.proofs.FirstLemmas.{answer_ok}
use Rattle.pst_datatree.specs.Spans.{first_span}
use Rattle.pst_heap.specs.Fault.{heap_fault}
use Rattle.pst_heap.specs.Values.{data_of_node}
use Rattle.pst_heap.proofs.HeapLaws.{none_heap}
use Rattle.pst_heap.proofs.check.check_heap.Goals as goal

pub with_first-requires-clause-sound : goal.with_first-requires-clause-sound
with_first-requires-clause-sound c = let d = data_of_node c.args.node in (answer_ok (heap_fault d) (first_span d.spans) c.in-Ok.first (sym c.in-Ok.ensures.exact)).0

pub with_first-requires-clause-same : goal.with_first-requires-clause-same
with_first-requires-clause-same c = let d = data_of_node c.args.node in sym (answer_ok (heap_fault d) (first_span d.spans) c.in-Ok.first (sym c.in-Ok.ensures.exact)).1

pub returns-in-Ok-clause-found : goal.returns-in-Ok-clause-found
returns-in-Ok-clause-found c = let d = data_of_node c.args.node in none_heap _ (answer_ok (heap_fault d) (first_span d.spans) c.in-Ok.first (sym c.in-Ok.ensures.exact)).0
