use Rattle.pst_heap.specs.View.{data_of}
use Rattle.pst_heap.proofs.HeapLemmas.{first_long}
use Rattle.pst_heap.proofs.heap.Heap.first.Goals as goal

pub returns-clause-long : goal.returns-clause-long
returns-clause-long c =
    let h = c.args.self.now in
    rw h.first_is (first_long (data_of h) h.sound)
