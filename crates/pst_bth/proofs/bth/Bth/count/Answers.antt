use Rattle.std.proofs.Common.{arith}
use Rattle.pst_heap.specs.View.{data_of}
use Rattle.pst_bth.specs.View.{heap_of, sizes_in}
use Rattle.pst_bth.proofs.CountLemmas.{records_rise}
use Rattle.pst_bth.proofs.bth.Bth.count.Goals as goal

pub loop-rest-init : goal.loop-rest-init
loop-rest-init c =
    let b = c.args.self.now in
    record {
      same = c.records-rest.ensures.bth;
      rises = rw c.records-rest.ensures.records (records_rise (data_of (heap_of b)) (sizes_in b) b.head b.sound);
      counted = rw c.records-rest.ensures.records (omega arith);
    }
