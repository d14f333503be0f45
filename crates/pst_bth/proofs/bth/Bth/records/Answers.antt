use Rattle.std.proofs.Common.{map, ap}
use Rattle.pst_heap.specs.View.{data_of}
use Rattle.pst_bth.specs.Rows.{leaf_size}
use Rattle.pst_bth.specs.Values.{record_at}
use Rattle.pst_bth.specs.View.{heap_of, sizes_in, rows_of}
use Rattle.pst_bth.proofs.LeftLemmas.{records_start}
use Rattle.pst_bth.proofs.bth.Bth.records.Goals as goal

pub returns-clause-records : goal.returns-clause-records
returns-clause-records c =
    let b = c.args.self.now in
    let I = (data_of (heap_of b)).image in
    rw c.leaf_rows.ensures.item (ap (map (record_at I (sizes_in b))) (records_start I (sizes_in b).key (leaf_size (sizes_in b)) (rows_of b)))
