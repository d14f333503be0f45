use Rattle.std.proofs.Common.{◌≡◌, ℕ, List, ◌++◌, map, ap}
use Rattle.pst_heap.specs.View.{data_of}
use Rattle.pst_bth.specs.Rows.{row_place, leaf_size}
use Rattle.pst_bth.specs.Values.{record_at}
use Rattle.pst_bth.specs.Find.{rows_from_key}
use Rattle.pst_bth.specs.View.{heap_of, sizes_in, rows_of}
use Rattle.pst_bth.proofs.RowLemmas.{rows_next}
use Rattle.pst_bth.proofs.records.Records.step.Goals as goal

pub returns-clause-first : goal.returns-clause-first
returns-clause-first c =
    let r = c.args.self.now in
    let I = (data_of (heap_of r.bth)).image in
    let z = sizes_in r.bth in
    let first : c.record-record.result ≡ record_at I z (row_place (leaf_size z) r.leaf.item r.next) = rw r.size at c.record-record.ensures.value in
    rw first (ap (λ (xs : List ℕ). map (record_at I z) (xs ++ rows_from_key I z.key r.low (rows_of r.bth))) (rows_next (leaf_size z) r.leaf.item r.next (rw r.size at c.requires)))
