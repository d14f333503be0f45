use Rattle.std.proofs.Common.{◌≡◌, ◌-◌, arith}
use Rattle.pst_heap.specs.View.{data_of}
use Rattle.pst_bth.specs.Rows.{row_key, row_count, row_place, leaf_size}
use Rattle.pst_bth.specs.Find.{rows_from_key}
use Rattle.pst_bth.specs.View.{heap_of, sizes_in, rows_of}
use Rattle.pst_bth.proofs.CountLemmas.{leaf_last, leaf_past, leaf_length}
use Rattle.pst_bth.proofs.records.Records.pass_leaf.Goals as goal

pub overflow_add-result : goal.overflow_add-result
overflow_add-result c =
    let r = c.args.self.now in
    let z = sizes_in r.bth in
    let I = (data_of (heap_of r.bth)).image in
    let rest = rows_from_key I z.key r.low (rows_of r.bth) in
    let count : c.count-count.result ≡ row_count (leaf_size z) r.leaf.item = rw r.size at c.count-count.ensures in
    let last : c.key-last.result ≡ row_key I z.key (row_place (leaf_size z) r.leaf.item (row_count (leaf_size z) r.leaf.item - 1)) = rw (r.image, r.key, r.size, count) at c.key-last.ensures.value in
    let most = leaf_last I z r.leaf.item r.next rest c.args.before (rw r.size at c.requires.there) c.requires.rises in
    let small = c.key-last.ensures.small in
    omega (arith, count, last, most, small)

pub returns-clause-count : goal.returns-clause-count
returns-clause-count c =
    let r = c.args.self.now in
    let z = sizes_in r.bth in
    let I = (data_of (heap_of r.bth)).image in
    let rest = rows_from_key I z.key r.low (rows_of r.bth) in
    let count : c.count-count.result ≡ row_count (leaf_size z) r.leaf.item = rw r.size at c.count-count.ensures in
    rw count (leaf_length I z r.leaf.item r.next rest c.args.before)

pub returns-clause-rises : goal.returns-clause-rises
returns-clause-rises c =
    let r = c.args.self.now in
    let z = sizes_in r.bth in
    let I = (data_of (heap_of r.bth)).image in
    let rest = rows_from_key I z.key r.low (rows_of r.bth) in
    let count : c.count-count.result ≡ row_count (leaf_size z) r.leaf.item = rw r.size at c.count-count.ensures in
    rw count (leaf_past I z r.leaf.item r.next rest c.args.before c.requires.rises)
