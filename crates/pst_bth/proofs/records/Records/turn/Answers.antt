use Rattle.std.proofs.Common.{◌≡◌, ◌≤◌, ℕ, ◌-◌, List, [], ◌++◌, ap, refl, sym, ◌∙◌}
use Rattle.pst_heap.specs.View.{data_of}
use Rattle.pst_bth.specs.Rows.{row_key, row_count, row_place, rows_from}
use Rattle.pst_bth.specs.Rows.{leaf_size}
use Rattle.pst_bth.specs.Find.{rows_from_key}
use Rattle.pst_bth.specs.View.{heap_of, sizes_in, rows_of}
use Rattle.pst_bth.proofs.RowLemmas.{rows_end}
use Rattle.pst_bth.proofs.LeftLemmas.{records_leaf}
use Rattle.pst_bth.proofs.records.Records.turn.Goals as goal

pub returns-in_default : goal.returns-in_default
returns-in_default c =
    let r = c.args.self.now in
    let z = sizes_in r.bth in
    let I = (data_of (heap_of r.bth)).image in
    let gone : row_count (leaf_size z) r.leaf.item ≤ r.next = rw r.size at c.requires in
    let none = ap (λ (xs : List ℕ). xs ++ rows_from_key I z.key r.low (rows_of r.bth)) (rows_end (leaf_size z) r.leaf.item r.next gone) ∙ c.in_default.ensures.found in
    (refl, none, none)

pub returns : goal.returns
returns c =
    let r = c.args.self.now in
    let z = sizes_in r.bth in
    let h = data_of (heap_of r.bth) in
    let leaf = c.in-Some.leaf in
    let many : c.count.result ≡ row_count (leaf_size z) leaf.item = cc (c.count.ensures, c.leaf_rows-rows.ensures.size, c.leaf_rows-rows.ensures.item) in
    let last : c.key.result ≡ row_key h.image z.key (row_place (leaf_size z) leaf.item (row_count (leaf_size z) leaf.item - 1)) =
    rw (c.leaf_rows-rows.ensures.image, c.leaf_rows-rows.ensures.key, c.leaf_rows-rows.ensures.item, c.leaf_rows-rows.ensures.size, many) at c.key.ensures.value in
    let gone : rows_from (leaf_size z) r.leaf.item r.next ≡ [] = rows_end (leaf_size z) r.leaf.item r.next (rw r.size at c.requires) in (
      refl,
      rw c.leaf_rows-rows.ensures.item (records_leaf h z r.bth.head r.low c.key.result leaf r.bth.sound c.in-Some.ensures.found last ∙ ap (λ (xs : List ℕ). xs ++ rows_from_key h.image z.key r.low (rows_of r.bth)) (sym gone)),
      rw (c.leaf_rows-rows.ensures.item, c.leaf_rows-rows.ensures.size) c.in-Some.ensures.found.begins.there,
    )
