use Rattle.std.proofs.Common.{◌≡◌, ◌≢◌, sym, ◌∙◌}
use Rattle.pst_heap.specs.View.{data_of}
use Rattle.pst_bth.specs.Rows.{leaf_size}
use Rattle.pst_bth.specs.Values.{tree_rows}
use Rattle.pst_bth.specs.Values.{root_in, root_place, levels_in}
use Rattle.pst_bth.specs.Leaf.{LeafFrom}
use Rattle.pst_bth.specs.View.{heap_of, sizes_in}
use Rattle.pst_bth.proofs.BthLemmas.{nothing_left, rows_some}
use Rattle.pst_bth.proofs.bth.Bth.leaf_from.Goals as goal

pub returns-then-number32-eq0-clause-found : goal.returns-then-number32-eq0-clause-found
returns-then-number32-eq0-clause-found c =
    let b = c.args.self.now in
    let root : root_in (data_of (heap_of b)).image b.head ≡ 0 = cc (c.number32.ensures, c.image-image.ensures.bytes, c.if-number32-eq0.true) in
    nothing_left (data_of (heap_of b)) (sizes_in b) b.head c.args.low root

pub returns-clause-found : goal.returns-clause-found
returns-clause-found c =
    let b = c.args.self.now in
    let h = data_of (heap_of b) in
    let z = sizes_in b in
    let same : root_in h.image b.head ≡ c.number32.result = cc (c.number32.ensures, c.image-image.ensures.bytes) in
    let root : root_in h.image b.head ≢ 0 = λ e. c.if-number32-eq0.false (sym same ∙ e) in
    let levels : c.number8-levels.result ≡ levels_in h.image b.head = cc (c.number8-levels.ensures, c.image-image.ensures.bytes) in
    let found : LeafFrom h.image z.key (leaf_size z) c.args.low (tree_rows h z (levels_in h.image b.head) (root_place b.head)) c.leaf_below.result = rw levels at c.leaf_below.ensures.found in
    rw (rows_some h z b.head root) found

pub returns-then-levels-eq0-clause-found : goal.returns-then-levels-eq0-clause-found
returns-then-levels-eq0-clause-found c =
    let b = c.args.self.now in
    let h = data_of (heap_of b) in
    let z = sizes_in b in
    let same : root_in h.image b.head ≡ c.number32.result = cc (c.number32.ensures, c.image-image.ensures.bytes) in
    let root : root_in h.image b.head ≢ 0 = λ e. c.if-number32-eq0.false (sym same ∙ e) in
    let levels : levels_in h.image b.head ≡ 0 = cc (c.number8-levels.ensures, c.image-image.ensures.bytes, c.if-levels-eq0.true) in
    let found : LeafFrom h.image z.key (leaf_size z) c.args.low (tree_rows h z (levels_in h.image b.head) (root_place b.head)) c.leaf_at.result = rw levels c.leaf_at.ensures.found in
    rw (rows_some h z b.head root) found
