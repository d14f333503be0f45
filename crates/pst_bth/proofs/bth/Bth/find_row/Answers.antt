use Rattle.std.proofs.Common.{◌≡◌, sym}
use Rattle.pst_heap.specs.View.{data_of}
use Rattle.pst_bth.specs.Values.{root_in}
use Rattle.pst_bth.specs.View.{heap_of, sizes_in}
use Rattle.pst_bth.proofs.BthLemmas.{nothing_found}
use Rattle.pst_bth.proofs.bth.Bth.find_row.Goals as goal

pub returns-then-number32-eq0-clause-value : goal.returns-then-number32-eq0-clause-value
returns-then-number32-eq0-clause-value c =
    let b = c.args.self.now in
    let root : root_in (data_of (heap_of b)).image b.head ≡ 0 = cc (c.number32.ensures, c.image-image.ensures.bytes, c.if-number32-eq0.true) in
    sym (nothing_found (data_of (heap_of b)) (sizes_in b) b.head c.args.key root)
