use Rattle.std.proofs.Common.{sym, arith}
use Rattle.pst_bytes.specs.Image.{bytes_of}
use Rattle.pst_heap.specs.PageMap.{item_count, offset_in}
use Rattle.pst_heap.specs.View.{map_image, map_span}
use Rattle.pst_heap.proofs.MapLemmas.{falls_at}
use Rattle.pst_heap.proofs.page_map.PageMap.never_falls.Goals as goal

pub returns-then-offset : goal.returns-then-offset
returns-then-offset c =
    let m = c.args.self in
    let I = bytes_of (map_image m) in
    sym (falls_at (offset_in I (map_span m)) (item_count I (map_span m)) c.loop-i.i (omega (arith, m.count_is)) (omega (arith, c.offset.ensures, c.offset-in-loop-i.ensures)))
