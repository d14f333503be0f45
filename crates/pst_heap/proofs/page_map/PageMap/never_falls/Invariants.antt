use Rattle.std.proofs.Common.{◌≡◌, true}
use Rattle.pst_bytes.specs.Image.{bytes_of}
use Rattle.pst_heap.specs.PageMap.{offset_in, never_falls}
use Rattle.pst_heap.specs.View.{map_image, map_span}
use Rattle.pst_heap.proofs.page_map.PageMap.never_falls.Given as goal

abbrev pub invariant-loop-i : goal.invariant-loop-i
invariant-loop-i l = never_falls (offset_in (bytes_of (map_image l.self)) (map_span l.self)) l.i ≡ true
