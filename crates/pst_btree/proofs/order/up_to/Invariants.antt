use Rattle.std.proofs.Common.{◌<◌, ◌≤◌, ◌-◌}
use Rattle.pst_bytes.specs.Image.{bytes_of}
use Rattle.pst_page.specs.Entry.{key_at}
use Rattle.pst_page.specs.Page.{entry_place}
use Rattle.pst_btree.proofs.order.up_to.Given as goal

abbrev pub invariant-loop-i : goal.invariant-loop-i
invariant-loop-i l =
    0 < l.i → key_at l.page.kind (bytes_of l.page.image) (entry_place (bytes_of l.page.image) l.page.bref.ib (l.i - 1)) ≤ l.key
