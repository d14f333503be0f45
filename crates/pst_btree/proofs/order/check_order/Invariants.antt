use Rattle.std.proofs.Common.{◌≡◌}
use Rattle.pst_bytes.specs.Image.{bytes_of}
use Rattle.pst_page.specs.Page.{entries_at, entries_from}
use Rattle.pst_btree.specs.Order.{order_fault}
use Rattle.pst_btree.proofs.order.check_order.Given as goal

abbrev pub invariant-loop-i : goal.invariant-loop-i
invariant-loop-i l =
    order_fault l.page.kind (bytes_of l.page.image) l.page.bref.bid l.least l.high (entries_from (bytes_of l.page.image) l.page.bref.ib l.i)
    ≡ order_fault l.page.kind (bytes_of l.page.image) l.page.bref.bid l.low l.high (entries_at (bytes_of l.page.image) l.page.bref.ib)
