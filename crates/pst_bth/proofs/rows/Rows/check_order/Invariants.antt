use Rattle.std.proofs.Common.{◌≡◌}
use Rattle.pst_bytes.specs.Image.{bytes_of}
use Rattle.pst_bth.specs.Rows.{rows_at, rows_from}
use Rattle.pst_bth.specs.Fault.{bth_order_fault}
use Rattle.pst_bth.specs.View.{rows_image, rows_item, rows_key_size, rows_size}
use Rattle.pst_bth.proofs.rows.Rows.check_order.Given as goal

abbrev pub invariant-loop-i : goal.invariant-loop-i
invariant-loop-i l =
    bth_order_fault (bytes_of (rows_image l.self)) (rows_key_size l.self) l.least l.high (rows_from (rows_size l.self) (rows_item l.self) l.i)
    ≡ bth_order_fault (bytes_of (rows_image l.self)) (rows_key_size l.self) l.low l.high (rows_at (rows_size l.self) (rows_item l.self))
