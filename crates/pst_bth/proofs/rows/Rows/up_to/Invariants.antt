use Rattle.std.proofs.Common.{◌<◌, ◌≤◌, ◌-◌}
use Rattle.pst_bytes.specs.Image.{bytes_of}
use Rattle.pst_bth.specs.Rows.{row_key, row_count, row_place}
use Rattle.pst_bth.specs.View.{rows_image, rows_item, rows_key_size, rows_size}
use Rattle.pst_bth.proofs.rows.Rows.up_to.Given as goal

abbrev pub invariant-loop-low : goal.invariant-loop-low
invariant-loop-low l = record {
  between : l.low ≤ l.high;
  within : l.high ≤ row_count (rows_size l.self) (rows_item l.self);
  before : 0 < l.low → row_key (bytes_of (rows_image l.self)) (rows_key_size l.self) (row_place (rows_size l.self) (rows_item l.self) (l.low - 1)) ≤ l.key;
  after : l.high < row_count (rows_size l.self) (rows_item l.self) → l.key < row_key (bytes_of (rows_image l.self)) (rows_key_size l.self) (row_place (rows_size l.self) (rows_item l.self) l.high);
}

abbrev pub decreases-loop-low : goal.decreases-loop-low
decreases-loop-low l = l.high - l.low
