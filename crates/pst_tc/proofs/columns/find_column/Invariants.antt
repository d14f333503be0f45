use Rattle.std.proofs.Common.{◌≡◌, ◌-◌}
use Rattle.pst_bytes.specs.Image.{bytes_of}
use Rattle.pst_btree.specs.Entries.{first_with}
use Rattle.pst_tc.specs.Info.{column_count, columns_from, column_places, column_tag}
use Rattle.pst_tc.proofs.columns.find_column.Given as goal

abbrev pub invariant-loop-i : goal.invariant-loop-i
invariant-loop-i l =
    first_with (column_tag (bytes_of l.image)) l.tag (columns_from l.item l.i (column_count (bytes_of l.image) l.item - l.i))
    ≡ first_with (column_tag (bytes_of l.image)) l.tag (column_places (bytes_of l.image) l.item)
