use Rattle.std.proofs.Common.{◌≡◌, map, drop}
use Rattle.pst_tc.specs.View.{column_of}
use Rattle.pst_value_json.specs.Columns.{has_tag}
use Rattle.pst_value_json.proofs.cells.is_among.Given as goal

-- none of those before has the tag
abbrev pub invariant-loop-column : goal.invariant-loop-column
invariant-loop-column l = has_tag l.tag (map column_of (drop l.column-index l.columns)) ≡ has_tag l.tag (map column_of l.columns)
