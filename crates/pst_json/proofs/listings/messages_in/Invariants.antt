use Rattle.std.proofs.Common.{◌≡◌, ◌++◌, map}
use Rattle.std.specs.List.{filter}
use Rattle.pst_ndb.specs.Views.{table_of_node, roots_of}
use Rattle.pst_value_json.specs.pst_tc.Left.{tc_left, tc_rows_left}
use Rattle.pst_value_json.specs.pst_tc.Tc.{node_of_tc}
use Rattle.pst_value_json.specs.pst_tc.Values.{row_id_of}
use Rattle.pst_intact.specs.View.{nodes_of_intact}
use Rattle.pst_json.specs.Listings.{has_message}
use Rattle.pst_json.specs.RowIds.{ids_asked}
use Rattle.pst_json.proofs.listings.messages_in.Given as goal

-- those that were met, with those of the rows that are left, are all
abbrev pub invariant-loop-row : goal.invariant-loop-row
invariant-loop-row l = let asked = has_message (nodes_of_intact l.intact) in let node = node_of_tc l.fn.table in record {
  same : tc_left l.row-iterator ≡ l.fn.table;
  all : l.messages.items ++ filter asked (map row_id_of (tc_rows_left l.row-iterator)) ≡ ids_asked asked (table_of_node node) (roots_of node);
}
