use Rattle.std.proofs.Common.{◌≡◌, ◌++◌, ℕ, map}
use Rattle.std.specs.Prelude.{None}
use Rattle.std.specs.List.{list_any}
use Rattle.pst_btree.specs.Order.{Rises}
use Rattle.pst_ndb.specs.Views.{table_of_node, roots_of}
use Rattle.pst_value_json.specs.pst_tc.Left.{tc_left, tc_rows_left}
use Rattle.pst_value_json.specs.pst_tc.Tc.{node_of_tc}
use Rattle.pst_value_json.specs.pst_tc.Values.{row_id_of, tc_rows}
use Rattle.pst_json.specs.Listings.{folders_listing, if_listed}
use Rattle.pst_json.specs.Messages.{names}
use Rattle.pst_json.proofs.listings.Listings.note_rows.Given as goal

-- what is noted, with what the rows that are left name, is all
abbrev pub invariant-loop-row : goal.invariant-loop-row
invariant-loop-row l = record {
  same : tc_left l.row-iterator ≡ l.fn.table;
  rise : (low : ℕ) × Rises low None (map row_id_of (tc_rows_left l.row-iterator));
  noted : (nid : ℕ) → folders_listing l.self nid ++ if_listed (list_any (names nid) (tc_rows_left l.row-iterator)) l.folder
      ≡ folders_listing l.initial.self nid ++ if_listed (list_any (names nid) (tc_rows (table_of_node (node_of_tc l.fn.table)) (roots_of (node_of_tc l.fn.table)))) l.folder;
}
