use Rattle.std.proofs.Common.{◌≡◌, ◌++◌, ℕ, true, map}
use Rattle.std.specs.List.{filter}
use Rattle.pst_ndb.specs.NodeTable.{table_of_nodes, entries_of_nodes}
use Rattle.pst_intact.specs.View.{table_of_intact, nodes_of_intact, intact_folders_left, folders_beside}
use Rattle.pst_ndb.specs.NodeIndexes.{AreNodeIndexes}
use Rattle.pst_json.specs.Listings.{folders_listing, has_message}
use Rattle.pst_json.specs.Messages.{listed_in, lists, top_of_roots}
use Rattle.pst_json.specs.RowIds.{AreRowIdsTrue}
use Rattle.pst_json.proofs.listings.listings_of.Given as goal

-- what is noted, with the folders that are left, is all
abbrev pub invariant-loop-folder : goal.invariant-loop-folder
invariant-loop-folder l = let t = table_of_intact l.intact in let all = nodes_of_intact l.intact in record {
  table : table_of_nodes (folders_beside l.folder-iterator) ≡ t;
  nodes : entries_of_nodes (folders_beside l.folder-iterator) ≡ all;
  index : AreNodeIndexes t l.index;
  rows : AreRowIdsTrue (has_message all) t l.rows;
  noted : (nid : ℕ) → has_message all nid ≡ true → folders_listing l.listings nid ++ map top_of_roots (filter (lists t all nid) (intact_folders_left l.folder-iterator))
      ≡ listed_in t all nid;
}
