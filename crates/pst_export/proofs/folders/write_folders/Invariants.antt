use Rattle.std.proofs.Common.{◌≡◌}
use Rattle.pst_ndb.specs.Roots.{all_roots}
use Rattle.pst_ndb.specs.NodeTable.{table_of_nodes}
use Rattle.pst_intact.specs.View.{folders_beside, intact_folders_left, table_of_intact, nodes_of_intact}
use Rattle.pst_json.specs.DocumentIndexes.{AreDocumentIndexes}
use Rattle.pst_value_json.specs.Props.{names_told}
use Rattle.pst_verify.specs.pst_msg.Values.{is_folder}
use Rattle.pst_verify.specs.pst_store.Kind.{of_kind}
use Rattle.pst_export.specs.Store.{folder_files}
use Rattle.pst_export.proofs.WriteLemmas.{Added}
use Rattle.pst_export.proofs.folders.write_folders.Given as goal

-- a front of the files is written, and those of the folders that are left are to come
abbrev pub invariant-loop-folder : goal.invariant-loop-folder
invariant-loop-folder g l = let i = l.intact in let told = names_told l.fn.names in record {
  same : table_of_nodes (folders_beside l.folder-iterator) ≡ table_of_intact i;
  known : AreDocumentIndexes (table_of_intact i) l.indexes;
  left : Added (g.W.Write.contents l.initial.out) (g.W.Write.contents l.out) l.initial.number l.number
      (folder_files told (table_of_intact i) (of_kind is_folder (all_roots (nodes_of_intact i)))) (folder_files told (table_of_intact i) (intact_folders_left l.folder-iterator));
}
