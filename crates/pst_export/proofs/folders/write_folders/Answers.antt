use Rattle.std.proofs.Common.{◌∙◌, [], ◌∷◌, ap}
use Rattle.pst_ndb.specs.NodeTable.{table_of_nodes}
use Rattle.pst_intact.specs.View.{folders_beside, intact_folders_left, intact_roots, table_of_intact}
use Rattle.pst_value_json.specs.Props.{names_told}
use Rattle.pst_export.specs.Store.{folder_file, folder_files}
use Rattle.pst_export.proofs.WriteLemmas.{added_end, added_next, added_none, added_refused}
use Rattle.pst_export.proofs.folders.write_folders.Goals as goal

pub loop-folder-init : goal.loop-folder-init
loop-folder-init g c =
    let i = c.args.intact.now in
    let e = ap intact_folders_left c.into_iter-folder-iterator.ensures.into_iter_gives ∙ c.folders-folder-items.ensures.left in
    record {
      same = ap (λ f. table_of_nodes (folders_beside f)) c.into_iter-folder-iterator.ensures.into_iter_gives ∙ c.folders-folder-items.ensures.table;
      known = c.requires;
      left = added_none _ _ _ _ (ap (folder_files (names_told c.args.names) (table_of_intact i)) e);
    }

pub loop-folder-preserved : goal.loop-folder-preserved
loop-folder-preserved g c =
    let i = c.loop-folder.invariant in
    let t = table_of_intact c.args.intact.now in
    let told = names_told c.args.names in
    let steps = c.in-Some.ensures.steps in
    let beside = ap table_of_nodes steps.2 ∙ i.same in
    let these = ap (folder_files told t) steps.0 in
    record {
      same = ap table_of_nodes steps.1 ∙ i.same;
      known = rw beside at c.in_ok-write_folder.ensures.known;
      left = added_next _ _ _ _ _ _ _ _ (folder_file told t (intact_roots c.in-Some.folder) ∷ []) _ these i.left (rw beside at c.in_ok-write_folder.ensures.all);
    }

pub returns-in_err-write_folder-clause-front : goal.returns-in_err-write_folder-clause-front
returns-in_err-write_folder-clause-front g c =
    let i = c.loop-folder.invariant in
    let t = table_of_intact c.args.intact.now in
    let told = names_told c.args.names in
    let steps = c.in-Some.ensures.steps in
    let beside = ap table_of_nodes steps.2 ∙ i.same in
    let these = ap (folder_files told t) steps.0 in
    added_refused _ _ _ _ _ _ _ (folder_file told t (intact_roots c.in-Some.folder) ∷ []) _ these i.left (rw beside at c.in_err-write_folder.ensures.front)

pub returns-clause-front : goal.returns-clause-front
returns-clause-front g c =
    let t = table_of_intact c.args.intact.now in
    let none = ap (folder_files (names_told c.args.names) t) c.in-None.ensures.steps.0.0 in
    added_end _ _ _ _ _ _ none c.loop-folder.invariant.left
