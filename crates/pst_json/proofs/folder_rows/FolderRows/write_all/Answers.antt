use Rattle.std.proofs.Common.{[], ◌∷◌, ◌++◌, refl, sym, ap, subst, ◌∙◌, append_assoc, append-nil}
use Rattle.std.specs.Prelude.{OnOk}
use Rattle.serde_json.specs.Data.{Data, array}
use Rattle.serde_json.specs.View.{items_of}
use Rattle.pst_intact.specs.View.{table_of_intact, nodes_of_intact, intact_roots}
use Rattle.pst_json.specs.Folders.{folder_data}
use Rattle.pst_json.specs.FolderRows.{intact_of, lost_of_rows, reached_of}
use Rattle.pst_json.proofs.RowsLemmas.{rows_more, rows_none}
use Rattle.pst_json.proofs.folder_rows.FolderRows.write_all.Goals as goal

pub loop-folder-init : goal.loop-folder-init
loop-folder-init g c = record { list = ([], c.in_ok-open_list.ensures.put, refl); kept = c.in_ok-open_list.ensures.kept }

pub loop-folder-preserved : goal.loop-folder-preserved
loop-folder-preserved g c =
    let l = c.loop-folder.invariant in
    let old = c.loop-folder.self in
    let now = c.next_folder.new.self in
    let d : Data = folder_data (table_of_intact (intact_of now)) (nodes_of_intact (intact_of now)) (lost_of_rows now) (reached_of now) (intact_roots c.in-Some.folder) in
    let more = rows_more old now (intact_roots c.in-Some.folder) c.next_folder.ensures.intact c.next_folder.ensures.lost c.next_folder.ensures.reached c.in-Some.ensures.takes in
    record {
      list = (
        l.list.0 ++ d ∷ [],
        c.in_ok-item.ensures.put _ _ l.list.0 d (c.in_ok-comma.ensures.put _ l.list.0 l.list.1) c.in_ok-write.ensures.put,
        append_assoc l.list.0 (d ∷ []) _ ∙ ap (λ ds. l.list.0 ++ d ∷ ds) c.in_ok-write.ensures.rows ∙ ap (λ ds. l.list.0 ++ ds) (sym more) ∙ l.list.2,
      );
      kept = λ base kept. c.in_ok-item.ensures.kept base (c.in_ok-write.ensures.kept base (c.in_ok-comma.ensures.kept base (l.kept base kept)));
    }

pub returns-clause-put : goal.returns-clause-put
returns-clause-put g c =
    let l = c.loop-folder.invariant in
    let none = rows_none c.loop-folder.self c.in_default.ensures.takes in
    subst (λ ds. OnOk c.close_list.result (g.P.Pen.Puts c.args.pen.now c.close_list.new.self (array (items_of ds))))
    (sym (append-nil l.list.0) ∙ ap (λ ds. l.list.0 ++ ds) (sym none) ∙ l.list.2) (c.close_list.ensures.put _ l.list.0 l.list.1)
