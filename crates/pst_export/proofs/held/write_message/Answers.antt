use Rattle.std.proofs.Common.{List, [], ◌∷◌, codes}
use Rattle.std.specs.Prelude.{true, false}
use Rattle.pst_ndb.specs.Views.{table_of_node, nid_of, roots_of}
use Rattle.pst_tar.specs.Archive.{Member}
use Rattle.pst_value_json.specs.pst_text.Line.{data_line}
use Rattle.pst_value_json.specs.Props.{names_told}
use Rattle.pst_value_json.specs.declared.filed.TheConstants.{HEADERS, BODY, HTML, RTF}
use Rattle.pst_value_json.specs.Filed.{message_file}
use Rattle.pst_verify.specs.pst_msg.View.{node_of_message}
use Rattle.pst_json.specs.Node.{message_data}
use Rattle.pst_export.specs.Files.{files_at, member_in, place_files}
use Rattle.pst_export.proofs.WriteLemmas.{adds_two, front_first, front_second, front_whole}
use Rattle.pst_export.proofs.held.write_message.Goals as goal

pub returns-in_err-write_document-clause-front : goal.returns-in_err-write_document-clause-front
unfolding place_files
returns-in_err-write_document-clause-front g c =
    let told = names_told c.args.names in
    let node = node_of_message c.args.message in
    let t = table_of_node node in
    let r = roots_of node in
    let doc : Member = member_in c.args.folder.now c.args.time (codes "props.json") (data_line (message_data told true false t r (nid_of node))) in
    let files : List Member = files_at message_file t r c.args.folder.now c.args.time (HEADERS ∷ BODY ∷ HTML ∷ RTF ∷ []) in
    front_first _ _ _ (doc ∷ []) files (rw c.in_ok-line.ensures.line at c.in_err-write_document.ensures.front)

pub returns-in_err-write_bodies-clause-front : goal.returns-in_err-write_bodies-clause-front
unfolding place_files
returns-in_err-write_bodies-clause-front g c =
    let told = names_told c.args.names in
    let node = node_of_message c.args.message in
    let t = table_of_node node in
    let r = roots_of node in
    let doc : Member = member_in c.args.folder.now c.args.time (codes "props.json") (data_line (message_data told true false t r (nid_of node))) in
    let files : List Member = files_at message_file t r c.args.folder.now c.args.time (HEADERS ∷ BODY ∷ HTML ∷ RTF ∷ []) in
    front_second _ _ _ _ _ (doc ∷ []) files (rw c.in_ok-line.ensures.line at c.in_ok-write_document.ensures.all) (rw c.message_pc-pc.ensures.table at (rw c.message_pc-pc.ensures.roots at c.in_err-write_bodies.ensures.front))

pub returns-clause-all : goal.returns-clause-all
unfolding place_files
returns-clause-all g c =
    let told = names_told c.args.names in
    let node = node_of_message c.args.message in
    let t = table_of_node node in
    let r = roots_of node in
    let doc : Member = member_in c.args.folder.now c.args.time (codes "props.json") (data_line (message_data told true false t r (nid_of node))) in
    let files : List Member = files_at message_file t r c.args.folder.now c.args.time (HEADERS ∷ BODY ∷ HTML ∷ RTF ∷ []) in
    adds_two _ _ _ _ _ _ (doc ∷ []) files (rw c.in_ok-line.ensures.line at c.in_ok-write_document.ensures.all) (rw c.message_pc-pc.ensures.table at (rw c.message_pc-pc.ensures.roots at c.in_ok-write_bodies.ensures.all))

pub returns-clause-front : goal.returns-clause-front
unfolding place_files
returns-clause-front g c =
    let told = names_told c.args.names in
    let node = node_of_message c.args.message in
    let t = table_of_node node in
    let r = roots_of node in
    let doc : Member = member_in c.args.folder.now c.args.time (codes "props.json") (data_line (message_data told true false t r (nid_of node))) in
    let files : List Member = files_at message_file t r c.args.folder.now c.args.time (HEADERS ∷ BODY ∷ HTML ∷ RTF ∷ []) in
    front_whole _ _ _ _ (doc ∷ files)
    (adds_two _ _ _ _ _ _ (doc ∷ []) files (rw c.in_ok-line.ensures.line at c.in_ok-write_document.ensures.all) (rw c.message_pc-pc.ensures.table at (rw c.message_pc-pc.ensures.roots at c.in_ok-write_bodies.ensures.all)))
