use Rattle.std.proofs.Common.{List, [], ◌∷◌, codes}
use Rattle.std.specs.Prelude.{false}
use Rattle.pst_ndb.specs.Views.{table_of_node, roots_of}
use Rattle.pst_tar.specs.Archive.{Member}
use Rattle.pst_value_json.specs.pst_text.Line.{data_line}
use Rattle.pst_value_json.specs.Props.{names_told}
use Rattle.std.specs.Prelude.{None}
use Rattle.pst_value_json.specs.declared.filed.Filed.TheVariants.{Attachment}
use Rattle.pst_value_json.specs.declared.filed.TheConstants.{CONTENT}
use Rattle.pst_value_json.specs.Filed.{attachment_file}
use Rattle.pst_verify.specs.pst_msg.View.{attachment_shown, node_of_attachment}
use Rattle.pst_json.specs.Node.{attachment_data}
use Rattle.pst_export.specs.Files.{file_at, member_in, place_files}
use Rattle.pst_export.proofs.WriteLemmas.{adds_two, front_first, front_second, front_whole}
use Rattle.pst_export.proofs.held.write_attachment.Goals as goal

pub returns-in_err-write_document-clause-front : goal.returns-in_err-write_document-clause-front
unfolding place_files
returns-in_err-write_document-clause-front g c =
    let told = names_told c.args.names in
    let node = node_of_attachment c.args.attachment in
    let t = table_of_node node in
    let r = roots_of node in
    let doc : Member = member_in c.args.folder.now c.args.time (codes "props.json") (data_line (attachment_data told (Attachment None) false t (attachment_shown c.args.attachment))) in
    let files : List Member = file_at attachment_file t r c.args.folder.now c.args.time CONTENT in
    front_first _ _ _ (doc ∷ []) files (rw c.in_ok-line.ensures.line at c.in_err-write_document.ensures.front)

pub returns-in_err-write_content-clause-front : goal.returns-in_err-write_content-clause-front
unfolding place_files
returns-in_err-write_content-clause-front g c =
    let told = names_told c.args.names in
    let node = node_of_attachment c.args.attachment in
    let t = table_of_node node in
    let r = roots_of node in
    let doc : Member = member_in c.args.folder.now c.args.time (codes "props.json") (data_line (attachment_data told (Attachment None) false t (attachment_shown c.args.attachment))) in
    let files : List Member = file_at attachment_file t r c.args.folder.now c.args.time CONTENT in
    front_second _ _ _ _ _ (doc ∷ []) files (rw c.in_ok-line.ensures.line at c.in_ok-write_document.ensures.all) (rw c.attachment_pc-pc.ensures.table at (rw c.attachment_pc-pc.ensures.roots at c.in_err-write_content.ensures.front))

pub returns-clause-all : goal.returns-clause-all
unfolding place_files
returns-clause-all g c =
    let told = names_told c.args.names in
    let node = node_of_attachment c.args.attachment in
    let t = table_of_node node in
    let r = roots_of node in
    let doc : Member = member_in c.args.folder.now c.args.time (codes "props.json") (data_line (attachment_data told (Attachment None) false t (attachment_shown c.args.attachment))) in
    let files : List Member = file_at attachment_file t r c.args.folder.now c.args.time CONTENT in
    adds_two _ _ _ _ _ _ (doc ∷ []) files (rw c.in_ok-line.ensures.line at c.in_ok-write_document.ensures.all) (rw c.attachment_pc-pc.ensures.table at (rw c.attachment_pc-pc.ensures.roots at c.in_ok-write_content.ensures.all))

pub returns-clause-front : goal.returns-clause-front
unfolding place_files
returns-clause-front g c =
    let told = names_told c.args.names in
    let node = node_of_attachment c.args.attachment in
    let t = table_of_node node in
    let r = roots_of node in
    let doc : Member = member_in c.args.folder.now c.args.time (codes "props.json") (data_line (attachment_data told (Attachment None) false t (attachment_shown c.args.attachment))) in
    let files : List Member = file_at attachment_file t r c.args.folder.now c.args.time CONTENT in
    front_whole _ _ _ _ (doc ∷ files)
    (adds_two _ _ _ _ _ _ (doc ∷ []) files (rw c.in_ok-line.ensures.line at c.in_ok-write_document.ensures.all) (rw c.attachment_pc-pc.ensures.table at (rw c.attachment_pc-pc.ensures.roots at c.in_ok-write_content.ensures.all)))
