use Rattle.std.proofs.Common.{◌≡◌, List, ◌++◌}
use Rattle.std.specs.Prelude.{codes}
use Rattle.pst_ndb.specs.Roots.{all_roots}
use Rattle.pst_intact.specs.View.{table_of_intact, nodes_of_intact}
use Rattle.pst_json.specs.pst_whole.View.{lost_in}
use Rattle.pst_tar.specs.Archive.{Member}
use Rattle.pst_value_json.specs.Props.{names_told}
use Rattle.pst_value_json.specs.pst_names.Name.{store_name}
use Rattle.pst_verify.specs.pst_msg.pst_mail.declared.nid.TheConstants.{MESSAGE, ASSOCIATED}
use Rattle.pst_verify.specs.pst_msg.Values.{is_folder}
use Rattle.pst_verify.specs.pst_store.Kind.{of_kind}
use Rattle.pst_export.specs.Store.{folder_files, front_files, messages_files, of_type}
use Rattle.pst_export.proofs.WriteLemmas.{adds_two, front_first, front_second, front_whole}
use Rattle.pst_export.proofs.emit.write_nodes.Goals as goal

pub returns-in_err-write_front-clause-front : goal.returns-in_err-write_front-clause-front
returns-in_err-write_front-clause-front g c =
    let e = c.args.export.now in
    let t = table_of_intact e.intact in
    let nodes = nodes_of_intact e.intact in
    let told = store_name t nodes in
    let same : names_told c.names_in-names.result ≡ told = c.names_in-names.ensures in
    let front : List Member = front_files t nodes (lost_in e.lost) in
    let folders : List Member = folder_files told t (of_kind is_folder (all_roots nodes)) in
    let messages : List Member = messages_files told t (codes "messages") (of_type MESSAGE nodes) in
    let associated : List Member = messages_files told t (codes "associated") (of_type ASSOCIATED nodes) in
    front_first _ _ _ ((front ++ folders) ++ messages) associated (front_first _ _ _ (front ++ folders) messages (front_first _ _ _ front folders c.in_err-write_front.ensures.front))

pub returns-in_err-write_folders-clause-front : goal.returns-in_err-write_folders-clause-front
returns-in_err-write_folders-clause-front g c =
    let e = c.args.export.now in
    let t = table_of_intact e.intact in
    let nodes = nodes_of_intact e.intact in
    let told = store_name t nodes in
    let same : names_told c.names_in-names.result ≡ told = c.names_in-names.ensures in
    let front : List Member = front_files t nodes (lost_in e.lost) in
    let folders : List Member = folder_files told t (of_kind is_folder (all_roots nodes)) in
    let messages : List Member = messages_files told t (codes "messages") (of_type MESSAGE nodes) in
    let associated : List Member = messages_files told t (codes "associated") (of_type ASSOCIATED nodes) in
    front_first _ _ _ ((front ++ folders) ++ messages) associated (front_first _ _ _ (front ++ folders) messages
    (front_second _ _ _ _ _ front folders c.in_ok-write_front.ensures.all (rw same at c.in_err-write_folders.ensures.front)))

pub returns-in_err-write_messages-clause-front : goal.returns-in_err-write_messages-clause-front
returns-in_err-write_messages-clause-front g c =
    let e = c.args.export.now in
    let t = table_of_intact e.intact in
    let nodes = nodes_of_intact e.intact in
    let told = store_name t nodes in
    let same : names_told c.names_in-names.result ≡ told = c.names_in-names.ensures in
    let front : List Member = front_files t nodes (lost_in e.lost) in
    let folders : List Member = folder_files told t (of_kind is_folder (all_roots nodes)) in
    let messages : List Member = messages_files told t (codes "messages") (of_type MESSAGE nodes) in
    let associated : List Member = messages_files told t (codes "associated") (of_type ASSOCIATED nodes) in
    front_first _ _ _ ((front ++ folders) ++ messages) associated
    (front_second _ _ _ _ _ (front ++ folders) messages (adds_two _ _ _ _ _ _ front folders c.in_ok-write_front.ensures.all (rw same at c.in_ok-write_folders.ensures.all)) (rw same at c.in_err-write_messages.ensures.front))

pub returns-in_err-write_messages-2-clause-front : goal.returns-in_err-write_messages-2-clause-front
returns-in_err-write_messages-2-clause-front g c =
    let e = c.args.export.now in
    let t = table_of_intact e.intact in
    let nodes = nodes_of_intact e.intact in
    let told = store_name t nodes in
    let same : names_told c.names_in-names.result ≡ told = c.names_in-names.ensures in
    let front : List Member = front_files t nodes (lost_in e.lost) in
    let folders : List Member = folder_files told t (of_kind is_folder (all_roots nodes)) in
    let messages : List Member = messages_files told t (codes "messages") (of_type MESSAGE nodes) in
    let associated : List Member = messages_files told t (codes "associated") (of_type ASSOCIATED nodes) in
    front_second _ _ _ _ _ ((front ++ folders) ++ messages) associated (adds_two _ _ _ _ _ _ (front ++ folders) messages (adds_two _ _ _ _ _ _ front folders c.in_ok-write_front.ensures.all (rw same at c.in_ok-write_folders.ensures.all)) (rw same at c.in_ok-write_messages.ensures.all)) (rw same at c.in_err-write_messages-2.ensures.front)

pub returns-clause-all : goal.returns-clause-all
returns-clause-all g c =
    let e = c.args.export.now in
    let t = table_of_intact e.intact in
    let nodes = nodes_of_intact e.intact in
    let told = store_name t nodes in
    let same : names_told c.names_in-names.result ≡ told = c.names_in-names.ensures in
    let front : List Member = front_files t nodes (lost_in e.lost) in
    let folders : List Member = folder_files told t (of_kind is_folder (all_roots nodes)) in
    let messages : List Member = messages_files told t (codes "messages") (of_type MESSAGE nodes) in
    let associated : List Member = messages_files told t (codes "associated") (of_type ASSOCIATED nodes) in
    adds_two _ _ _ _ _ _ ((front ++ folders) ++ messages) associated (adds_two _ _ _ _ _ _ (front ++ folders) messages (adds_two _ _ _ _ _ _ front folders c.in_ok-write_front.ensures.all (rw same at c.in_ok-write_folders.ensures.all)) (rw same at c.in_ok-write_messages.ensures.all)) (rw same at c.in_ok-write_messages-2.ensures.all)

pub returns-clause-front : goal.returns-clause-front
returns-clause-front g c =
    let e = c.args.export.now in
    let t = table_of_intact e.intact in
    let nodes = nodes_of_intact e.intact in
    let told = store_name t nodes in
    let same : names_told c.names_in-names.result ≡ told = c.names_in-names.ensures in
    let front : List Member = front_files t nodes (lost_in e.lost) in
    let folders : List Member = folder_files told t (of_kind is_folder (all_roots nodes)) in
    let messages : List Member = messages_files told t (codes "messages") (of_type MESSAGE nodes) in
    let associated : List Member = messages_files told t (codes "associated") (of_type ASSOCIATED nodes) in
    front_whole _ _ _ _ (((front ++ folders) ++ messages) ++ associated) (adds_two _ _ _ _ _ _ ((front ++ folders) ++ messages) associated (adds_two _ _ _ _ _ _ (front ++ folders) messages (adds_two _ _ _ _ _ _ front folders c.in_ok-write_front.ensures.all (rw same at c.in_ok-write_folders.ensures.all)) (rw same at c.in_ok-write_messages.ensures.all)) (rw same at c.in_ok-write_messages-2.ensures.all))
