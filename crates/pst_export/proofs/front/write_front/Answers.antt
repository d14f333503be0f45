use Rattle.std.proofs.Common.{false, List, [], ◌∷◌, ◌++◌}
use Rattle.std.specs.Prelude.{codes}
use Rattle.pst_intact.specs.View.{table_of_intact, nodes_of_intact}
use Rattle.pst_json.specs.pst_whole.View.{lost_in}
use Rattle.pst_json.specs.Folders.{folders_line}
use Rattle.pst_json.specs.Messages.{messages_text}
use Rattle.pst_json.specs.Node.{props_line}
use Rattle.pst_tar.specs.Archive.{Member}
use Rattle.pst_verify.specs.pst_msg.pst_mail.declared.nid.TheConstants.{STORE}
use Rattle.pst_export.specs.Store.{member_named, store_file}
use Rattle.pst_export.proofs.WriteLemmas.{adds_two, front_first, front_second, front_whole}
use Rattle.pst_export.proofs.front.write_front.Goals as goal

pub returns-in_err-write_store-clause-front : goal.returns-in_err-write_store-clause-front
returns-in_err-write_store-clause-front g c =
    let e = c.args.export.now in
    let t = table_of_intact e.intact in
    let nodes = nodes_of_intact e.intact in
    let store : List Member = store_file (props_line false t nodes (STORE ∷ [])) in
    let list : Member = member_named (codes "folders.json") (folders_line t nodes (lost_in e.lost)) in
    let summaries : Member = member_named (codes "messages.jsonl") (messages_text t nodes) in
    front_first _ _ _ store (list ∷ summaries ∷ []) c.in_err-write_store.ensures.front

pub returns-in_err-write_list-clause-front : goal.returns-in_err-write_list-clause-front
returns-in_err-write_list-clause-front g c =
    let e = c.args.export.now in
    let t = table_of_intact e.intact in
    let nodes = nodes_of_intact e.intact in
    let store : List Member = store_file (props_line false t nodes (STORE ∷ [])) in
    let list : Member = member_named (codes "folders.json") (folders_line t nodes (lost_in e.lost)) in
    let summaries : Member = member_named (codes "messages.jsonl") (messages_text t nodes) in
    front_second _ _ _ _ _ store (list ∷ summaries ∷ []) c.in_ok-write_store.ensures.all (front_first _ _ _ (list ∷ []) (summaries ∷ []) c.in_err-write_list.ensures.front)

pub returns-in_err-write_summaries-clause-front : goal.returns-in_err-write_summaries-clause-front
returns-in_err-write_summaries-clause-front g c =
    let e = c.args.export.now in
    let t = table_of_intact e.intact in
    let nodes = nodes_of_intact e.intact in
    let store : List Member = store_file (props_line false t nodes (STORE ∷ [])) in
    let list : Member = member_named (codes "folders.json") (folders_line t nodes (lost_in e.lost)) in
    let summaries : Member = member_named (codes "messages.jsonl") (messages_text t nodes) in
    front_second _ _ _ _ _ store (list ∷ summaries ∷ []) c.in_ok-write_store.ensures.all
    (front_second _ _ _ _ _ (list ∷ []) (summaries ∷ []) c.in_ok-write_list.ensures.all c.in_err-write_summaries.ensures.front)

pub returns-clause-all : goal.returns-clause-all
returns-clause-all g c =
    let e = c.args.export.now in
    let t = table_of_intact e.intact in
    let nodes = nodes_of_intact e.intact in
    let store : List Member = store_file (props_line false t nodes (STORE ∷ [])) in
    let list : Member = member_named (codes "folders.json") (folders_line t nodes (lost_in e.lost)) in
    let summaries : Member = member_named (codes "messages.jsonl") (messages_text t nodes) in
    adds_two _ _ _ _ _ _ store (list ∷ summaries ∷ []) c.in_ok-write_store.ensures.all
    (adds_two _ _ _ _ _ _ (list ∷ []) (summaries ∷ []) c.in_ok-write_list.ensures.all c.in_ok-write_summaries.ensures.all)

pub returns-clause-front : goal.returns-clause-front
returns-clause-front g c =
    let e = c.args.export.now in
    let t = table_of_intact e.intact in
    let nodes = nodes_of_intact e.intact in
    let store : List Member = store_file (props_line false t nodes (STORE ∷ [])) in
    let list : Member = member_named (codes "folders.json") (folders_line t nodes (lost_in e.lost)) in
    let summaries : Member = member_named (codes "messages.jsonl") (messages_text t nodes) in
    front_whole _ _ _ _ (store ++ (list ∷ summaries ∷ []))
    (adds_two _ _ _ _ _ _ store (list ∷ summaries ∷ []) c.in_ok-write_store.ensures.all
    (adds_two _ _ _ _ _ _ (list ∷ []) (summaries ∷ []) c.in_ok-write_list.ensures.all c.in_ok-write_summaries.ensures.all))
