use Rattle.std.proofs.Common.{ℕ, List, [], ◌++◌}
use Rattle.pst_ndb.specs.Views.{table_of_node, roots_of}
use Rattle.pst_tar.specs.Archive.{Member}
use Rattle.pst_value_json.specs.declared.filed.TheConstants.{HEADERS, BODY, HTML, RTF}
use Rattle.pst_value_json.specs.Filed.{message_file}
use Rattle.pst_value_json.specs.pst_pc.View.{node_of_pc}
use Rattle.pst_export.specs.Files.{file_at}
use Rattle.pst_export.proofs.WriteLemmas.{adds_none, adds_two, front_first, front_second, front_whole}
use Rattle.pst_export.proofs.held.write_bodies.Goals as goal

pub returns-in_err-write_body-clause-front : goal.returns-in_err-write_body-clause-front
returns-in_err-write_body-clause-front g c =
    let node = node_of_pc c.args.pc.now in
    let file : ℕ → List Member = file_at message_file (table_of_node node) (roots_of node) c.args.folder.now c.args.time in
    front_first _ _ _ (file HEADERS) (file BODY ++ (file HTML ++ (file RTF ++ []))) c.in_err-write_body.ensures.front

pub returns-in_err-write_body-2-clause-front : goal.returns-in_err-write_body-2-clause-front
returns-in_err-write_body-2-clause-front g c =
    let node = node_of_pc c.args.pc.now in
    let file : ℕ → List Member = file_at message_file (table_of_node node) (roots_of node) c.args.folder.now c.args.time in
    front_second _ _ _ _ _ (file HEADERS) (file BODY ++ (file HTML ++ (file RTF ++ []))) c.in_ok-write_body.ensures.all
    (front_first _ _ _ (file BODY) (file HTML ++ (file RTF ++ [])) c.in_err-write_body-2.ensures.front)

pub returns-in_err-write_body-3-clause-front : goal.returns-in_err-write_body-3-clause-front
returns-in_err-write_body-3-clause-front g c =
    let node = node_of_pc c.args.pc.now in
    let file : ℕ → List Member = file_at message_file (table_of_node node) (roots_of node) c.args.folder.now c.args.time in
    front_second _ _ _ _ _ (file HEADERS) (file BODY ++ (file HTML ++ (file RTF ++ []))) c.in_ok-write_body.ensures.all
    (front_second _ _ _ _ _ (file BODY) (file HTML ++ (file RTF ++ [])) c.in_ok-write_body-2.ensures.all
    (front_first _ _ _ (file HTML) (file RTF ++ []) c.in_err-write_body-3.ensures.front))

pub returns-in_err-write_body-4-clause-front : goal.returns-in_err-write_body-4-clause-front
returns-in_err-write_body-4-clause-front g c =
    let node = node_of_pc c.args.pc.now in
    let file : ℕ → List Member = file_at message_file (table_of_node node) (roots_of node) c.args.folder.now c.args.time in
    front_second _ _ _ _ _ (file HEADERS) (file BODY ++ (file HTML ++ (file RTF ++ []))) c.in_ok-write_body.ensures.all
    (front_second _ _ _ _ _ (file BODY) (file HTML ++ (file RTF ++ [])) c.in_ok-write_body-2.ensures.all
    (front_second _ _ _ _ _ (file HTML) (file RTF ++ []) c.in_ok-write_body-3.ensures.all
    (front_first _ _ _ (file RTF) [] c.in_err-write_body-4.ensures.front)))

pub returns-clause-all : goal.returns-clause-all
returns-clause-all g c =
    let node = node_of_pc c.args.pc.now in
    let file : ℕ → List Member = file_at message_file (table_of_node node) (roots_of node) c.args.folder.now c.args.time in
    adds_two _ _ _ _ _ _ (file HEADERS) (file BODY ++ (file HTML ++ (file RTF ++ []))) c.in_ok-write_body.ensures.all
    (adds_two _ _ _ _ _ _ (file BODY) (file HTML ++ (file RTF ++ [])) c.in_ok-write_body-2.ensures.all
    (adds_two _ _ _ _ _ _ (file HTML) (file RTF ++ []) c.in_ok-write_body-3.ensures.all
    (adds_two _ _ _ _ _ _ (file RTF) [] c.in_ok-write_body-4.ensures.all (adds_none _ _))))

pub returns-clause-front : goal.returns-clause-front
returns-clause-front g c =
    let node = node_of_pc c.args.pc.now in
    let file : ℕ → List Member = file_at message_file (table_of_node node) (roots_of node) c.args.folder.now c.args.time in
    front_whole _ _ _ _ (file HEADERS ++ (file BODY ++ (file HTML ++ (file RTF ++ []))))
    (adds_two _ _ _ _ _ _ (file HEADERS) (file BODY ++ (file HTML ++ (file RTF ++ []))) c.in_ok-write_body.ensures.all
    (adds_two _ _ _ _ _ _ (file BODY) (file HTML ++ (file RTF ++ [])) c.in_ok-write_body-2.ensures.all
    (adds_two _ _ _ _ _ _ (file HTML) (file RTF ++ []) c.in_ok-write_body-3.ensures.all
    (adds_two _ _ _ _ _ _ (file RTF) [] c.in_ok-write_body-4.ensures.all (adds_none _ _)))))
