use Rattle.std.proofs.Common.{List}
use Rattle.pst_intact.specs.View.{table_of_intact, nodes_of_intact}
use Rattle.pst_json.specs.pst_whole.View.{lost_in}
use Rattle.pst_tar.specs.Archive.{Member}
use Rattle.pst_value_json.specs.pst_names.Name.{store_name}
use Rattle.pst_export.specs.Export.{text_of_damage}
use Rattle.pst_export.specs.Store.{all_files, damage_file, files_with}
use Rattle.pst_export.proofs.WriteLemmas.{adds_two, front_first, front_second, front_whole}
use Rattle.pst_export.proofs.emit.write_files.Goals as goal

pub returns-in_err-write_damage-clause-front : goal.returns-in_err-write_damage-clause-front
unfolding all_files
returns-in_err-write_damage-clause-front g c =
    let e = c.args.export.now in
    let t = table_of_intact e.intact in
    let nodes = nodes_of_intact e.intact in
    front_first _ _ _ (damage_file (text_of_damage e)) (files_with (store_name t nodes) t nodes (lost_in e.lost)) c.in_err-write_damage.ensures.front

pub returns-in_err-write_nodes-clause-front : goal.returns-in_err-write_nodes-clause-front
unfolding all_files
returns-in_err-write_nodes-clause-front g c =
    let e = c.args.export.now in
    let t = table_of_intact e.intact in
    let nodes = nodes_of_intact e.intact in
    front_second _ _ _ _ _ (damage_file (text_of_damage e)) (files_with (store_name t nodes) t nodes (lost_in e.lost)) c.in_ok-write_damage.ensures.all c.in_err-write_nodes.ensures.front

pub returns-clause-all : goal.returns-clause-all
unfolding all_files
returns-clause-all g c =
    let e = c.args.export.now in
    let t = table_of_intact e.intact in
    let nodes = nodes_of_intact e.intact in
    adds_two _ _ _ _ _ _ (damage_file (text_of_damage e)) (files_with (store_name t nodes) t nodes (lost_in e.lost)) c.in_ok-write_damage.ensures.all c.in_ok-write_nodes.ensures.all

pub returns-clause-front : goal.returns-clause-front
unfolding all_files
returns-clause-front g c =
    let e = c.args.export.now in
    let t = table_of_intact e.intact in
    let nodes = nodes_of_intact e.intact in
    let damage : List Member = damage_file (text_of_damage e) in
    let files : List Member = files_with (store_name t nodes) t nodes (lost_in e.lost) in
    front_whole _ _ _ _ (all_files (text_of_damage e) t nodes (lost_in e.lost)) (adds_two _ _ _ _ _ _ damage files c.in_ok-write_damage.ensures.all c.in_ok-write_nodes.ensures.all)
