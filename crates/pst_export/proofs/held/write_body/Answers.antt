use Rattle.std.proofs.Common.{subst}
use Rattle.std.specs.Prelude.{OnOk}
use Rattle.pst_ndb.specs.Views.{table_of_node, roots_of}
use Rattle.pst_value_json.specs.Filed.{message_file}
use Rattle.pst_value_json.specs.pst_pc.View.{node_of_pc, property_of}
use Rattle.pst_export.specs.Written.{AddsFiles, AddsFront}
use Rattle.pst_export.proofs.FileLemmas.{file_there, none_there}
use Rattle.pst_export.proofs.held.write_body.Goals as goal

pub returns-in-Some-clause-all : goal.returns-in-Some-clause-all
returns-in-Some-clause-all g c =
    let node = node_of_pc c.args.pc.now in
    let is = file_there message_file (table_of_node node) (roots_of node) c.args.folder.now c.args.time c.args.id (property_of c.in-Some.prop) _ c.in-Some.ensures.value c.message_file-name.ensures in
    subst (λ ms. OnOk c.write_named.result (AddsFiles (g.W.Write.contents c.args.out.now) (g.W.Write.contents c.write_named.new.out) c.args.number.now c.write_named.new.number ms)) is
    c.write_named.ensures.all

pub returns-in-Some-clause-front : goal.returns-in-Some-clause-front
returns-in-Some-clause-front g c =
    let node = node_of_pc c.args.pc.now in
    let is = file_there message_file (table_of_node node) (roots_of node) c.args.folder.now c.args.time c.args.id (property_of c.in-Some.prop) _ c.in-Some.ensures.value c.message_file-name.ensures in
    subst (λ ms. AddsFront (g.W.Write.contents c.args.out.now) (g.W.Write.contents c.write_named.new.out) c.args.number.now ms) is c.write_named.ensures.front

pub returns-in-None-clause-all : goal.returns-in-None-clause-all
returns-in-None-clause-all g c =
    let node = node_of_pc c.args.pc.now in
    none_there _ _ message_file (table_of_node node) (roots_of node) c.args.folder.now c.args.time c.args.id c.in-None.ensures.value
