use Rattle.std.proofs.Common.{refl}
use Rattle.std.specs.Prelude.{codes}
use Rattle.serde_json.specs.Data.{Data, Members, member, no_members}
use Rattle.pst_ndb.specs.Views.{table_of_node, roots_of, nid_of}
use Rattle.pst_value_json.specs.declared.filed.Filed.TheVariants.{Nothing}
use Rattle.pst_value_json.specs.Props.{names_told}
use Rattle.pst_value_json.specs.pst_pc.View.{node_of_pc}
use Rattle.pst_value_json.specs.pst_text.Names.{nid_data}
use Rattle.pst_value_json.proofs.PenLemmas.{begun}
use Rattle.pst_props.specs.Node.{node_props_data, props_data}
use Rattle.pst_props.proofs.node.write_node.Goals as goal

pub returns-clause-put : goal.returns-clause-put
unfolding node_props_data
returns-clause-put g c =
    let node = node_of_pc c.args.pc.now in
    let nid : Data = nid_data (nid_of node) in
    let props : Data = props_data (names_told c.args.names) Nothing c.args.places (table_of_node node) (roots_of node) in
    let one : Members = member (codes "nid") nid no_members in
    let first = begun g.P.Pen.Puts g.P.Pen.AtKey _ _ _ no_members (codes "nid") nid c.in_ok-first.ensures.put (rw (c.nid.ensures, c.node.ensures) at c.in_ok-leaf.ensures.put) refl in
    let second = begun g.P.Pen.Puts g.P.Pen.AtKey _ _ _ one (codes "props") props (c.in_ok-next.ensures.put _ one first) c.in_ok-write_props.ensures.put refl in
    c.close.ensures.put _ _ second
