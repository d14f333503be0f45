use Rattle.std.proofs.Common.{refl}
use Rattle.std.specs.Prelude.{codes}
use Rattle.serde_json.specs.Data.{Data, no_members}
use Rattle.pst_btree.specs.Trees.{node_entries}
use Rattle.pst_value_json.specs.pst_text.Parts.{list_data}
use Rattle.pst_value_json.proofs.PenLemmas.{begun}
use Rattle.pst_json.specs.Nodes.{node_data, nodes_data}
use Rattle.pst_json.proofs.nodes.write_nodes.Goals as goal

pub returns-clause-put : goal.returns-clause-put
unfolding nodes_data
returns-clause-put g c =
    let nodes : Data = list_data node_data (node_entries c.args.tree.now) in
    c.close.ensures.put _ _ (begun g.P.Pen.Puts g.P.Pen.AtKey _ _ _ no_members (codes "nodes") nodes c.in_ok-first.ensures.put c.in_ok-write_entries.ensures.put refl)
