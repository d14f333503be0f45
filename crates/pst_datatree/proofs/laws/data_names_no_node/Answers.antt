use Rattle.pst_datatree.proofs.NodeLemmas.{data_no_node}
use Rattle.pst_datatree.proofs.laws.data_names_no_node.Goals as goal

pub returns : goal.returns
returns c = data_no_node
