-- An index of a list of subnodes.
use Rattle.std.proofs.Common.{◌≡◌, ℕ, sym, ◌∙◌}
use Rattle.pst_block.specs.Block.{bid_key}
use Rattle.pst_subnode.specs.declared.index.SubIndex.{SubIndex}
use Rattle.pst_subnode.proofs.IndexLemmas.{index_of_key}
use Rattle.pst_ndb.specs.declared.node.Node.{Node}
use Rattle.pst_ndb.specs.Views.{table_of_node, sub_bid_of, IsIndexedBy}
use Rattle.pst_remembered.specs.declared.list_index.ListIndex.{ListIndex}
use Rattle.pst_remembered.specs.ListIndex.{IsIndexIn}

-- that of a node is one of each node with the same list
pub index_of_list : (node : Node) (index : SubIndex) (list : ℕ) → IsIndexedBy node index → list ≡ bid_key (sub_bid_of node) → IsIndexIn (table_of_node node) (record { list = list; index = index })
unfolding IsIndexIn
index_of_list node index list is same bid e = index_of_key (table_of_node node) (sub_bid_of node) bid index (sym (e ∙ same)) is

pub indexed_by : (node : Node) (i : ListIndex) → IsIndexIn (table_of_node node) i → bid_key (sub_bid_of node) ≡ i.list → IsIndexedBy node i.index
unfolding IsIndexIn
indexed_by node i is e = is (sub_bid_of node) e
