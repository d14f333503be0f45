use Rattle.pst_btree.proofs.EntryLemmas.{block_map_law, node_map_law}
use Rattle.pst_btree.proofs.laws.entries_are_maps.Goals as goal

pub returns-clause-blocks : goal.returns-clause-blocks
returns-clause-blocks c = block_map_law

pub returns-clause-nodes : goal.returns-clause-nodes
returns-clause-nodes c = node_map_law
