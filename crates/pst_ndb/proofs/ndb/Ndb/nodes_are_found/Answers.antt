use Rattle.pst_btree.proofs.EntryLemmas.{node_map_law}
use Rattle.pst_ndb.specs.Views.{nodes_of}
use Rattle.pst_ndb.proofs.ndb.Ndb.nodes_are_found.Goals as goal

pub returns : goal.returns
returns c = node_map_law (nodes_of c.args.self.now) c.nodes_rise.ensures
