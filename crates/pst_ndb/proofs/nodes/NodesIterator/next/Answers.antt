use Rattle.pst_block.specs.Blocks.{table_of}
use Rattle.pst_fault.proofs.EachLemmas.{each_first}
use Rattle.pst_ndb.specs.Fault.{node_fault}
use Rattle.pst_ndb.proofs.nodes.NodesIterator.next.Goals as goal

pub of_entry-requires : goal.of_entry-requires
of_entry-requires c = each_first (node_fault (table_of c.args.self.now.blocks)) _ _ _ c.args.self.now.sound c.in_ok-entry.ensures.steps
