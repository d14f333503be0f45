-- The first fault of a file.
use Rattle.std.specs.Prelude.{ℕ, List, Option}
use Rattle.pst_fault.specs.declared.fault.Fault.{Fault}
use Rattle.pst_fault.specs.First.{◌then◌}
use Rattle.pst_header.specs.Header.{fields}
use Rattle.pst_ndb.specs.Entries.{block_table, node_list}
use Rattle.pst_ndb.specs.Fault.{ndb_fault}
use Rattle.pst_msg.specs.Fault.{messaging_fault}

-- Of its node database: the header, the pages of the block B-tree and of the node B-tree, the blocks, the allocation maps, the trees
-- of the nodes' blocks. Then of messaging.
unfoldable pub store_fault : List ℕ → Option Fault
store_fault I = ndb_fault I then messaging_fault (block_table I (fields I)) (node_list I (fields I))
