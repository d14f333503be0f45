-- The first fault of a file up to its nodes.
use Rattle.std.specs.Prelude.{ℕ, List, Option, option_map}
use Rattle.pst_fault.specs.declared.fault.Fault.{Fault}
use Rattle.pst_fault.specs.Fault.{at_node}
use Rattle.pst_fault.specs.First.{◌then◌}
use Rattle.pst_fault.specs.Each.{first_of}
use Rattle.pst_header.specs.declared.header.Header.{Header}
use Rattle.pst_header.specs.Header.{header_fault, fields}
use Rattle.pst_page.specs.declared.entry.NodeEntry.{NodeEntry}
use Rattle.pst_block.specs.Table.{Table}
use Rattle.pst_datatree.specs.Data.{data_fault}
use Rattle.pst_subnode.specs.declared.check.TheConstants.{LISTS}
use Rattle.pst_subnode.specs.Tree.{sub_fault, at_top}
use Rattle.pst_ndb.specs.Entries.{block_table, node_list}
use Rattle.pst_ndb.specs.Space.{space_fault}

-- of a node: of its data, then of its subnodes
unfoldable pub node_fault : Table → NodeEntry → Option Fault
node_fault t e = option_map (at_node e.nid) (data_fault t e.bid_data) then option_map (at_top e.bid_sub e.nid) (sub_fault t LISTS e.bid_sub)

-- of nodes, in order
abbrev pub nodes_fault : Table → List NodeEntry → Option Fault
nodes_fault t = first_of (node_fault t)

-- of a file with this header
unfoldable pub file_fault : List ℕ → Header → Option Fault
file_fault I h = space_fault I h then nodes_fault (block_table I h) (node_list I h)

-- of a file: of its header; of the pages of both B-trees and of the blocks; of the allocation maps; of the nodes, in order
-- of their identifiers
unfoldable pub ndb_fault : List ℕ → Option Fault
ndb_fault I = header_fault I then file_fault I (fields I)
