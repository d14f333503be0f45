-- The document of a list of nodes, and its line.
use Rattle.std.specs.Prelude.{ℕ, List, codes}
use Rattle.serde_json.specs.Data.{Data, object, member, no_members}
use Rattle.pst_page.specs.declared.entry.NodeEntry.{NodeEntry}
use Rattle.pst_value_json.specs.pst_text.Names.{nid_data}
use Rattle.pst_value_json.specs.pst_text.Parts.{natural, list_data}
use Rattle.pst_value_json.specs.pst_text.Line.{data_line}

-- the members stand in the order of their keys' bytes
unfoldable pub node_data : NodeEntry → Data
node_data entry =
    object
    (member (codes "data_bid") (natural entry.bid_data)
    (member (codes "nid") (nid_data entry.nid)
    (member (codes "parent") (nid_data entry.parent)
    (member (codes "sub_bid") (natural entry.bid_sub)
    no_members))))

unfoldable pub nodes_data : List NodeEntry → Data
nodes_data entries = object (member (codes "nodes") (list_data node_data entries) no_members)

-- the line that shows nodes
unfoldable pub nodes_line : List NodeEntry → List ℕ
nodes_line entries = data_line (nodes_data entries)
