-- The nodes of a damaged file that are whole: those that are left and have no fault.
use Rattle.std.specs.Prelude.{Bool, is_some, List}
use Rattle.pst_page.specs.declared.entry.NodeEntry.{NodeEntry}
use Rattle.pst_btree.specs.Entries.{node_with}
use Rattle.pst_block.specs.Table.{Table}
use Rattle.pst_remains.specs.declared.pages.Broken.{Broken}
use Rattle.pst_damage.specs.declared.broken.BrokenNode.{BrokenNode}
use Rattle.pst_damage.specs.Judged.{sound_by, broken_by}
use Rattle.pst_damage.specs.Nodes.{node_damage}

unfoldable pub whole_nodes : Table → List NodeEntry → List Broken → List NodeEntry
whole_nodes t nodes broken = sound_by (node_damage t nodes broken) nodes

-- the others, each with its fault
unfoldable pub broken_nodes : Table → List NodeEntry → List Broken → List BrokenNode
broken_nodes t nodes broken = broken_by (node_damage t nodes broken) nodes

-- a broken node is one of these, and not one that is missing
abbrev pub is_there : List NodeEntry → BrokenNode → Bool
is_there nodes b = is_some (node_with b.nid nodes)
