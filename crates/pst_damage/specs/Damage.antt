-- All that is broken of a file, part by part.
use Rattle.std.specs.Prelude.{ℕ, List, Option}
use Rattle.pst_fault.specs.declared.fault.Fault.{Fault}
use Rattle.pst_remains.specs.Remains.{RemainsParts, remains_of}
use Rattle.pst_damage.specs.declared.broken.BrokenNode.{BrokenNode}
use Rattle.pst_damage.specs.declared.whole.Whole.{Whole}
use Rattle.pst_damage.specs.Nodes.{nodes_damage, whole_left}

pub record DamageParts : Type 0 where
  -- the first fault of the header
  pub header : Option Fault
  -- the faults of the pages of both B-trees, and those of the blocks
  pub pages : List Fault
  pub blocks : List Fault
  -- the first fault of the allocation maps
  pub maps : Option Fault
  -- the broken nodes, their identifiers rising, each with its first fault
  pub nodes : List BrokenNode
  -- what is whole
  pub whole : Whole

-- The nodes are looked at over what the parts before them have left: the blocks without fault, the nodes that leaves without fault
-- name, and the pages with a fault, behind which others may lie.
unfoldable pub damage_in : RemainsParts → DamageParts
damage_in r = record {
  header = r.header;
  pages = r.pages;
  blocks = r.blocks;
  maps = r.maps;
  nodes = nodes_damage r.table r.nodes r.broken;
  whole = whole_left r.table r.nodes r.broken;
}

unfoldable pub damage_of : List ℕ → DamageParts
damage_of I = damage_in (remains_of I)
