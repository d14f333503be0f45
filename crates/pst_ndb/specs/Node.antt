-- What is known of a node: of a node of the node B-tree, or of a subnode that was reached from one.
use Rattle.std.specs.Prelude.{ℕ}
use Rattle.pst_bytes.specs.declared.Image.{Image}
use Rattle.pst_page.specs.declared.entry.NodeEntry.{NodeEntry}
use Rattle.pst_block.specs.Table.{Table}
use Rattle.pst_subnode.specs.declared.sub.Sub.{Sub}

pub record NodeParts : Type 0 where
  -- the file, and its blocks
  pub image : Image
  pub table : Table
  -- the node of the node B-tree from which it was reached
  pub top : ℕ
  -- its identifier, and the block identifiers of its data and of its subnodes
  pub nid : ℕ
  pub bid_data : ℕ
  pub bid_sub : ℕ

-- a node of the node B-tree, which is reached from itself
abbrev pub entry_parts : Image → Table → NodeEntry → NodeParts
entry_parts image t e = record { image = image; table = t; top = e.nid; nid = e.nid; bid_data = e.bid_data; bid_sub = e.bid_sub }

-- a subnode of a node, which is reached from where that node was
abbrev pub sub_parts : NodeParts → Sub → NodeParts
sub_parts node s = record { image = node.image; table = node.table; top = node.top; nid = s.nid; bid_data = s.bid_data; bid_sub = s.bid_sub }
