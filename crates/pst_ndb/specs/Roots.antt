-- What contexts and messages are read from: the trees of blocks of a node, or of a subnode. No place in memory is part of it.
use Rattle.std.specs.Prelude.{ℕ, Option, option_map, List, map}
use Rattle.pst_page.specs.declared.entry.NodeEntry.{NodeEntry}
use Rattle.pst_block.specs.Table.{Table}
use Rattle.pst_btree.specs.Entries.{first_with, node_with}
use Rattle.pst_subnode.specs.declared.sub.Sub.{Sub}
use Rattle.pst_subnode.specs.List.{sub_nid, subs_of}

pub record Roots : Type 0 where
  -- the node of the node B-tree from which it was reached: faults are told of it
  pub top : ℕ
  -- the block identifiers of its data and of its subnodes
  pub bid_data : ℕ
  pub bid_sub : ℕ

-- of a node of the node B-tree, and of a subnode
abbrev pub entry_roots : NodeEntry → Roots
entry_roots e = record { top = e.nid; bid_data = e.bid_data; bid_sub = e.bid_sub }

abbrev pub sub_roots : Roots → Sub → Roots
sub_roots r s = record { top = r.top; bid_data = s.bid_data; bid_sub = s.bid_sub }

-- the subnode with an identifier
unfoldable pub subnode_of : Table → Roots → ℕ → Option Roots
subnode_of t r nid = option_map (sub_roots r) (first_with sub_nid nid (subs_of t r.bid_sub))

-- the node with an identifier
unfoldable pub node_in : List NodeEntry → ℕ → Option Roots
node_in nodes nid = option_map entry_roots (node_with nid nodes)

-- all nodes, in order
abbrev pub all_roots : List NodeEntry → List Roots
all_roots nodes = map entry_roots nodes
