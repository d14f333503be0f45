-- What remains of a damaged file up to its nodes: the faults of its header, of the pages of both B-trees, of its blocks and of its
-- allocation maps, each part looked at over what those before it have left; and the blocks and nodes that are left.
use Rattle.std.specs.Prelude.{ℕ, List, [], ◌++◌, map, Option, None, if◌then◌else◌}
use Rattle.pst_fault.specs.declared.fault.Fault.{Fault}
use Rattle.pst_header.specs.declared.header.TheConstants.{FIRST_AMAP}
use Rattle.pst_header.specs.Header.{end_of, fields}
use Rattle.pst_page.specs.declared.kind.PageKind.TheVariants.{Bbt, Nbt}
use Rattle.pst_page.specs.declared.entry.NodeEntry.{NodeEntry}
use Rattle.pst_page.specs.Entry.{block_entry_at, node_entry_at}
use Rattle.pst_space.specs.Claimed.{Claimed, maps_claimed}
use Rattle.pst_amap.specs.Report.{maps_fault}
use Rattle.pst_block.specs.Table.{Table, table_with}
use Rattle.pst_remains.specs.declared.pages.Broken.{Broken}
use Rattle.pst_remains.specs.Blocks.{BlocksLeft, blocks_left}
use Rattle.pst_remains.specs.Header.{header_damage, mended, has_maps}
use Rattle.pst_remains.specs.Pages.{Left, tree_left, leaf_entries, faults_of}

-- where the mapped part ends; where nothing is mapped, it ends where it begins
abbrev pub mapped_end : List ℕ → ℕ
mapped_end I = if has_maps I then end_of (mended I) else FIRST_AMAP

-- what is claimed before the first page: the map pages
abbrev pub first_claimed : List ℕ → Claimed
first_claimed I = if has_maps I then maps_claimed (mended I) else []

-- the block B-tree, then the node B-tree beside its pages
unfoldable pub block_tree_left : List ℕ → Left
block_tree_left I = tree_left Bbt I (mapped_end I) (first_claimed I) (fields I).bbt

unfoldable pub node_tree_left : List ℕ → Left
node_tree_left I = tree_left Nbt I (mapped_end I) (block_tree_left I).claimed (fields I).nbt

-- then the blocks
unfoldable pub all_blocks_left : List ℕ → BlocksLeft
all_blocks_left I = blocks_left (mapped_end I) I (node_tree_left I).claimed (map (block_entry_at I) (leaf_entries I (block_tree_left I).leaves))

-- then the maps, beside what is claimed; none, where there are no map pages
unfoldable pub maps_damage : List ℕ → Option Fault
maps_damage I = if has_maps I then maps_fault I (mended I) (all_blocks_left I).claimed else None

-- ---- what is told, and what is left

pub record RemainsParts : Type 0 where
  -- the first fault of the header, the faults of pages and of blocks in order, the first fault of the maps
  pub header : Option Fault
  pub pages : List Fault
  pub blocks : List Fault
  pub maps : Option Fault
  -- the blocks without fault, and the nodes that the leaves without fault name
  pub table : Table
  pub nodes : List NodeEntry
  -- the pages of the node B-tree with a fault, and which nodes lie behind each
  pub broken : List Broken

unfoldable pub remains_of : List ℕ → RemainsParts
remains_of I = record {
  header = header_damage I;
  pages = faults_of (block_tree_left I).broken ++ faults_of (node_tree_left I).broken;
  blocks = (all_blocks_left I).faults;
  maps = maps_damage I;
  table = table_with I (all_blocks_left I).good;
  nodes = map (node_entry_at I) (leaf_entries I (node_tree_left I).leaves);
  broken = (node_tree_left I).broken;
}
