-- What a tree that was walked shows, the pages that it has, and its entries.
use Rattle.std.specs.Prelude.{◌≡◌, ℕ, Some, List, length, map}
use Rattle.pst_bytes.specs.declared.Image.{Image}
use Rattle.pst_bytes.specs.Image.{bytes_of}
use Rattle.pst_header.specs.declared.header.Bref.{Bref}
use Rattle.pst_page.specs.declared.kind.PageKind.{PageKind}
use Rattle.pst_page.specs.declared.entry.BlockEntry.{BlockEntry}
use Rattle.pst_page.specs.declared.entry.NodeEntry.{NodeEntry}
use Rattle.pst_page.specs.Entry.{block_entry_at, node_entry_at}
use Rattle.pst_page.specs.Page.{level_at}
use Rattle.pst_btree.specs.declared.tree.TreeView.{TreeView}
use Rattle.pst_space.specs.Claimed.{Claimed, claim_all}
use Rattle.pst_btree.specs.Tree.{Tree, IsTree, tree_at, entries_of, pages_of, page_spans}
use Rattle.pst_btree.specs.Walk.{Found, found_so_far}

-- of which file it is, where the mapped part of that ends, which B-tree it is, its root, and the level of the root
pub record TreeParts : Type 0 where
  pub image : Image
  pub end : ℕ
  pub kind : PageKind
  pub root : Bref
  pub level : ℕ

abbrev pub tree_parts : TreeView → TreeParts
tree_parts view = record { image = view.image; end = view.end; kind = view.kind; root = view.root; level = view.level }

abbrev pub bytes_of_view : TreeParts → List ℕ
bytes_of_view view = bytes_of view.image

abbrev pub tree_of : TreeParts → Tree
tree_of view = tree_at view.kind (bytes_of_view view) view.level view.root

-- the places of its entries, from left to right
abbrev pub entries : TreeParts → List ℕ
entries view = entries_of (tree_of view)

-- what stands there in the block B-tree, and in the node B-tree
abbrev pub block_entries_of : TreeParts → List BlockEntry
block_entries_of view = map (block_entry_at (bytes_of_view view)) (entries view)

abbrev pub node_entries_of : TreeParts → List NodeEntry
node_entries_of view = map (node_entry_at (bytes_of_view view)) (entries view)

-- what a walk has found once it has this view
abbrev pub found_in : Claimed → TreeParts → Found
found_in claimed view = found_so_far claimed (entries view) (length (pages_of (tree_of view)))

-- What the walk under a root answers: the view of a tree of this kind, which the file spells there with keys that keep their
-- bounds, and whose pages are claimed.
pub record IsWalkedTree (file : Image) (last : ℕ) (which : PageKind) (top : Bref) (old new : Claimed) (view : TreeParts) : Type 0 where
  pub image : view.image ≡ file
  pub end : view.end ≡ last
  pub kind : view.kind ≡ which
  pub root : view.root ≡ top
  pub level : view.level ≡ level_at (bytes_of file) top.ib
  pub tree : IsTree which (bytes_of file) last top view.level (tree_of view)
  pub claims : claim_all old (page_spans (tree_of view)) ≡ Some new
