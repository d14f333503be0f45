-- The entries that the walks give are those that lie in the file.
use Rattle.std.proofs.Common.{◌≡◌, ℕ, List, ◌+◌, length, map, Some, Ok, refl, sym, ap, ◌∙◌}
use Rattle.pst_header.specs.declared.header.Header.{Header}
use Rattle.pst_header.specs.declared.header.Bref.{Bref}
use Rattle.pst_page.specs.declared.kind.PageKind.{PageKind}
use Rattle.pst_page.specs.declared.kind.PageKind.TheVariants.{Bbt, Nbt}
use Rattle.pst_page.specs.Entry.{block_entry_at, node_entry_at}
use Rattle.pst_bytes.specs.declared.Image.{Image}
use Rattle.pst_bytes.specs.Image.{bytes_of}
use Rattle.pst_btree.specs.declared.block_tree.BlockTree.{BlockTree}
use Rattle.pst_btree.specs.declared.node_tree.NodeTree.{NodeTree}
use Rattle.pst_btree.specs.Trees.{block_view, node_view, block_entries, node_entries}
use Rattle.pst_btree.specs.Tree.{Tree, tree_at, entries_of, pages_of, page_spans}
use Rattle.pst_btree.specs.View.{tree_of, IsWalkedTree}
use Rattle.pst_btree.specs.Walk.{Found, tree_walk}
use Rattle.pst_block.specs.Walk.{blocks_walk, block_spans}
use Rattle.pst_header.specs.Header.{end_of}
use Rattle.pst_page.specs.declared.entry.BlockEntry.{BlockEntry}
use Rattle.pst_space.specs.Claimed.{Claimed, claim_all, with_spans}
use Rattle.pst_space.proofs.ApartLemmas.{claimed_is}
use Rattle.pst_space.proofs.MapLemmas.{with_spans-append}
use Rattle.pst_space.specs.Step.{Step}
use Rattle.pst_ndb.specs.Entries.{tree_under, page_total, block_list, node_list}
use Rattle.pst_ndb.specs.Space.{space_walk, space_spans}
use Rattle.pst_ndb.specs.Trees.{trees_walk, trees_spans}

same_tree : (kind k : PageKind) (I J : List ℕ) (level l : ℕ) (root r : Bref) → J ≡ I → k ≡ kind → r ≡ root → l ≡ level → tree_at k J l r ≡ tree_at kind I level root
same_tree kind k I J level l root r i e f g = rw (i, e, f, g) refl

pub block_tree_is : (tree : BlockTree) (image : Image) (h : Header) (old new : Claimed) → IsWalkedTree image (end_of h) Bbt h.bbt old new (block_view tree) → tree_of (block_view tree) ≡ tree_under Bbt (bytes_of image) h.bbt
block_tree_is tree image h old new w = same_tree Bbt (block_view tree).kind (bytes_of image) (bytes_of (block_view tree).image) _ (block_view tree).level h.bbt (block_view tree).root (ap bytes_of w.image) w.kind w.root w.level

pub node_tree_is : (tree : NodeTree) (image : Image) (h : Header) (old new : Claimed) → IsWalkedTree image (end_of h) Nbt h.nbt old new (node_view tree) → tree_of (node_view tree) ≡ tree_under Nbt (bytes_of image) h.nbt
node_tree_is tree image h old new w = same_tree Nbt (node_view tree).kind (bytes_of image) (bytes_of (node_view tree).image) _ (node_view tree).level h.nbt (node_view tree).root (ap bytes_of w.image) w.kind w.root w.level

same_list : {X : Type 0} (item : List ℕ → ℕ → X) (I J : List ℕ) (tree t : Tree) → J ≡ I → t ≡ tree → map (item J) (entries_of t) ≡ map (item I) (entries_of tree)
same_list item I J tree t i e = rw (i, e) refl

pub block_list_is : (tree : BlockTree) (image : Image) (h : Header) (old new : Claimed) → IsWalkedTree image (end_of h) Bbt h.bbt old new (block_view tree) → block_entries tree ≡ block_list (bytes_of image) h
unfolding block_list
block_list_is tree image h old new w = same_list block_entry_at (bytes_of image) (bytes_of (block_view tree).image) (tree_under Bbt (bytes_of image) h.bbt) (tree_of (block_view tree)) (ap bytes_of w.image) (block_tree_is tree image h old new w)

pub node_list_is : (tree : NodeTree) (image : Image) (h : Header) (old new : Claimed) → IsWalkedTree image (end_of h) Nbt h.nbt old new (node_view tree) → node_entries tree ≡ node_list (bytes_of image) h
unfolding node_list
node_list_is tree image h old new w = same_list node_entry_at (bytes_of image) (bytes_of (node_view tree).image) (tree_under Nbt (bytes_of image) h.nbt) (tree_of (node_view tree)) (ap bytes_of w.image) (node_tree_is tree image h old new w)

-- the walks one after another
pub trees_end : (I : List ℕ) (h : Header) (claimed : Claimed) (blocks nodes : Found) → tree_walk Bbt I (end_of h) claimed h.bbt ≡ Ok blocks → tree_walk Nbt I (end_of h) blocks.claimed h.nbt ≡ Ok nodes → trees_walk I h claimed ≡ Ok nodes
unfolding trees_walk
trees_end I h claimed blocks nodes one two = rw one two

pub space_ends : (I : List ℕ) (h : Header) (claimed : Claimed) (trees : Found) (entries : List BlockEntry) (last : Step Claimed) → trees_walk I h claimed ≡ Ok trees
    → entries ≡ block_list I h → blocks_walk (end_of h) I trees.claimed entries ≡ last → space_walk I h claimed ≡ last
unfolding space_walk
space_ends I h claimed trees entries last one same two = rw (one, ← same) two

-- what is claimed once the pages are, and by the end
pub trees_claim : (I : List ℕ) (h : Header) (claimed one two : Claimed) (blocks nodes : Tree) → claim_all claimed (page_spans blocks) ≡ Some one → claim_all one (page_spans nodes) ≡ Some two
    → blocks ≡ tree_under Bbt I h.bbt → nodes ≡ tree_under Nbt I h.nbt → two ≡ with_spans claimed (trees_spans I h)
trees_claim I h claimed one two blocks nodes a b e f =
    rw (← e, ← f)
    (claimed_is one (page_spans nodes) two b
    ∙ ap (λ (m : Claimed). with_spans m (page_spans nodes)) (claimed_is claimed (page_spans blocks) one a)
    ∙ sym (with_spans-append claimed (page_spans blocks) (page_spans nodes)))

pub space_is : (I : List ℕ) (h : Header) (claimed trees new : Claimed) (entries : List BlockEntry) → trees ≡ with_spans claimed (trees_spans I h) → claim_all trees (block_spans entries) ≡ Some new
    → entries ≡ block_list I h → new ≡ with_spans claimed (space_spans I h)
unfolding space_spans
space_is I h claimed trees new entries a c same =
    claimed_is trees (block_spans entries) new c
    ∙ ap (λ (m : Claimed). with_spans m (block_spans entries)) a
    ∙ ap (λ (es : List BlockEntry). with_spans (with_spans claimed (trees_spans I h)) (block_spans es)) same
    ∙ sym (with_spans-append claimed (trees_spans I h) (block_spans (block_list I h)))

-- how many pages there are
pub pages_are : (I : List ℕ) (h : Header) (total : ℕ) (blocks nodes : Tree) → total ≡ length (pages_of blocks) + length (pages_of nodes) → blocks ≡ tree_under Bbt I h.bbt → nodes ≡ tree_under Nbt I h.nbt → total ≡ page_total I h
unfolding page_total
pages_are I h total blocks nodes e b n = rw (← b, ← n) e
