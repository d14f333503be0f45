-- What the walk of a B-tree answers.
use Rattle.std.specs.Prelude.{◌≡◌, ℕ, Some, Result, IfOk, IfErr}
use Rattle.pst_bytes.specs.declared.Image.{Image}
use Rattle.pst_bytes.specs.Image.{bytes_of}
use Rattle.pst_fault.specs.declared.fault.Fault.{Fault}
use Rattle.pst_fault.specs.Fault.{no_memory}
use Rattle.pst_header.specs.declared.header.Header.{Header}
use Rattle.pst_header.specs.declared.header.Bref.{Bref}
use Rattle.pst_header.specs.Header.{end_of}
use Rattle.pst_page.specs.declared.kind.PageKind.{PageKind}
use Rattle.pst_page.specs.declared.kind.PageKind.TheVariants.{Bbt, Nbt}
use Rattle.pst_page.specs.Page.{level_at}
use Rattle.pst_space.specs.Claimed.{Claimed, claim_all}
use Rattle.pst_space.specs.Step.{GivesStepBy, ClaimsSome}
use Rattle.pst_btree.specs.Tree.{Tree, IsTree, page_spans, page_spans_at}
use Rattle.pst_btree.specs.View.{TreeParts, found_in, IsWalkedTree}
use Rattle.pst_btree.specs.Walk.{tree_walk}

-- the root of a B-tree, by its kind ([MS-PST] 2.2.2.5, BREFNBT and BREFBBT)
abbrev pub tree_root : PageKind → Header → Bref
tree_root Bbt h = h.bbt
tree_root Nbt h = h.nbt

-- The walk of the B-tree of a kind, in a file with this header: what it answers, of which a tree is shown, and what is claimed then.
pub record IsWalkOf {X : Type 0} (which : PageKind) (file : Image) (h : Header) (old new : Claimed) (shown : X → TreeParts) (result : Result X Fault) : Type 0 where
  -- whether there is a tree, what it is, and what is claimed; or which fault it is, and what is claimed by then
  pub exact : GivesStepBy (λ x. found_in new (shown x)) result new (tree_walk which (bytes_of file) (end_of h) old (tree_root which h))
  -- what is answered is the tree that the file spells there
  pub walked : IfOk result (λ x. IsWalkedTree file (end_of h) which (tree_root which h) old new (shown x))
  -- whatever the answer, the pages from the first up to some one are claimed
  pub some : ClaimsSome old new (page_spans_at which (bytes_of file) (level_at (bytes_of file) (tree_root which h).ib) (tree_root which h))
  -- a tree whose pages can be claimed is answered, unless memory ran out
  pub only : (level : ℕ) (tree : Tree) (claimed : Claimed) → IsTree which (bytes_of file) (end_of h) (tree_root which h) level tree → claim_all old (page_spans tree) ≡ Some claimed → IfErr result (λ f. f ≡ no_memory)
