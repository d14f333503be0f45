-- What the walk of a B-tree answers, as it is handed on: a fault, or what shows the tree.
use Rattle.std.proofs.Common.{◌≡◌, ◌⊎◌, ℕ, length, Ok, Err}
use Rattle.pst_bytes.specs.declared.Image.{Image}
use Rattle.pst_bytes.specs.Image.{bytes_of}
use Rattle.pst_fault.specs.declared.fault.Fault.{Fault}
use Rattle.pst_fault.specs.Fault.{no_memory}
use Rattle.pst_header.specs.declared.header.Header.{Header}
use Rattle.pst_header.specs.Header.{end_of}
use Rattle.pst_page.specs.declared.kind.PageKind.{PageKind}
use Rattle.pst_page.specs.Page.{level_at}
use Rattle.pst_space.specs.Claimed.{Claimed}
use Rattle.pst_space.specs.Step.{Step, ClaimsSome}
use Rattle.pst_btree.specs.Tree.{pages_of, page_spans_at}
use Rattle.pst_btree.specs.View.{TreeParts, tree_of, entries, found_in, IsWalkedTree}
use Rattle.pst_btree.specs.Walk.{Found, found_so_far, tree_walk}
use Rattle.pst_btree.specs.Walked.{tree_root, IsWalkOf}
use Rattle.pst_btree.proofs.TreeLaws.{not_refused}

module _ {X : Type 0} (which : PageKind) (file : Image) (h : Header) (old new : Claimed) (shown : X → TreeParts) where
  -- the walk itself, and what is claimed of its pages
  abbrev pub walk_step : Step Found
  walk_step = tree_walk which (bytes_of file) (end_of h) old (tree_root which h)

  abbrev pub ClaimsPages : Type 0
  ClaimsPages = ClaimsSome old new (page_spans_at which (bytes_of file) (level_at (bytes_of file) (tree_root which h).ib) (tree_root which h))

  -- a fault of the walk is handed on
  pub refused : (f : Fault) → (f ≡ no_memory) ⊎ (walk_step ≡ Err (new, f)) → ClaimsPages → IsWalkOf which file h old new shown (Err f)
  refused f exact some = record {
    exact = exact;
    walked = tt;
    some = some;
    only = λ level tree claimed t k. not_refused (λ x. found_in new (shown x)) (Err f) which (bytes_of file) (end_of h) level old new claimed tree (tree_root which h) t k exact;
  }

  -- what is answered shows the tree that was walked
  pub handed_on : (x : X) (parts : TreeParts) (pages : ℕ) → shown x ≡ parts → pages ≡ length (pages_of (tree_of parts)) → walk_step ≡ Ok (found_so_far new (entries parts) pages)
      → IsWalkedTree file (end_of h) which (tree_root which h) old new parts → ClaimsPages → IsWalkOf which file h old new shown (Ok x)
  handed_on x parts pages same counted exact walked some = record {
    exact = rw (same, ← counted) exact;
    walked = rw same walked;
    some = some;
    only = λ level tree claimed t k. tt;
  }
