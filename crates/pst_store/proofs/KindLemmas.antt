-- Nodes of a kind, one after another.
use Rattle.std.proofs.Common.{◌≡◌, ℕ, Bool, true, false, List, [], ◌∷◌, refl, sym, ap, ◌∙◌}
use Rattle.std.specs.Prelude.{map}
use Rattle.pst_page.specs.declared.entry.NodeEntry.{NodeEntry}
use Rattle.pst_bytes.specs.declared.Image.{Image}
use Rattle.pst_block.specs.Table.{Table}
use Rattle.pst_ndb.specs.declared.nodes.Nodes.{Nodes}
use Rattle.pst_ndb.specs.declared.node.Node.{Node}
use Rattle.pst_ndb.specs.Node.{NodeParts, entry_parts}
use Rattle.pst_ndb.specs.Roots.{Roots}
use Rattle.pst_ndb.specs.Views.{parts_of, parts_left, nid_of, top_of}
use Rattle.pst_store.specs.Kind.{of_kind}

-- one that is of the kind
pub kept : (kind : ℕ → Bool) (xs rest : List Roots) (x : Roots) → xs ≡ x ∷ rest → kind x.top ≡ true → of_kind kind xs ≡ x ∷ of_kind kind rest
kept kind xs rest x is here = rw (is, here) refl

-- one that is not
pub passed : (kind : ℕ → Bool) (xs rest : List Roots) (x : Roots) → xs ≡ x ∷ rest → kind x.top ≡ false → of_kind kind xs ≡ of_kind kind rest
passed kind xs rest x is here = rw (is, here) refl

-- none is left
pub ended : (kind : ℕ → Bool) (xs : List Roots) → xs ≡ [] → of_kind kind xs ≡ []
ended kind xs is = rw is refl

-- a node of the node B-tree is reached from itself
own_parts : (image : Image) (t : Table) (es : List NodeEntry) (p : NodeParts) (rest : List NodeParts) → map (entry_parts image t) es ≡ p ∷ rest → p.nid ≡ p.top
own_parts image t [] p rest e = cc
own_parts image t (x ∷ xs) p rest e = let same : entry_parts image t x ≡ p = cc in sym (ap (λ (p : NodeParts). p.nid) same) ∙ ap (λ (p : NodeParts). p.top) same

pub own_nid : (nodes : Nodes) (n : Node) (rest : List NodeParts) → parts_left nodes ≡ parts_of n ∷ rest → nid_of n ≡ top_of n
own_nid nodes n rest e = own_parts _ _ _ (parts_of n) rest e
