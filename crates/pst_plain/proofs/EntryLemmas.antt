-- A file whose pages have the same bytes has the same entries under a header.
use Rattle.std.proofs.Common.{◌≡◌, ℕ, List, map, sym, ap, ◌∙◌}
use Rattle.pst_header.specs.declared.header.Header.{Header}
use Rattle.pst_page.specs.declared.kind.PageKind.TheVariants.{Bbt, Nbt}
use Rattle.pst_page.specs.Entry.{block_entry_at, node_entry_at}
use Rattle.pst_btree.specs.Tree.{Tree, IsTree, entries_of, pages_of}
use Rattle.pst_ndb.specs.Entries.{block_list, node_list}
use Rattle.pst_ndb.proofs.SpaceLaws.{spelt_is}
use Rattle.pst_plain.proofs.SameLemmas.{AreSamePages, tree_same, block_entry_same, node_entry_same, list_same}

module _ (I : List ℕ) (h : Header) (end level : ℕ) (tree : Tree) where
  pub block_list_is : IsTree Bbt I end h.bbt level tree → block_list I h ≡ map (block_entry_at I) (entries_of tree)
  unfolding block_list
  block_list_is t = ap (λ (u : Tree). map (block_entry_at I) (entries_of u)) (sym (spelt_is Bbt I end h.bbt tree (level, t)))

  pub node_list_is : IsTree Nbt I end h.nbt level tree → node_list I h ≡ map (node_entry_at I) (entries_of tree)
  unfolding node_list
  node_list_is t = ap (λ (u : Tree). map (node_entry_at I) (entries_of u)) (sym (spelt_is Nbt I end h.nbt tree (level, t)))

module _ (I T : List ℕ) (h : Header) (end level : ℕ) (tree : Tree) (same : AreSamePages I T (pages_of tree)) where
  pub blocks_same : IsTree Bbt I end h.bbt level tree → block_list T h ≡ block_list I h
  blocks_same t =
      block_list_is T h end level tree (tree_same Bbt I T end h.bbt level tree same t)
      ∙ list_same block_entry_at block_entry_same Bbt I T end level tree same t.spells ∙ sym (block_list_is I h end level tree t)

  pub nodes_same : IsTree Nbt I end h.nbt level tree → node_list T h ≡ node_list I h
  nodes_same t =
      node_list_is T h end level tree (tree_same Nbt I T end h.nbt level tree same t)
      ∙ list_same node_entry_at node_entry_same Nbt I T end level tree same t.spells ∙ sym (node_list_is I h end level tree t)
