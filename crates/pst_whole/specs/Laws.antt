-- Laws of what is whole of a damaged file.
use Rattle.std.specs.Prelude.{◌≡◌, ℕ, List, map, Some, None, is_some, true}
use Rattle.std.specs.List.{All, Contains}
use Rattle.pst_page.specs.declared.entry.NodeEntry.{NodeEntry}
use Rattle.pst_btree.specs.Entries.{node_key, node_with}
use Rattle.pst_btree.specs.Order.{Rises}
use Rattle.pst_block.specs.Table.{Table}
use Rattle.pst_encoding.specs.declared.method.Method.{Method}
use Rattle.pst_encoding.specs.Tables.{IsByte}
use Rattle.pst_plain.specs.Twin.{method_of, twin_of}
use Rattle.pst_remains.specs.declared.pages.Broken.{Broken}
use Rattle.pst_remains.specs.Decoded.{decoded_remains_of}
use Rattle.pst_remains.specs.Pages.{page_before}
use Rattle.pst_remains.specs.Remains.{RemainsParts, remains_of}
use Rattle.pst_intact.specs.pst_store.Grammar.{IsStore}
use Rattle.pst_intact.specs.pst_store.Parts.{StoreParts, parts_table, parts_entries}
use Rattle.pst_damage.specs.declared.broken.BrokenNode.{BrokenNode}
use Rattle.pst_damage.specs.Nodes.{node_damage, nodes_damage}
use Rattle.pst_whole.specs.Lost.{lost_of, nothing_lost, told_lost, own_lost, behind_lost}
use Rattle.pst_whole.specs.Nodes.{whole_nodes}

-- ---- of a store

-- All blocks and all nodes are whole, and nothing is told of any identifier.
pub record IsAllWhole (r : RemainsParts) (t : Table) (nodes : List NodeEntry) : Type 0 where
  pub blocks : r.table ≡ t
  pub entries : whole_nodes r.table r.nodes r.broken ≡ nodes
  pub told : lost_of r.table r.nodes r.broken ≡ nothing_lost

-- So what is read of what is whole of a store is read of its blocks and its nodes.
abbrev pub StoreWholeLaw : Type 0
StoreWholeLaw = (I : List ℕ) (s : StoreParts) → IsStore I s → IsAllWhole (remains_of I) (parts_table I s) (parts_entries I s)

-- The same of an encoded file, its blocks decoded, whose plain twin is a store.
abbrev pub DecodedStoreLaw : Type 0
DecodedStoreLaw = (I : List ℕ) (method : Method) (s : StoreParts) → All IsByte I → method_of I ≡ Some method → IsStore (twin_of I) s →
    IsAllWhole (decoded_remains_of method I) (parts_table (twin_of I) s) (parts_entries (twin_of I) s)

-- ---- of any file, of which these nodes are left, over the blocks without fault, beside these pages with a fault

pub record IsSorted (t : Table) (nodes : List NodeEntry) (broken : List Broken) : Type 0 where
  -- The whole nodes are those that are left and have no fault; nothing is told of them.
  pub whole : (e : NodeEntry) → Contains (whole_nodes t nodes broken) e → Contains nodes e × (node_damage t nodes broken e ≡ None)
  pub all : (e : NodeEntry) → Contains nodes e → node_damage t nodes broken e ≡ None → Contains (whole_nodes t nodes broken) e
  pub untold : (e : NodeEntry) → Contains (whole_nodes t nodes broken) e → told_lost (lost_of t nodes broken) e.nid ≡ None
  -- A node that is told to be broken is not among them, and where it is there, its fault is told.
  pub apart : (b : BrokenNode) → Contains (nodes_damage t nodes broken) b → node_with b.nid (whole_nodes t nodes broken) ≡ None
  pub told : (b : BrokenNode) → Contains (nodes_damage t nodes broken) b → is_some (node_with b.nid nodes) ≡ true →
      own_lost t nodes broken b.nid ≡ Some b.fault
  -- Of an identifier that lies behind a broken page the fault of that page is told.
  pub behind : (nid : ℕ) (page : Broken) → node_with nid nodes ≡ None → page_before broken nid ≡ Some page →
      behind_lost nodes broken nid ≡ Some page.fault

abbrev pub SortedLaw : Type 0
SortedLaw = (t : Table) (nodes : List NodeEntry) (broken : List Broken) → Rises 0 None (map node_key nodes) → IsSorted t nodes broken
