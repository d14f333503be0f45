-- Which folders are reached from the root folder, by rows of hierarchy tables ([MS-PST] 2.4.4.4): in the format's words. Nothing
-- here searches.
use Rattle.std.specs.Prelude.{◌≡◌, ℕ, zero, suc, ◌≤◌, Bool, is_some, Option, Some, None, List, [], map}
use Rattle.std.specs.List.{Contains, filter}
use Rattle.pst_page.specs.declared.entry.NodeEntry.{NodeEntry}
use Rattle.pst_block.specs.Table.{Table}
use Rattle.pst_btree.specs.Order.{Rises}
use Rattle.pst_ndb.specs.Roots.{Roots, all_roots}
use Rattle.pst_tc.specs.Values.{RowParts}
use Rattle.pst_store.specs.pst_msg.pst_mail.declared.items.Items.TheVariants.{Subfolders}
use Rattle.pst_store.specs.pst_msg.pst_mail.declared.nid.TheConstants.{ROOT}
use Rattle.pst_store.specs.pst_msg.Shown.{rows_there, folder_table}
use Rattle.pst_store.specs.pst_msg.Values.{is_folder}
use Rattle.pst_store.specs.Kind.{of_kind, node_of_kind}
use Rattle.pst_reach.specs.declared.reached.Reach.{Reach}

-- the identifiers of the folders and search folders of a store, rising
abbrev pub folder_ids : List NodeEntry → List ℕ
folder_ids nodes = map (λ (r : Roots). r.top) (of_kind is_folder (all_roots nodes))

-- what the rows of a table name
abbrev pub ids_of : List RowParts → List ℕ
ids_of rows = map (λ (x : RowParts). x.id) rows

-- a folder or search folder with this identifier is among the nodes
abbrev pub is_folder_among : List NodeEntry → ℕ → Bool
is_folder_among nodes nid = is_some (node_of_kind is_folder nodes nid)

-- the folders among them that the rows of a table name: in a store each row names one, and of a damaged file a row that names what is
-- not among its whole nodes leads nowhere
abbrev pub folders_named : List NodeEntry → List RowParts → List ℕ
folders_named nodes rows = filter (is_folder_among nodes) (ids_of rows)

-- the folders that the hierarchy table of a folder names, row by row; a search folder has no such table
abbrev subfolders_in : Table → List NodeEntry → Option Roots → List ℕ
subfolders_in t nodes None = []
subfolders_in t nodes (Some r) = folders_named nodes (rows_there t (folder_table nodes Subfolders r.top))

unfoldable pub subfolders_of : Table → List NodeEntry → ℕ → List ℕ
subfolders_of t nodes nid = subfolders_in t nodes (node_of_kind is_folder nodes nid)

-- A way of so many rows leads from the root folder to a folder: of none to the root folder itself, of one more to what a folder
-- names to which a way leads.
abbrev pub IsWay : Table → List NodeEntry → ℕ → ℕ → Type 0
IsWay t nodes nid zero = nid ≡ ROOT
IsWay t nodes nid (suc n) = (parent : ℕ) × IsWay t nodes parent n × Contains (subfolders_of t nodes parent) nid

-- Its depth is the least number of rows that lead to it.
pub record IsDepth (t : Table) (nodes : List NodeEntry) (nid n : ℕ) : Type 0 where
  pub way : IsWay t nodes nid n
  pub least : (m : ℕ) → IsWay t nodes nid m → n ≤ m

-- Its parent is the least folder, one row higher, whose table names it. The root folder has the parent 0.
abbrev pub MayBeParent : Table → List NodeEntry → ℕ → ℕ → ℕ → Type 0
MayBeParent t nodes nid n parent = IsDepth t nodes parent n × Contains (subfolders_of t nodes parent) nid

abbrev pub IsParent : Table → List NodeEntry → ℕ → ℕ → ℕ → Type 0
IsParent t nodes nid zero parent = parent ≡ 0
IsParent t nodes nid (suc n) parent = MayBeParent t nodes nid n parent × ((other : ℕ) → MayBeParent t nodes nid n other → parent ≤ other)

pub record IsReach (t : Table) (nodes : List NodeEntry) (x : Reach) : Type 0 where
  pub depth : IsDepth t nodes x.nid x.depth
  pub parent : IsParent t nodes x.nid x.depth x.parent

-- These are all folders and search folders to which no way leads, each once, their identifiers rising.
pub record AreAllUnreached (t : Table) (nodes : List NodeEntry) (nids : List ℕ) : Type 0 where
  pub rise : Rises 0 None nids
  pub sound : (nid : ℕ) → Contains nids nid → Contains (folder_ids nodes) nid × ((n : ℕ) → IsWay t nodes nid n → ⊥)
  pub all : (nid : ℕ) → Contains (folder_ids nodes) nid → ((n : ℕ) → IsWay t nodes nid n → ⊥) → Contains nids nid

-- These are all folders that are reached, each once, their identifiers rising.
pub record AreAllReached (t : Table) (nodes : List NodeEntry) (xs : List Reach) : Type 0 where
  pub rise : Rises 0 None (map (λ (x : Reach). x.nid) xs)
  pub sound : (x : Reach) → Contains xs x → IsReach t nodes x
  pub all : (nid n : ℕ) → IsWay t nodes nid n → (x : Reach) × Contains xs x × (x.nid ≡ nid)
