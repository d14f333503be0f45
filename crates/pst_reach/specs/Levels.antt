-- The folders that are reached, as a function of the store: level by level from the root folder.
use Rattle.std.specs.Prelude.{ℕ, zero, suc, ◌+◌, Bool, ◌==◌, ◌&&◌, is_some, is_none, Option, Some, None, option_map, List, [], ◌∷◌, ◌++◌, length, map, if◌then◌else◌}
use Rattle.std.specs.List.{filter, filter_map}
use Rattle.std.specs.Option.{option_or}
use Rattle.pst_page.specs.declared.entry.NodeEntry.{NodeEntry}
use Rattle.pst_block.specs.Table.{Table}
use Rattle.pst_btree.specs.Entries.{first_with}
use Rattle.pst_store.specs.pst_msg.pst_mail.declared.nid.TheConstants.{ROOT, FOLDER}
use Rattle.pst_store.specs.pst_msg.Nid.{is_type}
use Rattle.pst_reach.specs.declared.reached.Reach.{Reach}
use Rattle.pst_reach.specs.Reach.{folder_ids, subfolders_of}

-- a row of a hierarchy table: the folder whose table it is, and the one that it names
pub record FolderStep : Type 0 where
  pub parent : ℕ
  pub nid : ℕ

abbrev pub folder_step : ℕ → ℕ → FolderStep
folder_step parent nid = record { parent = parent; nid = nid }

abbrev pub step_nid : FolderStep → ℕ
step_nid s = s.nid

-- the rows of a folder's table, which name these
abbrev pub steps_named : ℕ → List ℕ → List FolderStep
steps_named parent ids = map (folder_step parent) ids

-- the rows of the tables of these folders, folder by folder
abbrev pub steps_of : Table → List NodeEntry → ℕ → List FolderStep
steps_of t nodes parent = steps_named parent (subfolders_of t nodes parent)

abbrev pub steps_from : Table → List NodeEntry → List ℕ → List FolderStep
steps_from t nodes [] = []
steps_from t nodes (parent ∷ rest) = steps_of t nodes parent ++ steps_from t nodes rest

-- what a row reaches at a depth
abbrev pub reached_by : ℕ → FolderStep → Reach
reached_by depth s = record { nid = s.nid; parent = s.parent; depth = depth }

-- what is found of a folder by these rows: by the first that names it
abbrev pub by_rows : ℕ → List FolderStep → ℕ → Option Reach
by_rows depth steps nid = option_map (reached_by depth) (first_with step_nid nid steps)

-- the root folder is at depth 0
abbrev pub root_reach : Reach
root_reach = record { nid = ROOT; parent = 0; depth = 0 }

abbrev pub at_root : ℕ → Option Reach
at_root nid = if ROOT == nid then Some root_reach else None

-- a folder that these rows name, and that was not found before
abbrev pub is_new : (ℕ → Option Reach) → List FolderStep → ℕ → Bool
is_new before steps nid = is_none (before nid) && is_some (first_with step_nid nid steps)

-- What is found of a folder within a depth: by the least depth, and there by the first row that names it. And the folders at a
-- depth, their identifiers rising.
unfoldable mutual
  pub found : Table → List NodeEntry → ℕ → ℕ → Option Reach
  found t nodes zero nid = at_root nid
  found t nodes (suc n) nid = option_or (found t nodes n nid) (by_rows (suc n) (steps_from t nodes (level t nodes n)) nid)

  pub level : Table → List NodeEntry → ℕ → List ℕ
  level t nodes zero = ROOT ∷ []
  level t nodes (suc n) = filter (is_new (found t nodes n) (steps_from t nodes (level t nodes n))) (folder_ids nodes)

-- how many of these are folders, and no search folders; and how many at lesser depths are
abbrev pub folders_at : List ℕ → ℕ
folders_at nids = length (filter (is_type FOLDER) nids)

abbrev pub folders_below : Table → List NodeEntry → ℕ → ℕ
folders_below t nodes zero = 0
folders_below t nodes (suc n) = folders_below t nodes n + folders_at (level t nodes n)

-- all that are reached: no way is as long as there are folders, unless it goes in a circle
unfoldable pub reaches_of : Table → List NodeEntry → List Reach
reaches_of t nodes = filter_map (found t nodes (length (folder_ids nodes))) (folder_ids nodes)

-- how many of them are folders, and no search folders
abbrev pub folders_in : List Reach → ℕ
folders_in xs = folders_at (map (λ (x : Reach). x.nid) xs)
