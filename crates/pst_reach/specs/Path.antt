-- The path of a folder that is reached: from the root folder down the parents, itself the last. And the folders that are not
-- reached.
use Rattle.std.specs.Prelude.{◌≡◌, ℕ, zero, suc, ◌<◌, Bool, is_some, is_none, Option, Some, None, option_map, List, [], ◌∷◌, length}
use Rattle.std.specs.List.{filter, slice_index_or}
use Rattle.pst_page.specs.declared.entry.NodeEntry.{NodeEntry}
use Rattle.pst_block.specs.Table.{Table}
use Rattle.pst_btree.specs.Entries.{first_with}
use Rattle.pst_reach.specs.declared.reached.Reach.{Reach}
use Rattle.pst_reach.specs.Reach.{folder_ids}
use Rattle.pst_reach.specs.Levels.{reaches_of}

-- ---- among folders that are reached

abbrev pub reach_nid : Reach → ℕ
reach_nid x = x.nid

-- the one with an identifier
abbrev pub reach_in : List Reach → ℕ → Option Reach
reach_in xs nid = first_with reach_nid nid xs

-- the place at which it stands
pub record IsPlaceIn (xs : List Reach) (nid i : ℕ) : Type 0 where
  pub in_range : i < length xs
  pub found : (x : Reach) → slice_index_or xs i x ≡ x → reach_in xs nid ≡ Some x

-- its parent, and 0 where it is not among them
abbrev pub parent_or_zero : Option Reach → ℕ
parent_or_zero None = 0
parent_or_zero (Some x) = x.parent

abbrev pub parent_in : List Reach → ℕ → ℕ
parent_in xs nid = parent_or_zero (reach_in xs nid)

-- ---- paths

-- so many parents above a folder, the folder, and what is below it
unfoldable pub path_above : List Reach → ℕ → ℕ → List ℕ → List ℕ
path_above xs zero nid below = nid ∷ below
path_above xs (suc depth) nid below = path_above xs depth (parent_in xs nid) (nid ∷ below)

abbrev pub path_to : List Reach → Reach → List ℕ
path_to xs x = path_above xs x.depth x.nid []

-- the path of the folder with an identifier; none where it is not among them
abbrev pub path_in : List Reach → ℕ → Option (List ℕ)
path_in xs nid = option_map (path_to xs) (reach_in xs nid)

-- ---- folders that are not reached

abbrev pub is_reached_in : List Reach → ℕ → Bool
is_reached_in xs nid = is_some (reach_in xs nid)

abbrev pub is_lost_in : List Reach → ℕ → Bool
is_lost_in xs nid = is_none (reach_in xs nid)

-- the folders and search folders of a store that its root folder does not reach, their identifiers rising
unfoldable pub unreached_of : Table → List NodeEntry → List ℕ
unreached_of t nodes = filter (is_lost_in (reaches_of t nodes)) (folder_ids nodes)
