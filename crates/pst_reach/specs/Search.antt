-- The search for the folders that are reached, as it goes on: what is found, and what the rows that are left will add.
use Rattle.std.specs.Prelude.{◌≡◌, ℕ, ◌+◌, Bool, true, ◌||◌, ◌&&◌, is_some, is_none, Option, List, ◌++◌}
use Rattle.std.specs.List.{Contains, list_any}
use Rattle.std.specs.Option.{option_or}
use Rattle.std.specs.Ordering.{nat_cmp}
use Rattle.std.specs.BTreeMap.{BTreeMap, get, is_at}
use Rattle.std.specs.BTreeSet.{BTreeSet}
use Rattle.pst_page.specs.declared.entry.NodeEntry.{NodeEntry}
use Rattle.pst_block.specs.Block.{bid_key}
use Rattle.pst_block.specs.Table.{Table}
use Rattle.pst_btree.specs.Entries.{first_with}
use Rattle.pst_ndb.specs.Counts.{capped}
use Rattle.pst_ndb.specs.Roots.{Roots}
use Rattle.pst_tc.specs.Values.{tc_rows}
use Rattle.pst_reach.specs.declared.reached.Reach.{Reach}
use Rattle.pst_reach.specs.Reach.{folders_named}
use Rattle.pst_reach.specs.Levels.{FolderStep, step_nid, by_rows, found, level, folders_at}

-- what is found of a folder so far
abbrev pub reach_so_far : BTreeMap ℕ Reach → ℕ → Option Reach
reach_so_far m nid = get nat_cmp m nid

abbrev pub is_in : BTreeSet ℕ → ℕ → Bool
is_in s nid = list_any (is_at (nat_cmp nid)) s.keys

-- what will be found of a folder, with these rows of folders at the depth before
abbrev pub found_with : ℕ → BTreeMap ℕ Reach → List FolderStep → ℕ → Option Reach
found_with depth m steps nid = option_or (reach_so_far m nid) (by_rows depth steps nid)

-- whether a folder will be one of the next depth
abbrev pub new_with : BTreeMap ℕ Reach → BTreeSet ℕ → List FolderStep → ℕ → Bool
new_with m next steps nid = is_in next nid || (is_none (reach_so_far m nid) && is_some (first_with step_nid nid steps))

-- These rows were taken: whatever rows follow, the same will be found, and the same be new.
pub record Takes (depth : ℕ) (steps : List FolderStep) (old : BTreeMap ℕ Reach) (before : BTreeSet ℕ) (new : BTreeMap ℕ Reach) (after : BTreeSet ℕ) : Type 0 where
  pub found : (rest : List FolderStep) (nid : ℕ) → found_with depth new rest nid ≡ found_with depth old (steps ++ rest) nid
  pub news : (rest : List FolderStep) (nid : ℕ) → new_with new after rest nid ≡ new_with old before (steps ++ rest) nid

-- Of these rows, the first were taken, and so many are left.
pub record TookAllBut (depth : ℕ) (left all : List FolderStep) (old : BTreeMap ℕ Reach) (before : BTreeSet ℕ) (new : BTreeMap ℕ Reach) (after : BTreeSet ℕ) : Type 0 where
  pub found : (rest : List FolderStep) (nid : ℕ) → found_with depth new (left ++ rest) nid ≡ found_with depth old (all ++ rest) nid
  pub news : (rest : List FolderStep) (nid : ℕ) → new_with new after (left ++ rest) nid ≡ new_with old before (all ++ rest) nid

-- of the folders that are walked from, those before these are counted
abbrev pub IsCountedTo : List ℕ → List ℕ → ℕ → ℕ → Type 0
IsCountedTo left all old now =
    (n : ℕ) × (n + folders_at left ≡ folders_at all) × ((before : ℕ) → old ≡ capped before → now ≡ capped (before + n))

-- ---- tables that several folders have, by their data, whatever their lists of subnodes

abbrev pub table_key : Roots → ℕ
table_key r = bid_key r.bid_data

abbrev pub was_taken : BTreeSet ℕ → Roots → Bool
was_taken tables r = is_in tables (table_key r)

-- of a table that was gone through, each folder that a row names is found
abbrev pub AreTaken : Table → List NodeEntry → BTreeSet ℕ → BTreeMap ℕ Reach → Type 0
AreTaken t nodes tables m =
    (r : Roots) → was_taken tables r ≡ true → (nid : ℕ) → Contains (folders_named nodes (tc_rows t r)) nid → is_some (reach_so_far m nid) ≡ true

-- ---- a depth

-- what is found is what is reached within a depth; and these are the folders at it
abbrev pub IsReachedWithin : Table → List NodeEntry → ℕ → BTreeMap ℕ Reach → Type 0
IsReachedWithin t nodes n m = (nid : ℕ) → reach_so_far m nid ≡ found t nodes n nid

abbrev pub IsLevel : Table → List NodeEntry → ℕ → BTreeSet ℕ → Type 0
IsLevel t nodes n s = s.keys ≡ level t nodes n
