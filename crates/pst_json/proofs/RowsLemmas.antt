-- Folders that are shown, one after another.
use Rattle.std.proofs.Common.{◌≡◌, Bool, true, false, List, [], ◌∷◌, ◌++◌, map, refl, sym, ap, ◌∙◌}
use Rattle.std.specs.List.{filter}
use Rattle.serde_json.specs.Data.{Data}
use Rattle.pst_page.specs.declared.entry.NodeEntry.{NodeEntry}
use Rattle.pst_block.specs.Table.{Table}
use Rattle.pst_ndb.specs.Roots.{Roots, all_roots}
use Rattle.pst_verify.specs.pst_msg.Values.{is_folder}
use Rattle.pst_verify.specs.pst_reach.declared.reached.Reach.{Reach}
use Rattle.pst_verify.specs.pst_reach.Levels.{reaches_of}
use Rattle.pst_verify.specs.pst_store.Kind.{of_kind}
use Rattle.pst_intact.specs.declared.intact.Intact.{Intact}
use Rattle.pst_intact.specs.View.{table_of_intact, nodes_of_intact}
use Rattle.pst_whole.specs.Lost.{LostParts}
use Rattle.pst_json.specs.declared.folder_rows.FolderRows.{FolderRows}
use Rattle.pst_json.specs.FolderRows.{folder_rows, folder_rows_left, intact_of, lost_of_rows, reached_of}
use Rattle.pst_json.specs.Folders.{is_shown, shown_folders, folder_data}

-- ---- folders that pass a test

pub shown_here : (p : Roots → Bool) (all left rest : List Roots) (x : Roots) → left ≡ x ∷ rest → p x ≡ true → all ≡ filter p left → all ≡ x ∷ filter p rest
shown_here p all left rest x is passes so_far = so_far ∙ rw (is, passes) refl

pub not_shown : (p : Roots → Bool) (all left rest : List Roots) (x : Roots) → left ≡ x ∷ rest → p x ≡ false → all ≡ filter p left → all ≡ filter p rest
not_shown p all left rest x is fails so_far = so_far ∙ rw (is, fails) refl

pub none_shown : (p : Roots → Bool) (all left : List Roots) → left ≡ [] → all ≡ filter p left → all ≡ []
none_shown p all left is so_far = so_far ∙ rw is refl

-- two parts, of which the first has one more, or none

pub front_more : (front rest behind : List Roots) (x : Roots) → front ≡ x ∷ rest → front ++ behind ≡ x ∷ (rest ++ behind)
front_more front rest behind x is = rw is refl

pub front_none : (front behind : List Roots) → front ≡ [] → front ++ behind ≡ behind
front_none front behind is = rw is refl

-- all of them, the first part before the other
pub rows_of_all : (t : Table) (nodes : List NodeEntry) (lost : LostParts) (reached : List Reach) (left : List Roots) → left ≡ of_kind is_folder (all_roots nodes) → reached ≡ reaches_of t nodes → map (folder_data t nodes lost reached) (filter (is_shown false reached) left ++ filter (is_shown true reached) (of_kind is_folder (all_roots nodes))) ≡ map (folder_data t nodes lost (reaches_of t nodes)) (shown_folders nodes (reaches_of t nodes))
rows_of_all t nodes lost reached left all found = rw (all, found) refl

-- ---- the rows that are left

abbrev rows_of : Intact → LostParts → List Reach → List Roots → List Data
rows_of i lost reached rs = map (folder_data (table_of_intact i) (nodes_of_intact i) lost reached) rs

pub rows_more : (old now : FolderRows) (x : Roots) → intact_of now ≡ intact_of old → lost_of_rows now ≡ lost_of_rows old → reached_of now ≡ reached_of old → folder_rows_left old ≡ x ∷ folder_rows_left now
    → folder_rows old ≡ folder_data (table_of_intact (intact_of now)) (nodes_of_intact (intact_of now)) (lost_of_rows now) (reached_of now) x ∷ folder_rows now
rows_more old now x same_intact same_lost same_reached is =
    ap (λ i. rows_of i (lost_of_rows old) (reached_of old) (folder_rows_left old)) (sym same_intact)
    ∙ ap (λ l. rows_of (intact_of now) l (reached_of old) (folder_rows_left old)) (sym same_lost)
    ∙ ap (λ r. rows_of (intact_of now) (lost_of_rows now) r (folder_rows_left old)) (sym same_reached)
    ∙ ap (rows_of (intact_of now) (lost_of_rows now) (reached_of now)) is

pub rows_none : (rows : FolderRows) → folder_rows_left rows ≡ [] → folder_rows rows ≡ []
rows_none rows is = ap (rows_of (intact_of rows) (lost_of_rows rows) (reached_of rows)) is
