use Rattle.std.proofs.Common.{◌≡◌, length, filter}
use Rattle.pst_intact.specs.View.{intact_folders_left, folders_beside}
use Rattle.pst_json.specs.Folders.{is_shown}
use Rattle.pst_json.proofs.folder_rows.next_of.Given as goal

-- those that are left are all that were, but for some that are not shown
abbrev pub invariant-loop-folder : goal.invariant-loop-folder
invariant-loop-folder l = record {
  left : filter (is_shown l.lone l.reached) (intact_folders_left l.initial.rest) ≡ filter (is_shown l.lone l.reached) (intact_folders_left l.rest);
  beside : folders_beside l.rest ≡ folders_beside l.initial.rest;
}

abbrev pub decreases-loop-folder : goal.decreases-loop-folder
decreases-loop-folder l = length (intact_folders_left l.rest)
