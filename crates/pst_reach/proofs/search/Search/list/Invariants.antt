use Rattle.std.proofs.Common.{◌≡◌, ◌++◌, length}
use Rattle.std.specs.List.{filter_map}
use Rattle.pst_intact.specs.View.{table_of_intact, nodes_of_intact, intact_folders_left}
use Rattle.pst_reach.specs.Reach.{folder_ids}
use Rattle.pst_reach.specs.Levels.{found}
use Rattle.pst_reach.proofs.StoreLemmas.{tops}
use Rattle.pst_reach.proofs.search.Search.list.Given as goal

-- those that are listed, and those among the folders that are left, are all
abbrev pub invariant-loop-folder : goal.invariant-loop-folder
invariant-loop-folder l =
    let t = table_of_intact l.self.intact in
    let nodes = nodes_of_intact l.self.intact in
    let h = found t nodes (length (folder_ids nodes)) in
    l.reached.items ++ filter_map h (tops (intact_folders_left l.rest)) ≡ filter_map h (folder_ids nodes)

abbrev pub decreases-loop-folder : goal.decreases-loop-folder
decreases-loop-folder l = length (intact_folders_left l.rest)
