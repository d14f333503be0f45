use Rattle.std.proofs.Common.{◌≡◌, ◌++◌, length, filter}
use Rattle.pst_ndb.specs.Views.{table_of_ndb, nodes_of}
use Rattle.pst_store.specs.View.{folders_left}
use Rattle.pst_reach.specs.Reach.{folder_ids}
use Rattle.pst_reach.specs.Levels.{reaches_of}
use Rattle.pst_reach.specs.Path.{is_lost_in}
use Rattle.pst_reach.proofs.StoreLemmas.{tops}
use Rattle.pst_reach.proofs.lost.unreached.Given as goal

-- those that are listed, and those among the folders that are left, are all
abbrev pub invariant-loop-folder : goal.invariant-loop-folder
invariant-loop-folder l =
    let nodes = nodes_of l.ndb in
    let p = is_lost_in (reaches_of (table_of_ndb l.ndb) nodes) in
    l.lost.items ++ filter p (tops (folders_left l.rest)) ≡ filter p (folder_ids nodes)

abbrev pub decreases-loop-folder : goal.decreases-loop-folder
decreases-loop-folder l = length (folders_left l.rest)
