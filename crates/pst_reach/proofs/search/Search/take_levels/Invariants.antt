use Rattle.std.proofs.Common.{◌≡◌, ℕ, ◌+◌, None, length}
use Rattle.pst_btree.specs.Order.{Rises}
use Rattle.pst_ndb.specs.Counts.{capped}
use Rattle.pst_intact.specs.View.{table_of_intact, nodes_of_intact, intact_folders_left}
use Rattle.pst_reach.specs.Reach.{folder_ids}
use Rattle.pst_reach.specs.Levels.{folders_below}
use Rattle.pst_reach.specs.Search.{AreTaken, IsReachedWithin, IsLevel}
use Rattle.pst_reach.proofs.StoreLemmas.{tops}
use Rattle.pst_reach.proofs.search.Search.take_levels.Given as goal

-- what is found is what is reached within the depth, and as many folders are left as depths
abbrev pub invariant-loop-folder : goal.invariant-loop-folder
invariant-loop-folder l = record {
  intact : l.self.intact ≡ l.fn.self.intact;
  taken : AreTaken (table_of_intact l.fn.self.intact) (nodes_of_intact l.fn.self.intact) l.self.tables l.self.found;
  within : IsReachedWithin (table_of_intact l.fn.self.intact) (nodes_of_intact l.fn.self.intact) l.depth l.self.found;
  level : IsLevel (table_of_intact l.fn.self.intact) (nodes_of_intact l.fn.self.intact) l.depth l.level;
  left : l.depth + length (intact_folders_left l.rest) ≡ length (folder_ids (nodes_of_intact l.fn.self.intact));
  rise : Rises l.depth None (tops (intact_folders_left l.rest));
  walked : (before : ℕ) → l.fn.self.walked ≡ capped before → l.self.walked ≡ capped (before + folders_below (table_of_intact l.fn.self.intact) (nodes_of_intact l.fn.self.intact) l.depth);
}

abbrev pub decreases-loop-folder : goal.decreases-loop-folder
decreases-loop-folder l = length (intact_folders_left l.rest)
