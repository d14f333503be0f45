use Rattle.std.proofs.Common.{◌≡◌, length}
use Rattle.pst_intact.specs.View.{table_of_intact, nodes_of_intact}
use Rattle.pst_reach.specs.Levels.{steps_from}
use Rattle.pst_reach.specs.Search.{AreTaken, TookAllBut, IsCountedTo}
use Rattle.pst_reach.proofs.search.Search.take_level.Given as goal

-- the rows of all folders but those that are left were taken
abbrev pub invariant-loop-parent : goal.invariant-loop-parent
invariant-loop-parent l = record {
  intact : l.self.intact ≡ l.fn.self.intact;
  taken : AreTaken (table_of_intact l.fn.self.intact) (nodes_of_intact l.fn.self.intact) l.self.tables l.self.found;
  took : let t = table_of_intact l.fn.self.intact in let nodes = nodes_of_intact l.fn.self.intact in
      TookAllBut l.depth (steps_from t nodes l.level.keys) (steps_from t nodes l.initial.level.keys) l.fn.self.found l.initial.next l.self.found l.next;
  walked : IsCountedTo l.level.keys l.initial.level.keys l.fn.self.walked l.self.walked;
}

abbrev pub decreases-loop-parent : goal.decreases-loop-parent
decreases-loop-parent l = length l.level.keys
