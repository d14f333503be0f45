use Rattle.pst_intact.specs.View.{table_of_intact, nodes_of_intact, intact_folders_left}
use Rattle.pst_reach.proofs.LoopLemmas.{listed_all}
use Rattle.pst_reach.proofs.search.Search.list.Goals as goal

pub returns : goal.returns
returns c =
    let intact = c.args.self.now.intact in
    listed_all (table_of_intact intact) (nodes_of_intact intact) c.loop-folder.reached.items (intact_folders_left c.loop-folder.rest) c.in_default.ensures.steps.0.0 c.loop-folder.invariant
