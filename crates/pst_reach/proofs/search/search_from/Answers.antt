use Rattle.pst_intact.specs.View.{table_of_intact, nodes_of_intact}
use Rattle.pst_reach.proofs.LoopLemmas.{none_in_empty, root_found, root_level}
use Rattle.pst_reach.proofs.search.search_from.Goals as goal

pub take_levels-requires-clause-within : goal.take_levels-requires-clause-within
take_levels-requires-clause-within c =
    let intact = c.args.intact.now in
    root_found (table_of_intact intact) (nodes_of_intact intact) c.new-found.result c.insert.new.self (none_in_empty c.new-found.result c.new-found.ensures.empty) c.in_ok-_none.ensures.updates.0

pub take_levels-requires-clause-level : goal.take_levels-requires-clause-level
take_levels-requires-clause-level c =
    let intact = c.args.intact.now in
    root_level (table_of_intact intact) (nodes_of_intact intact) c.new-level.result c.insert-2.new.self c.new-level.ensures.empty c.in_ok-_new.ensures.keys
