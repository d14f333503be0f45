use Rattle.pst_ndb.specs.Views.{table_of_node, roots_of}
use Rattle.pst_pc.specs.View.{node_of_pc}
use Rattle.pst_names.proofs.StreamLemmas.{found_spans}
use Rattle.pst_names.proofs.streams.stream.Goals as goal

pub returns-in-Some-clause-shows : goal.returns-in-Some-clause-shows
returns-in-Some-clause-shows c =
    let node = node_of_pc c.args.pc.now in
    let w = c.in-Some.ensures.lent in
    rw (found_spans (table_of_node node) (roots_of node) c.args.id w.0 w.1) w.2.1
